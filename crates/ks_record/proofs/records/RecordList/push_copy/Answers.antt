use Rattle.std.proofs.Common.{◌++◌, ◌∷◌, [], ap, ap₂, ◌∙◌}
use Rattle.ks_record.specs.Records.{recs_in, ends_moved, rec_of_list}
use Rattle.ks_record.proofs.Blocks.{one_copied}
use Rattle.ks_record.proofs.records.RecordList.push_copy.Goals as goal

pub returns-clause-ok : goal.returns-clause-ok
returns-clause-ok c =
    let bytes = c.self.inside.bytes in
    let whole = c.whole.result in
    let start = c.len.ensures ∙ bytes.ok.0 in
    let last = c.in_ok-moved.ensures ∙ ap (λ n. ends_moved n whole.0) start in
    let ends = c.push_reserved.ensures.items ∙ ap₂ (λ es e. es ++ e ∷ []) c.in_ok-reserve.ensures.items last in
    ap₂ recs_in c.in_ok-push_bytes.ensures.ok ends
    ∙ (one_copied bytes.items whole.1.now c.self.inside.ends.items whole.0 (rec_of_list c.args.from.now c.args.place) c.self.invariant c.whole.ensures.copy
    ∙ ap (λ rs. rs ++ rec_of_list c.args.from.now c.args.place ∷ []) c.self.view_is)
