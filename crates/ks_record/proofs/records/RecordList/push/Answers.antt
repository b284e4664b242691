use Rattle.std.proofs.Common.{◌++◌, ◌∷◌, [], ap, ap₂, ◌∙◌}
use Rattle.ks_record.specs.Records.{record_seen, recs_in, ends_behind}
use Rattle.ks_record.proofs.Blocks.{one_more}
use Rattle.ks_record.proofs.records.RecordList.push.Goals as goal

pub returns-clause-ok : goal.returns-clause-ok
returns-clause-ok c =
    let bytes = c.self.inside.bytes in
    let rec = record_seen c.args.rec in
    let start = c.len.ensures ∙ bytes.ok.0 in
    let last = c.in_ok-ends.ensures ∙ ap (λ n. ends_behind n rec) start in
    let ends = c.push_reserved.ensures.items ∙ ap₂ (λ es e. es ++ e ∷ []) c.in_ok-reserve.ensures.items last in
    ap₂ recs_in c.in_ok-push_record.ensures.ok ends
    ∙ (one_more bytes.items c.self.inside.ends.items rec c.self.invariant
    ∙ ap (λ rs. rs ++ rec ∷ []) c.self.view_is)
