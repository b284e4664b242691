use Rattle.std.proofs.Common.{◌<◌, List, ℕ, length, arith, sym, ap, subst, ◌∙◌}
use Rattle.std.specs.Prelude.{slice_range}
use Rattle.std.proofs.lemmas.List.{length-map}
use Rattle.ks_record.specs.Records.{rec_at, IsCopy, rec_of_list}
use Rattle.ks_record.proofs.Blocks.{rec_there, within_there, is_copy}
use Rattle.ks_record.proofs.records.RecordList.whole.Goals as goal

pub returns-clause-copy : goal.returns-clause-copy
returns-clause-copy c =
    let place = c.args.place in
    let ends = c.index-ends.result.now in
    let es = c.self.inside.ends.items in
    let block = c.self.inside.bytes.items in
    let lt : place < length es = omega (arith, c.requires, ap length c.self.view_is, length-map es (rec_at block)) in
    subst (λ (xs : List ℕ). IsCopy ends (slice_range xs ends.start ends.end) (rec_of_list c.args.self.now place)) (sym c.as_slice-bytes.ensures.value)
    (is_copy block ends (rec_of_list c.args.self.now place)
    (within_there block es place ends lt c.index-ends.ensures c.self.invariant)
    (rec_there block es place ends lt c.index-ends.ensures ∙ ap (λ rs. rec_of_list rs place) c.self.view_is))
