use Rattle.std.proofs.Common.{◌≡◌, length}
use Rattle.serde_json.specs.View.{items_view}
use Rattle.ks_journal.specs.Reading.{all_onto, all_in, place_in, whole_in}
use Rattle.ks_journal_line.proofs.reading.all_held.Given as goal

abbrev pub invariant-loop-rest : goal.invariant-loop-rest
invariant-loop-rest l = all_onto (place_in whole_in) l.found.items (items_view l.rest) ≡ all_in (place_in whole_in) (items_view l.items)

abbrev pub decreases-loop-rest : goal.decreases-loop-rest
decreases-loop-rest l = length l.rest
