use Rattle.std.proofs.Common.{◌≡◌, length}
use Rattle.serde_json.specs.View.{items_view}
use Rattle.ks_journal.specs.Reading.{all_onto, all_in, place_in, below_in}
use Rattle.ks_journal_line.proofs.reading.all_places.Given as goal

abbrev pub invariant-loop-rest : goal.invariant-loop-rest
invariant-loop-rest l = all_onto (place_in (below_in 256)) l.found.items (items_view l.rest) ≡ all_in (place_in (below_in 256)) (items_view l.items)

abbrev pub decreases-loop-rest : goal.decreases-loop-rest
decreases-loop-rest l = length l.rest
