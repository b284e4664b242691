use Rattle.std.proofs.Common.{◌≡◌, ◌+◌, ◌≤◌, drop}
use Rattle.ks_history.specs.Step.{places_of}
use Rattle.ks_group.proofs.group.places.Given as goal

abbrev pub invariant-loop-place : goal.invariant-loop-place
invariant-loop-place l = (l.count + places_of l.task l.members (drop l.place-index l.active) ≡ places_of l.task l.members l.active) × (l.count ≤ l.place-index)
