use Rattle.std.proofs.Common.{◌≡◌, drop}
use Rattle.ks_worker_turn.specs.Places.{has_place}
use Rattle.ks_worker_turn.proofs.placing.has_place.Given as goal

-- the places that are left decide
abbrev pub invariant-loop-place : goal.invariant-loop-place
invariant-loop-place l = has_place l.task l.number (drop l.place-index l.places) ≡ has_place l.task l.number l.places
