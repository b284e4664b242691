use Rattle.std.proofs.Common.{◌≡◌, drop}
use Rattle.ks_history.specs.Step.{place_in}
use Rattle.ks_group.proofs.group.place_of.Given as goal

abbrev pub invariant-loop-place : goal.invariant-loop-place
invariant-loop-place l = place_in l.task l.members (drop l.place-index l.active) ≡ place_in l.task l.members l.active
