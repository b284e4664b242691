use Rattle.std.proofs.Common.{◌≡◌, drop}
use Rattle.ks_history.specs.State.{has_number}
use Rattle.ks_group.proofs.group.is_member.Given as goal

abbrev pub invariant-loop-m : goal.invariant-loop-m
invariant-loop-m l = has_number l.w (drop l.m-index l.members) ≡ has_number l.w l.members
