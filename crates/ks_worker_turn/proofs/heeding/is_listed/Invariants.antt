use Rattle.std.proofs.Common.{◌≡◌, drop}
use Rattle.ks_history.specs.State.{has_number}
use Rattle.ks_worker_turn.proofs.heeding.is_listed.Given as goal

-- the members that are left decide
abbrev pub invariant-loop-member : goal.invariant-loop-member
invariant-loop-member l = has_number l.number (drop l.member-index l.members) ≡ has_number l.number l.members
