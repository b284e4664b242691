use Rattle.std.proofs.Common.{◌≡◌, ◌++◌, drop}
use Rattle.ks_history.specs.State.{insert_number}
use Rattle.ks_group.proofs.group.with_member.Given as goal

abbrev pub invariant-loop-i : goal.invariant-loop-i
invariant-loop-i l = l.made.items ++ insert_number l.w (drop l.i l.members) ≡ insert_number l.w l.members
