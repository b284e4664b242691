use Rattle.std.proofs.Common.{◌≡◌}
use Rattle.ks_task.proofs.changelogs.apply_changelogs.Given as goal

abbrev pub invariant-loop-i : goal.invariant-loop-i
invariant-loop-i l = l.changelogs.items ≡ l.initial.changelogs.items
