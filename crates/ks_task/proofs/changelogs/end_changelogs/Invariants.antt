use Rattle.std.proofs.Common.{◌≡◌, ◌++◌, map, take, drop}
use Rattle.ks_task.specs.Views.{ended}
use Rattle.ks_task.proofs.changelogs.end_changelogs.Given as goal

abbrev pub invariant-loop-i : goal.invariant-loop-i
invariant-loop-i l = l.changelogs.items ≡ map (ended l.ends) (take l.i l.initial.changelogs.items) ++ drop l.i l.initial.changelogs.items
