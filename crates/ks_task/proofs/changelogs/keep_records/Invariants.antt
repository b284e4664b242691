use Rattle.std.proofs.Common.{◌≡◌, ◌++◌, map, take, drop}
use Rattle.ks_task.specs.Views.{log_after}
use Rattle.ks_task.proofs.changelogs.keep_records.Given as goal

abbrev pub invariant-loop-i : goal.invariant-loop-i
invariant-loop-i l = l.changelogs.items ≡ map (log_after l.part (drop l.from l.made)) (take l.i l.initial.changelogs.items) ++ drop l.i l.initial.changelogs.items
