use Rattle.std.proofs.Common.{◌≡◌, ◌++◌, map, take, drop}
use Rattle.ks_task.specs.Views.{holding, plain_log}
use Rattle.ks_task.proofs.changelogs.hold_changelogs.Given as goal

abbrev pub invariant-loop-i : goal.invariant-loop-i
invariant-loop-i l =
    (l.changelogs.items ≡ map (holding l.cache) (take l.i l.initial.changelogs.items) ++ drop l.i l.initial.changelogs.items)
    × (map plain_log l.changelogs.items ≡ map plain_log l.initial.changelogs.items)
