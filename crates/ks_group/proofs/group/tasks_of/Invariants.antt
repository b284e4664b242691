use Rattle.std.proofs.Common.{◌≡◌, ◌++◌, map, drop}
use Rattle.ks_group.proofs.group.tasks_of.Given as goal

abbrev pub invariant-loop-one : goal.invariant-loop-one
invariant-loop-one l = l.made.items ++ map (λ t. t.task) (drop l.one-index l.tasks) ≡ map (λ t. t.task) l.tasks
