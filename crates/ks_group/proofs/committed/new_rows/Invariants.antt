use Rattle.std.proofs.Common.{◌≡◌, ◌++◌, map, drop}
use Rattle.ks_group.specs.Committed.{none_committed}
use Rattle.ks_group.proofs.committed.new_rows.Given as goal

abbrev pub invariant-loop-one : goal.invariant-loop-one
invariant-loop-one l = l.rows.items ++ map (λ t. (t.task, none_committed t.inputs.items)) (drop l.one-index l.tasks) ≡ map (λ t. (t.task, none_committed t.inputs.items)) l.tasks
