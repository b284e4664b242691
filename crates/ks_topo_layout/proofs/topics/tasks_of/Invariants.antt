use Rattle.std.proofs.Common.{◌≡◌}
use Rattle.std.specs.List.{flat_map}
use Rattle.ks_plan.specs.Layout.{up_to}
use Rattle.ks_topo_layout.specs.Wired.{tasks_of_sub}
use Rattle.ks_topo_layout.proofs.topics.tasks_of.Given as goal

-- as far as the loop has come
abbrev pub invariant-loop-sub : goal.invariant-loop-sub
invariant-loop-sub l = l.tasks.items ≡ flat_map (tasks_of_sub l.shape) (up_to l.sub)
