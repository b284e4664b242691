use Rattle.std.proofs.Common.{◌≡◌, ◌≤◌}
use Rattle.ks_plan.specs.Layout.{firsts}
use Rattle.ks_topo_layout.proofs.layout.count_firsts.Given as goal

-- as far as the loop has come
abbrev pub invariant-loop-node : goal.invariant-loop-node
invariant-loop-node l = record { found : l.count ≡ firsts l.labels l.node; within : l.count ≤ l.node }
