use Rattle.std.proofs.Common.{◌≡◌, map}
use Rattle.ks_plan.specs.Layout.{up_to}
use Rattle.ks_topo_layout.specs.Wired.{sub_at}
use Rattle.ks_topo_layout.proofs.topics.node_subs.Given as goal

-- as far as the loop has come
abbrev pub invariant-loop-node : goal.invariant-loop-node
invariant-loop-node l = l.subs.items ≡ map (sub_at l.shape) (up_to l.node)
