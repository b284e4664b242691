use Rattle.std.proofs.Common.{◌≡◌, ◌++◌, drop}
use Rattle.ks_plan.specs.Layout.{by_node, wired_through}
use Rattle.ks_topo_layout.specs.Wired.{flowing}
use Rattle.ks_topo_layout.proofs.topics.drained_topics_by_node.Given as goal

-- what was found and what the rest gives
abbrev pub invariant-loop-wiring : goal.invariant-loop-wiring
invariant-loop-wiring l = record { found : l.topics.items ++ by_node wired_through l.node (drop l.wiring-index l.wirings) ≡ flowing l.count l.wirings; count : l.node ≡ l.wiring-index }
