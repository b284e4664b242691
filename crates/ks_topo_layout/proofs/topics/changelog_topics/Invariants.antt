use Rattle.std.proofs.Common.{◌≡◌, ◌++◌, drop}
use Rattle.ks_plan.specs.Layout.{by_node, wired_changelogs}
use Rattle.ks_topo_layout.specs.Wired.{kept}
use Rattle.ks_topo_layout.proofs.topics.changelog_topics.Given as goal

-- what was found and what the rest gives
abbrev pub invariant-loop-wiring : goal.invariant-loop-wiring
invariant-loop-wiring l = record { found : l.topics.items ++ by_node wired_changelogs l.node (drop l.wiring-index l.wirings) ≡ kept l.wirings; count : l.node ≡ l.wiring-index }
