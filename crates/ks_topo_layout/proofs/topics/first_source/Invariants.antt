use Rattle.std.proofs.Common.{◌≡◌, drop}
use Rattle.ks_topo_layout.specs.Wired.{first_wired}
use Rattle.ks_topo_layout.proofs.topics.first_source.Given as goal

-- the rest decides
abbrev pub invariant-loop-wiring : goal.invariant-loop-wiring
invariant-loop-wiring l = record { found : first_wired l.topic l.node (drop l.wiring-index l.wirings) ≡ first_wired l.topic 0 l.wirings; count : l.node ≡ l.wiring-index }
