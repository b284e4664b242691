use Rattle.std.proofs.Common.{◌≡◌, drop}
use Rattle.ks_topo_layout.specs.Wired.{any_wired}
use Rattle.ks_topo_layout.proofs.topics.is_read.Given as goal

-- the rest decides
abbrev pub invariant-loop-wiring : goal.invariant-loop-wiring
invariant-loop-wiring l = any_wired l.topic (drop l.wiring-index l.wirings) ≡ any_wired l.topic l.wirings
