use Rattle.std.proofs.Common.{◌≡◌, [], fold, drop}
use Rattle.ks_plan.specs.Layout.{wired_parts}
use Rattle.ks_topo_layout.proofs.layout.parts_of.Given as goal

-- the rest of the nodes on what was found
abbrev pub invariant-loop-wiring : goal.invariant-loop-wiring
invariant-loop-wiring l = fold (wired_parts l.counts) l.parts.items (drop l.wiring-index l.wirings) ≡ fold (wired_parts l.counts) [] l.wirings
