use Rattle.std.proofs.Common.{◌≡◌, [], fold, drop}
use Rattle.ks_plan.specs.Layout.{with_origin}
use Rattle.ks_topo_layout.proofs.layout.origins_of.Given as goal

-- the rest of the nodes on what was found
abbrev pub invariant-loop-wiring : goal.invariant-loop-wiring
invariant-loop-wiring l = fold with_origin l.origins.items (drop l.wiring-index l.wirings) ≡ fold with_origin [] l.wirings
