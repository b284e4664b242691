use Rattle.std.proofs.Common.{◌≡◌, ◌++◌, map, drop}
use Rattle.ks_topo_layout.specs.declared.resolve.Resolved.{Resolved}
use Rattle.ks_topo.proofs.topology.wirings_of.Given as goal

-- what was found and the rest
abbrev pub invariant-loop-resolved : goal.invariant-loop-resolved
invariant-loop-resolved l = l.wirings.items ++ map (λ (r : Resolved). r.wiring) (drop l.resolved-index l.known) ≡ map (λ (r : Resolved). r.wiring) l.known
