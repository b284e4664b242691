use Rattle.std.proofs.Common.{◌≡◌, drop}
use Rattle.ks_plan.specs.Faults.{has_name}
use Rattle.ks_topo_layout.proofs.names.is_listed.Given as goal

-- the rest decides
abbrev pub invariant-loop-own : goal.invariant-loop-own
invariant-loop-own l = has_name (drop l.own-index l.names) l.name ≡ has_name l.names l.name
