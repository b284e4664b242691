use Rattle.std.proofs.Common.{◌≡◌, ◌+◌, drop}
use Rattle.ks_plan.specs.Layout.{first_in}
use Rattle.ks_topo_layout.proofs.topics.first_node.Given as goal

-- the rest decides
abbrev pub invariant-loop-own : goal.invariant-loop-own
invariant-loop-own l = record { found : l.node + first_in l.sub (drop l.own-index l.subs) ≡ first_in l.sub l.subs; count : l.node ≡ l.own-index }
