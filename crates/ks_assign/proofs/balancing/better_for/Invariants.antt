use Rattle.std.proofs.Common.{◌≡◌, ◌||◌, not, drop}
use Rattle.std.specs.List.{list_all}
use Rattle.ks_assign.specs.Placement.{may_run, outweighs}
use Rattle.ks_assign.proofs.balancing.better_for.Given as goal

abbrev pub invariant-loop-b : goal.invariant-loop-b
invariant-loop-b l = list_all (λ b. not (outweighs l.p.1 b.instance l.loads) || not (may_run l.clients l.held l.most b.instance l.p.0)) ((drop l.b-index l.clients)) ≡ list_all (λ b. not (outweighs l.p.1 b.instance l.loads) || not (may_run l.clients l.held l.most b.instance l.p.0)) (l.clients)
