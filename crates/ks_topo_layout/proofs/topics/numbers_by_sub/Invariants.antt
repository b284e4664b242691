use Rattle.std.proofs.Common.{◌≡◌, map}
use Rattle.ks_plan.specs.Layout.{up_to}
use Rattle.ks_topo_layout.specs.Wired.{read_in, numbers_in}
use Rattle.ks_topo_layout.proofs.topics.numbers_by_sub.Given as goal

-- as far as the loop has come
abbrev pub invariant-loop-sub : goal.invariant-loop-sub
invariant-loop-sub l = l.by_sub.items ≡ map (λ sub. numbers_in l.all (read_in l.shape sub l.topics)) (up_to l.sub)
