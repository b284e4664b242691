use Rattle.std.proofs.Common.{◌≡◌, ℕ, List, sym, subst, true, nat_le}
use Rattle.std.specs.List.{list_all}
use Rattle.ks_assign.specs.Placement.{has_worker, load}
use Rattle.ks_assign.proofs.Even.{home_same, least_item, least_unemployed, not_employed_end}
use Rattle.ks_assign.proofs.spreading.even_worker.Goals as goal

pub returns-then-is_worker-clause-home : goal.returns-then-is_worker-clause-home
returns-then-is_worker-clause-home c =
    home_same c.args.clients.now c.loop-c.c-index c.c-item.result c.least_worker.result c.args.worker c.requires c.loop-c-test.true c.c-item.is
    (subst (λ (xs : List ℕ). has_worker c.least_worker.result xs ≡ true) c.as_slice-then-is_worker.ensures c.least_worker.ensures.has)
    (subst (λ (xs : List ℕ). has_worker c.args.worker xs ≡ true) c.as_slice.ensures (sym c.if-is_worker.ensures))

pub returns-then-is_worker-clause-least : goal.returns-then-is_worker-clause-least
returns-then-is_worker-clause-least c =
    least_item c.args.clients.now c.loop-c.c-index c.c-item.result c.least_worker.result c.args.placed.now c.requires c.loop-c-test.true c.c-item.is
    (subst (λ (xs : List ℕ). has_worker c.least_worker.result xs ≡ true) c.as_slice-then-is_worker.ensures c.least_worker.ensures.has)
    (subst (λ (xs : List ℕ). list_all (λ v. nat_le (load c.least_worker.result c.args.placed.now) (load v c.args.placed.now)) xs ≡ true) c.as_slice-then-is_worker.ensures c.least_worker.ensures.least)

pub returns-clause-least : goal.returns-clause-least
returns-clause-least c = least_unemployed c.args.clients.now c.args.worker c.args.placed.now (not_employed_end c.args.clients.now c.loop-c.c-index c.args.worker c.loop-c-test.false c.loop-c.invariant)
