use Rattle.std.proofs.Common.{◌≡◌, ℕ, sym, subst, arith, ◌∙◌, true}
use Rattle.ks_assign.specs.Placement.{home, may_run}
use Rattle.ks_assign.proofs.Homes.{home_item, may_warm}
use Rattle.ks_assign.proofs.placing.place_for.Goals as goal

pub returns-then-is_warm-clause-runs : goal.returns-then-is_warm-clause-runs
returns-then-is_warm-clause-runs c =
    let is : home c.args.clients.now c.first_worker.result ≡ c.c-item.result.instance = home_item _ _ _ _ c.requires c.loop-c-test.true c.c-item.is c.first_worker.ensures in
    subst (λ (i : ℕ). may_run c.args.clients.now c.args.held.now c.args.most i c.args.task ≡ true) (c.from.ensures ∙ sym is)
    (may_warm c.args.clients.now c.args.held.now c.args.most c.from.result c.args.task (sym c.if-is_warm.ensures))

pub returns-then-is_warm-clause-home : goal.returns-then-is_warm-clause-home
returns-then-is_warm-clause-home c =
    let is : home c.args.clients.now c.first_worker.result ≡ c.c-item.result.instance = home_item _ _ _ _ c.requires c.loop-c-test.true c.c-item.is c.first_worker.ensures in
    omega (arith, is)
