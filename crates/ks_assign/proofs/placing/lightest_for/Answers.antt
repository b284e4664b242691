use Rattle.std.proofs.Common.{◌≡◌, ℕ, sym, subst, arith, true}
use Rattle.ks_assign.specs.Placement.{home, may_run}
use Rattle.ks_assign.proofs.Homes.{home_item}
use Rattle.ks_assign.proofs.placing.lightest_for.Goals as goal

pub loop-c-preserved : goal.loop-c-preserved
loop-c-preserved c =
    let is : home c.args.clients.now c.first_worker-best.result ≡ c.c-item.result.instance = home_item c.args.clients.now c.loop-c.c-index c.c-item.result c.first_worker-best.result c.requires c.loop-c-test.true c.c-item.is c.first_worker-best.ensures in
    let may_there : may_run c.args.clients.now c.args.held.now c.args.most c.c-item.result.instance c.args.task ≡ true = cc in (
      subst (λ (i : ℕ). may_run c.args.clients.now c.args.held.now c.args.most i c.args.task ≡ true) (sym is) may_there,
      omega (arith, is),
    )
