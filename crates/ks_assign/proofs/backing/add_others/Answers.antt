use Rattle.std.proofs.Common.{◌<◌, ◌≢◌, arith}
use Rattle.ks_assign.proofs.Adding.{others_more, home_more}
use Rattle.ks_assign.proofs.backing.add_others.Goals as goal

pub loop-c-preserved : goal.loop-c-preserved
loop-c-preserved c =
    let small : c.c-item.result.instance < 256 = omega arith in
    let apart : c.c-item.result.instance ≢ c.args.p.1 = omega (arith, c.if-from-p.false, c.from.ensures) in
    let some : 0 < c.loop-c.left = omega (arith, c.if-left-eq0.false) in (
      others_more c.args.clients.now c.loop-c.out.items c.push.new.self.items _ c.loop-c.c-index c.c-item.result c.first_worker.result c.args.p.1 c.loop-c.left c.args.p.0 c.requires c.loop-c-test.true c.c-item.is c.first_worker.ensures apart some c.loop-c.invariant.0 c.in_ok-push.ensures.items,
      λ h. home_more c.args.clients.now c.loop-c.out.items c.push.new.self.items c.loop-c.c-index c.c-item.result c.first_worker.result c.args.p.0 c.requires c.loop-c-test.true c.c-item.is c.first_worker.ensures small (c.loop-c.invariant.1 h) c.in_ok-push.ensures.items,
    )
