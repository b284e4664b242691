use Rattle.std.proofs.Common.{◌≡◌, ◌<◌, true, arith}
use Rattle.ks_assign.specs.Placement.{by_client, copies, outweighs}
use Rattle.ks_assign.proofs.Adding.{wanted_more, home_more}
use Rattle.ks_assign.proofs.backing.add_wanted.Goals as goal

pub loop-c-preserved : goal.loop-c-preserved
loop-c-preserved c =
    let small : c.c-item.result.instance < 256 = omega arith in
    let off : outweighs c.args.p.1 c.c-item.result.instance c.args.loads.now ≡ true = cc in
    let none : copies c.args.p.0 c.c-item.result.instance (by_client c.args.clients.now c.args.standby.now) ≡ 0 = cc in (
      wanted_more c.args.clients.now c.loop-c.out.items c.push.new.self.items _ c.args.loads.now (by_client c.args.clients.now c.args.standby.now) c.loop-c.c-index c.c-item.result c.first_worker.result c.args.p.1 c.args.p.0 c.requires.clients c.loop-c-test.true c.c-item.is c.first_worker.ensures off none c.loop-c.invariant.0 c.in_ok-push.ensures.items,
      λ h. home_more c.args.clients.now c.loop-c.out.items c.push.new.self.items c.loop-c.c-index c.c-item.result c.first_worker.result c.args.p.0 c.requires.clients c.loop-c-test.true c.c-item.is c.first_worker.ensures small (c.loop-c.invariant.1 h) c.in_ok-push.ensures.items,
    )
