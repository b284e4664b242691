use Rattle.std.proofs.Common.{◌+◌, arith}
use Rattle.ks_store.proofs.Called.{one_more_call, one_more_reply, on_err}
use Rattle.ks_store.proofs.calls.run_calls.Goals as goal

pub loop-call-preserved : goal.loop-call-preserved
loop-call-preserved g c =
    let m = g.S.KvStore.contents c.args.store.now in
    let n = g.S.KvStore.contents c.loop-call.store in
    let held = c.loop-call.invariant in (
      one_more_call m n c.args.calls.now c.loop-call.call-index c.call-item.result c.loop-call-test.true c.call-item.is held.0 (g.S.KvStore.contents c.run_call.new.store) c.in_ok-reply.ensures.contents,
      one_more_reply m n c.args.calls.now c.loop-call.call-index c.call-item.result c.loop-call-test.true c.call-item.is held.0
          c.loop-call.replies.items c.push.new.self.items c.in_ok-reply.reply held.1 c.in_ok-reply.ensures.reply c.in_ok-push.ensures.items,
    )

pub returns-in_err-push-clause-err : goal.returns-in_err-push-clause-err
returns-in_err-push-clause-err g c =
    on_err c.from_residual-in_err-push.result (
      c.loop-call.call-index + 1,
      omega (arith, c.loop-call-test.true),
      one_more_call (g.S.KvStore.contents c.args.store.now) (g.S.KvStore.contents c.loop-call.store) c.args.calls.now c.loop-call.call-index c.call-item.result c.loop-call-test.true c.call-item.is c.loop-call.invariant.0 (g.S.KvStore.contents c.run_call.new.store) c.in_ok-reply.ensures.contents,
    )
