use Rattle.std.proofs.Common.{inl, inr}
use Rattle.ks_assign.proofs.Even.{least_step}
use Rattle.ks_assign.proofs.spreading.least_worker.Goals as goal
use Rattle.ks_assign.proofs.spreading.least_worker.Goals.{then-n-least, else-n-least}

pub loop-v-preserved : goal.loop-v-preserved
loop-v-preserved c =
    least_step c.args.workers.now c.args.placed.now c.loop-v.v-index c.loop-v.best c.loop-v.least c.load_of-n.result c.if-n-least.best c.if-n-least.least
    c.loop-v-test.true c.loop-v.invariant.0 c.loop-v.invariant.1 c.loop-v.invariant.2 c.load_of-n.ensures.is
    (elim c.if-n-least.branch [ then-n-least w ↦ inl (w.if-n-least.true, w.best-is, w.least-is) | else-n-least w ↦ inr (w.if-n-least.false, w.best-is, w.least-is) ])
