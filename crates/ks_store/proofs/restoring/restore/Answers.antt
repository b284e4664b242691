use Rattle.ks_store.proofs.Applied.{one_more}
use Rattle.ks_store.proofs.restoring.restore.Goals as goal

pub loop-rec-preserved : goal.loop-rec-preserved
loop-rec-preserved g c =
    one_more (g.S.KvStore.contents c.args.store.now) (g.S.KvStore.contents c.loop-rec.store) (g.S.KvStore.contents c.apply.new.store) c.args.recs.now c.loop-rec.rec-index c.loop-rec-item.result c.loop-rec-test.true c.loop-rec-item.is c.loop-rec.invariant c.in_ok-apply.ensures.ok
