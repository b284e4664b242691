use Rattle.std.proofs.Common.{◌∙◌, ap}
use Rattle.ks_record.specs.Records.{Record as Rec}
use Rattle.ks_cache.specs.Kept.{kept_with}
use Rattle.ks_cache.proofs.Taking.{one_more}
use Rattle.ks_cache.proofs.task_store.KeptStore.keep_each.Goals as goal

pub loop-rec-preserved : goal.loop-rec-preserved
loop-rec-preserved c =
    one_more c.args.self.now c.loop-rec.self c.keep.new.self c.args.recs.now c.loop-rec.rec-index c.loop-rec-item.result c.loop-rec-test.true c.loop-rec-item.is c.loop-rec.invariant
    (c.in_ok-keep.ensures.ok ∙ ap (λ (r : Rec). kept_with c.loop-rec.self r.key r.value) c.as_ref.ensures)
