use Rattle.std.proofs.Common.{ap, ◌∙◌}
use Rattle.ks_record.specs.Records.{Record as Rec}
use Rattle.ks_history.specs.Machine.{applied}
use Rattle.ks_store.specs.Restored.{records_of}
use Rattle.ks_restoring.proofs.Latest.{record_at, one_more, stopped}
use Rattle.ks_restoring.proofs.waiting.write_records.Goals as goal

pub loop-rec-preserved : goal.loop-rec-preserved
loop-rec-preserved g c =
    let here = record_at c.args.records.now c.loop-rec.rec-index c.loop-rec-item.result c.loop-rec-test.true c.loop-rec-item.is in
    one_more (g.S.KvStore.contents c.args.store.now) (g.S.KvStore.contents c.loop-rec.store) (g.S.KvStore.contents c.write_record.new.store) (records_of c.args.records.now) c.loop-rec.rec-index c.loop-rec-item.result.1 here.0 here.1 c.loop-rec.invariant
    (c.in_ok-write_record.ensures.ok ∙ ap (λ (r : Rec). applied (g.S.KvStore.contents c.loop-rec.store) r.key r.value) c.as_ref.ensures)

pub returns-in_err-write_record-clause-same : goal.returns-in_err-write_record-clause-same
returns-in_err-write_record-clause-same g c =
    stopped (g.S.KvStore.contents c.args.store.now) (g.S.KvStore.contents c.write_record.new.store) c.loop-rec.rec-index (records_of c.args.records.now) (c.in_err-write_record.ensures.err ∙ c.loop-rec.invariant)

pub returns-clause-same : goal.returns-clause-same
returns-clause-same g c = stopped (g.S.KvStore.contents c.args.store.now) (g.S.KvStore.contents c.loop-rec.store) c.loop-rec.rec-index (records_of c.args.records.now) c.loop-rec.invariant
