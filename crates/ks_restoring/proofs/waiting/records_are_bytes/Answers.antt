use Rattle.std.proofs.Common.{take, sym, subst}
use Rattle.ks_store.specs.Restored.{records_of}
use Rattle.ks_restoring.specs.Waiting.{AreOfBytes}
use Rattle.ks_restoring.proofs.Latest.{record_at, next_taken, of_bytes_more}
use Rattle.ks_restoring.proofs.waiting.records_are_bytes.Goals as goal

pub loop-rec-preserved : goal.loop-rec-preserved
loop-rec-preserved c =
    let all = records_of c.args.records.now in
    let here = record_at c.args.records.now c.loop-rec.rec-index c.loop-rec-item.result c.loop-rec-test.true c.loop-rec-item.is in
    subst AreOfBytes (sym (next_taken all c.loop-rec.rec-index c.loop-rec-item.result.1 here.0 here.1))
    (of_bytes_more (take c.loop-rec.rec-index all) c.loop-rec-item.result.1 c.loop-rec.invariant c.record_is_bytes.ensures)
