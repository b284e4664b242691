use Rattle.std.proofs.Common.{◌∙◌}
use Rattle.std.specs.Prelude.{option_copied}
use Rattle.ks_store.specs.Restored.{records_of}
use Rattle.ks_restoring.proofs.Latest.{record_at, found_more}
use Rattle.ks_restoring.proofs.waiting.value_after.Goals as goal

pub loop-rec-preserved : goal.loop-rec-preserved
loop-rec-preserved c =
    let here = record_at c.args.records.now c.loop-rec.rec-index c.loop-rec-item.result c.loop-rec-test.true c.loop-rec-item.is in
    c.value_with-found.ensures
    ∙ found_more c.args.table.now.store (records_of c.args.records.now) c.loop-rec.rec-index c.loop-rec-item.result.1 c.args.key.now (option_copied c.loop-rec.found) here.0 here.1 c.loop-rec.invariant
