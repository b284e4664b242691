use Rattle.std.proofs.Common.{ℕ, take, sym, ap, arith}
use Rattle.ks_record.specs.Records.{Record as Rec}
use Rattle.ks_history.specs.Machine.{latest_from}
use Rattle.ks_store.specs.Restored.{records_of}
use Rattle.ks_restoring.proofs.Latest.{record_at, records_of-take, changed_at, counted_more}
use Rattle.ks_restoring.proofs.waiting.count_after.Goals as goal

pub loop-i-preserved : goal.loop-i-preserved
loop-i-preserved c =
    let records = c.args.records.now in
    let here = record_at records c.loop-i.i c.index-records-i.result c.loop-i-test.true c.index-records-i.is in
    record {
      len = counted_more c.args.table.now.store (records_of records) (records_of (take c.loop-i.i records)) c.loop-i.i c.index-records-i.result.1 c.change_by-new.result c.loop-i.more c.loop-i.less here.0 here.1 (records_of-take records c.loop-i.i)
          c.loop-i.invariant.len (changed_at (latest_from c.args.table.now.store (records_of (take c.loop-i.i records))) c.index-records-i.result.1 _ c.change_by-new.result (sym (ap (λ (r : ℕ × Rec). r.1) c.index-records-i.is)) c.change_by-new.ensures.len);
      more = omega (arith, c.loop-i.invariant.more, c.change_by-new.ensures.more);
      less = omega (arith, c.loop-i.invariant.less, c.change_by-new.ensures.less);
    }
