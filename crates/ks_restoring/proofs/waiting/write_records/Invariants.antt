use Rattle.std.proofs.Common.{◌≡◌, take}
use Rattle.ks_history.specs.Machine.{latest_from}
use Rattle.ks_store.specs.Restored.{records_of}
use Rattle.ks_restoring.proofs.waiting.write_records.Given as goal

-- the first records are written
abbrev pub invariant-loop-rec : goal.invariant-loop-rec
invariant-loop-rec g l = g.S.KvStore.contents l.store ≡ latest_from (g.S.KvStore.contents l.fn.store) (take l.rec-index (records_of l.records))
