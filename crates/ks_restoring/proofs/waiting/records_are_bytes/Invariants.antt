use Rattle.std.proofs.Common.{take}
use Rattle.ks_store.specs.Restored.{records_of}
use Rattle.ks_restoring.specs.Waiting.{AreOfBytes}
use Rattle.ks_restoring.proofs.waiting.records_are_bytes.Given as goal

abbrev pub invariant-loop-rec : goal.invariant-loop-rec
invariant-loop-rec l = AreOfBytes (take l.rec-index (records_of l.records))
