use Rattle.std.proofs.Common.{ℕ, List, subst}
use Rattle.ks_record.specs.Records.{Record as Rec}
use Rattle.ks_store.specs.Restored.{records_of}
use Rattle.ks_def_runs.specs.Bytes.{Store}
use Rattle.ks_def_runs.specs.FinMap as fin
use Rattle.ks_def_runs.specs.Pairs.{ArePairs}
use Rattle.ks_restoring.specs.Waiting.{AreOfBytes}
use Rattle.ks_restoring.proofs.Latest.{bytes_latest}
use Rattle.ks_restoring.proofs.restoring.RestoringStore.holds_bytes.Goals as goal

pub returns : goal.returns
returns c =
    subst (λ (m : Store). ArePairs (fin.entries m)) c.self.view_is
    (bytes_latest c.self.inside.table.store (records_of c.self.inside.records.items) (subst (λ (l : List (ℕ × Rec)). AreOfBytes (records_of l)) c.deref.ensures.value c.records_are_bytes.ensures) c.holds_bytes.ensures)
