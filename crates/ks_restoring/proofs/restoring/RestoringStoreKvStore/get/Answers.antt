use Rattle.std.proofs.Common.{ℕ, List, ap, ◌∙◌}
use Rattle.ks_record.specs.Records.{Record as Rec}
use Rattle.ks_def_runs.specs.Bytes.{Store}
use Rattle.ks_def_runs.specs.FinMap as fin
use Rattle.ks_store.specs.Restored.{records_of}
use Rattle.ks_history.specs.Machine.{latest_from}
use Rattle.ks_restoring.proofs.restoring.RestoringStoreKvStore.get.Goals as goal

pub returns : goal.returns
returns c =
    c.value_after.ensures
    ∙ (ap (λ (l : List (ℕ × Rec)). fin.get (latest_from c.self.inside.table.store (records_of l)) c.args.key.now) c.deref.ensures.value ∙ ap (λ (m : Store). fin.get m c.args.key.now) c.self.view_is)
