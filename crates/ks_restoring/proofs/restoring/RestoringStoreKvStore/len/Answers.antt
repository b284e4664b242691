use Rattle.std.proofs.Common.{◌≤◌, ℕ, List, sym, subst}
use Rattle.ks_record.specs.Records.{Record as Rec}
use Rattle.ks_def_runs.specs.FinMap as fin
use Rattle.ks_store.specs.Restored.{records_of}
use Rattle.ks_history.specs.Machine.{latest_from}
use Rattle.ks_restoring.proofs.restoring.RestoringStoreKvStore.len.Goals as goal

pub count_after-requires : goal.count_after-requires
count_after-requires c = subst (λ (l : List (ℕ × Rec)). fin.len (latest_from c.self.inside.table.store (records_of l)) ≤ c.self.inside.most) (sym c.deref.ensures.value) c.self.invariant
