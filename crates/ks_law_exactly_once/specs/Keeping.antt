-- What holds of every record of a partition, where the tasks keep it.
use Rattle.std.specs.Prelude.{◌≡◌, ℕ, Bool, true, List, [], ◌∷◌}
use Rattle.ks_record.specs.Records.{Record as Rec}
use Rattle.ks_record.specs.declared.record.PartId.{PartId}
use Rattle.ks_record.specs.declared.record.TaskId.{TaskId}
use Rattle.ks_def_runs.specs.Bytes.{Store, empty_store}
use Rattle.ks_history.specs.declared.journal.Entry.{Entry}
use Rattle.ks_history.specs.Partition.{recs}
use Rattle.ks_history.specs.Machine.{TaskPlan, Stores, reader_of, part_of, has_topic}
use Rattle.ks_history.specs.State.{Setup}
use Rattle.ks_history.specs.Faithful.{decided, folds}
use Rattle.ks_history.specs.History.{at}
use Rattle.ks_history.specs.Replay.{produced}

-- what every store of a task is, by the partition of its changelog
abbrev pub AreHeld : (PartId → Store → Bool) → TaskId → Stores → Type 0
AreHeld holds t stores = (topic : ℕ) → holds (part_of topic t) (stores topic) ≡ true

-- all records are such, each in the partition to which it goes
abbrev pub AllFit : (PartId → Rec → Bool) → List (PartId × Rec) → Type 0
AllFit fits [] = Unit {0}
AllFit fits (e ∷ es) = (fits e.0 e.1 ≡ true) × AllFit fits es

abbrev pub FitIn : (PartId → Rec → Bool) → PartId → List Rec → Type 0
FitIn fits q [] = Unit {0}
FitIn fits q (x ∷ xs) = (fits q x ≡ true) × FitIn fits q xs

-- a task whose stores are such, and that takes from its inputs such records, makes such records, and its stores are such again
pub record Keeps (plan : TaskPlan) (fits : PartId → Rec → Bool) (holds : PartId → Store → Bool) : Type 0 where
  pub start : (q : PartId) → holds q empty_store ≡ true
  pub stores : (stores : Stores) (q : PartId) (rec : Rec) → has_topic q.topic (plan.inputs (reader_of plan q).sub) ≡ true → AreHeld holds (reader_of plan q) stores → fits q rec ≡ true →
      AreHeld holds (reader_of plan q) (plan.step (reader_of plan q) stores q rec).store
  pub made : (stores : Stores) (q : PartId) (rec : Rec) → has_topic q.topic (plan.inputs (reader_of plan q).sub) ≡ true → AreHeld holds (reader_of plan q) stores → fits q rec ≡ true →
      AllFit fits (plan.step (reader_of plan q) stores q rec).made

-- then, where the produced records are such, every decided record is, and so are the folds of each task's changelogs
abbrev pub AllKept : (Setup → List Entry → Type 0)
AllKept setup journal = (fits : PartId → Rec → Bool) (holds : PartId → Store → Bool) → Keeps setup.plan fits holds → ((q : PartId) → FitIn fits q (produced journal q)) →
    ((q : PartId) → FitIn fits q (recs (decided (at setup journal) q))) × ((t : TaskId) → AreHeld holds t (folds setup (at setup journal) t))
