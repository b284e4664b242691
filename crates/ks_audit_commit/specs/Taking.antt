-- A task that takes again what a commit names, in the state before that commit.
use Rattle.std.specs.Prelude.{◌≡◌, ◌⊎◌, ℕ, ◌<◌, ◌≤◌, ◌==◌, Bool, true, false, nat_le, List, [], ◌∷◌}
use Rattle.ks_record.specs.Records.{Record as Rec}
use Rattle.ks_plan.specs.Drafts.{DraftView}
use Rattle.ks_history.specs.declared.journal.Entry.{Entry}
use Rattle.ks_history.specs.Partition.{stable, below}
use Rattle.ks_history.specs.Machine.{TaskPlan, part_of, has_topic}
use Rattle.ks_history.specs.State.{Setup, has_task}
use Rattle.ks_history.specs.History.{at}
use Rattle.ks_law_restore.specs.Views.{Stands, take_view, skip_view}
use Rattle.ks_law_audit.specs.Rested.{placed, run_onto}
use Rattle.ks_law_audit.specs.Laws.{ahead}
use Rattle.ks_task.specs.declared.task.Task.{Task}
use Rattle.ks_task.specs.Tasks.{task_view, IsTaskOf}

-- the task follows the journal, and the topic is one of its inputs
pub record IsTaker (d : DraftView) (setup : Setup) (journal : List Entry) (topic : ℕ) (task : Task) : Type 0 where
  pub of : IsTaskOf d task
  pub known : has_task (task_view task).task setup.tasks ≡ true
  pub input : has_topic topic (setup.plan.inputs (task_view task).task.sub) ≡ true
  pub stands : Stands setup journal (placed (at setup journal) (task_view task))

-- it took the next record of the input, which stands below this offset; or there is none
pub record TakesOne (d : DraftView) (setup : Setup) (journal : List Entry) (topic upto : ℕ) (took : Bool) (old new : Task) : Type 0 where
  pub taker : IsTaker d setup journal topic new
  pub yes : took ≡ true → (x : ℕ × Rec) × (x.0 < upto) × (task_view new ≡ take_view setup.plan (task_view old) topic x.0 x.1)
  pub no : took ≡ false → (new ≡ old) × (below upto (ahead (at setup journal) (task_view old) topic) ≡ [])

-- it passed on to this offset; or it can't, as a record stands before, or the offset isn't stable
pub record PassesTo (d : DraftView) (setup : Setup) (journal : List Entry) (topic upto : ℕ) (passed : Bool) (old new : Task) : Type 0 where
  pub taker : IsTaker d setup journal topic new
  pub yes : passed ≡ true → task_view new ≡ skip_view (task_view old) topic upto
  pub no : passed ≡ false → (new ≡ old) × ((below upto (ahead (at setup journal) (task_view old) topic) ≡ [] → ⊥) ⊎ (stable ((at setup journal).partition (part_of topic (task_view old).task)) < upto))

-- it took this record, which stands below the offset; or it doesn't, and the task is as it was
pub record HasMet (d : DraftView) (plan : TaskPlan) (topic upto : ℕ) (x : ℕ × Rec) (took : Bool) (old new : Task) : Type 0 where
  pub yes : took ≡ true → (x.0 < upto) × IsTaskOf d new × (task_view new ≡ take_view plan (task_view old) topic x.0 x.1)
  pub no : took ≡ false → (upto ≤ x.0) × (new ≡ old)

-- nothing that a fetch of one record gave stands below an offset, and the fetch went on to it
abbrev pub is_clear : List (ℕ × Rec) → ℕ → ℕ → Bool
is_clear [] next upto = nat_le upto next
is_clear (x ∷ xs) next upto = nat_le upto x.0

-- ---- a run of an order
-- so far the task took records of the topic below this offset; of the order that it is to have, so many records of the topic are left
pub record HasRun (d : DraftView) (setup : Setup) (journal : List Entry) (topic upto : ℕ) (order : List (ℕ × ℕ)) (left : ℕ) (old new : Task) : Type 0 where
  pub taker : IsTaker d setup journal topic new
  pub same : (task_view new).task ≡ (task_view old).task
  pub others : (n : ℕ) → (n == topic) ≡ false → (task_view new).inputs n ≡ (task_view old).inputs n
  pub within : (task_view old).inputs topic ≤ upto → (task_view new).inputs topic ≤ upto
  pub order_is : run_onto topic left (task_view new).order ≡ order

-- all of a run was taken; or some are left, and none stands below the offset
pub record TakesRun (d : DraftView) (setup : Setup) (journal : List Entry) (topic upto count : ℕ) (done : Bool) (old new : Task) : Type 0 where
  pub left : ℕ
  pub run : HasRun d setup journal topic upto (run_onto topic count (task_view old).order) left old new
  pub yes : done ≡ true → left ≡ 0
  pub no : done ≡ false → (0 < left) × (below upto (ahead (at setup journal) (task_view new) topic) ≡ [])
