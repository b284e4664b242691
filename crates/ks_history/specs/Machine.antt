-- What a work says of its tasks: their topics, and what they make of a record. The task machine is a parameter here.
use Rattle.std.specs.Prelude.{◌≡◌, ◌≤◌, ℕ, Bool, ◌==◌, ◌||◌, true, false, List, [], ◌∷◌, ◌++◌, Option, None, Some, take, drop, cond}
use Rattle.ks_def_runs.specs.Bytes.{Store, empty_store, by_bytes}
use Rattle.ks_def_runs.specs.Table.{write}
use Rattle.ks_record.specs.Records.{Record as Rec}
use Rattle.ks_record.specs.declared.record.PartId.{PartId}
use Rattle.ks_record.specs.declared.record.TaskId.{TaskId}
use Rattle.ks_record.specs.Parts.{same_part, same_task}
use Rattle.ks_history.specs.Partition.{Logged}
use Rattle.ks_def_runs.specs.Run.{Machine, Outcome, Taken, local, sent_to}

-- ---- stores
-- a task's stores, by changelog
abbrev pub Stores : Type 0
Stores = ℕ → Store

-- a changelog record without a key changes nothing
abbrev pub applied : Store → Option (List ℕ) → Option (List ℕ) → Store
applied m None value = m
applied m (Some key) value = write by_bytes m key value

abbrev pub latest_from : Store → List Rec → Store
latest_from m [] = m
latest_from m (r ∷ rs) = latest_from (applied m r.key r.value) rs

-- the last value of each key (developer guide: KTable)
abbrev pub latest : List Rec → Store
latest rs = latest_from empty_store rs

-- ---- plans
abbrev pub has_topic : ℕ → List ℕ → Bool
has_topic n [] = false
has_topic n (m ∷ ms) = (n == m) || has_topic n ms

pub record TaskPlan : Type 0 where
  -- the number of input topics, which have the first numbers
  pub sources : ℕ
  -- the topics that the tasks of a subtopology read, and the changelogs that they write
  pub inputs : ℕ → List ℕ
  pub changelogs : ℕ → List ℕ
  -- the subtopology that reads a topic
  pub reader : ℕ → ℕ
  -- one whole step of a task: what it makes of one record of a partition
  pub step : TaskId → Stores → PartId → Rec → Outcome PartId Stores Rec

abbrev pub reader_of : TaskPlan → PartId → TaskId
reader_of plan p = record { sub = plan.reader p.topic; part = p.part }

abbrev pub part_of : ℕ → TaskId → PartId
part_of topic t = record { topic = topic; part = t.part }

abbrev pub network : TaskPlan → Machine TaskId PartId Stores Rec
network plan = record { same_task = same_task; same_place = same_part; reader = reader_of plan; start = λ t topic. empty_store; step = plan.step }

-- no changelog is a topic of the job or a changelog of two subtopologies, and no task makes a record for another's changelog
pub record IsApart (plan : TaskPlan) : Type 0 where
  pub no_source : (sub topic : ℕ) → has_topic topic (plan.changelogs sub) ≡ true → plan.sources ≤ topic
  pub one_keeper : (sub other topic : ℕ) → has_topic topic (plan.changelogs sub) ≡ true → has_topic topic (plan.changelogs other) ≡ true → sub ≡ other
  pub own : (t u : TaskId) (stores : Stores) (p : PartId) (rec : Rec) (topic : ℕ) → same_task u t ≡ false → has_topic topic (plan.changelogs u.sub) ≡ true
      → sent_to (network plan) (part_of topic u) (plan.step t stores p rec).made ≡ []

-- what the tasks of a plan keep, as a network
pub record IsNetwork (plan : TaskPlan) : Type 0 where
  pub apart : IsApart plan
  -- a changelog is read by no task
  pub no_reader : (sub other topic : ℕ) → has_topic topic (plan.changelogs sub) ≡ true → has_topic topic (plan.inputs other) ≡ false
  -- a topic is read by one subtopology
  pub one_reader : (sub topic : ℕ) → has_topic topic (plan.inputs sub) ≡ true → plan.reader topic ≡ sub
  -- a changelog tells each change of its store, and a task has no other store
  pub told : (t : TaskId) (stores : Stores) (p : PartId) (rec : Rec) (topic : ℕ) → has_topic topic (plan.changelogs t.sub) ≡ true
      → (plan.step t stores p rec).store topic ≡ latest_from (stores topic) (sent_to (network plan) (part_of topic t) (plan.step t stores p rec).made)
  pub no_other : (t : TaskId) (stores : Stores) (p : PartId) (rec : Rec) (topic : ℕ) → has_topic topic (plan.changelogs t.sub) ≡ false
      → (plan.step t stores p rec).store topic ≡ stores topic

-- ---- a task's run over its inputs
-- records of an input as those that the task takes
abbrev pub taken_from : TaskId → ℕ → List Logged → List (Taken TaskId PartId Rec)
taken_from t topic [] = []
taken_from t topic (x ∷ xs) = record { sender = x.sender; place = part_of topic t; item = x.rec } ∷ taken_from t topic xs

-- the records of the inputs, by topic, in an order, which names topics in runs
abbrev pub batch : TaskId → (ℕ → List Logged) → List (ℕ × ℕ) → List (Taken TaskId PartId Rec)
batch t inputs [] = []
batch t inputs (run ∷ runs) =
    taken_from t run.0 (take run.1 (inputs run.0)) ++ batch t (λ topic. cond (topic == run.0) (drop run.1 (inputs topic)) (inputs topic)) runs

-- what the task makes, from its stores, of its inputs in an order
abbrev pub machine : TaskPlan → TaskId → Stores → (ℕ → List Logged) → List (ℕ × ℕ) → Outcome PartId Stores Rec
machine plan t stores inputs order = local (network plan) t stores (batch t inputs order)
