-- What a worker's commit of several tasks' work makes of a cluster (KIP-98, KIP-447).
use Rattle.std.specs.Prelude.{◌≡◌, ℕ, ◌==◌, ◌≤◌, Bool, true, false, if◌then◌else◌, ◌||◌, Some, None, List, [], ◌∷◌}
use Rattle.std.specs.List.{All}
use Rattle.ks_record.specs.Records.{Record as Rec}
use Rattle.ks_record.specs.declared.record.PartId.{PartId}
use Rattle.ks_record.specs.declared.record.TaskId.{TaskId}
use Rattle.ks_history.specs.declared.journal.Entry.{Entry}
use Rattle.ks_history.specs.Machine.{TaskPlan}
use Rattle.ks_history.specs.State.{State, Setup, IsPart, has_task, are_once, pending_of, committed_with}
use Rattle.ks_history.specs.Step.{owner}
use Rattle.ks_history.specs.History.{are_offsets}
use Rattle.ks_history.specs.Reads.{end_of}
use Rattle.ks_law_restore.specs.Views.{WorkView, IsWork, names_part, AreEnds}
use Rattle.ks_law_restore.specs.Commits.{commits_for, commit_by}
use Rattle.ks_cluster.specs.View.{ClusterView, setup_of, state_of}
use Rattle.ks_commit.specs.declared.work.Frozen.{Frozen}
use Rattle.ks_commit.specs.declared.publisher.Publisher.{Publisher}
use Rattle.ks_commit.specs.Work.{work_view}
use Rattle.ks_commit.specs.Alone.{IsAlone, IsNumbered}
use Rattle.ks_commit.specs.Sending.{IsLonger, IsPublishing, pendings_of}

abbrev pub works_of : List Frozen → List WorkView
works_of [] = []
works_of (f ∷ fs) = work_view f ∷ works_of fs

-- the publisher has every task, and knows how many records of its epoch stand in each partition
pub record IsReady (setup : Setup) (s : State) (p : Publisher) : Type 0 where
  pub alone : IsAlone setup s p.worker p.epoch p.generation
  pub numbers : IsNumbered s p.worker p.epoch p.numbers.items

abbrev pub IsSame : Publisher → Publisher → Type 0
IsSame old new = (new.worker ≡ old.worker) × (new.epoch ≡ old.epoch) × (new.generation ≡ old.generation)

-- the publisher can add to its transaction
pub record IsSending (setup : Setup) (s : State) (p : Publisher) : Type 0 where
  pub worker : p.worker ≤ 16
  pub epoch : (s.producer p.worker).epoch ≡ p.epoch
  pub waiting : (s.producer p.worker).waiting ≡ []
  pub generation : s.generation ≡ p.generation
  pub owns : (t : TaskId) → has_task t setup.tasks ≡ true → owner s t ≡ Some p.worker
  pub others : (v : ℕ) → (v == p.worker) ≡ false → (s.producer v).undecided ≡ None
  pub numbers : IsNumbered s p.worker p.epoch p.numbers.items

-- the requests of a work are those of the cluster
pub record IsOfCluster (setup : Setup) (s : State) (f : WorkView) : Type 0 where
  pub task : has_task f.task setup.tasks ≡ true
  pub offsets : are_offsets setup s f.task f.offsets ≡ true
  pub parts : All (λ out. IsPart setup out.0) f.outputs

-- what a commit asks of a work: it is what its task makes, and its outputs are partitions of the cluster
pub record MayCommit (setup : Setup) (s : State) (f : WorkView) : Type 0 where
  pub work : IsWork setup s f
  pub parts : All (λ out. IsPart setup out.0) f.outputs

abbrev pub EachMay : Setup → State → List WorkView → Type 0
EachMay setup s [] = Unit {0}
EachMay setup s (f ∷ fs) = MayCommit setup s f × EachMay setup s fs

abbrev pub EachOf : Setup → State → List WorkView → Type 0
EachOf setup s [] = Unit {0}
EachOf setup s (f ∷ fs) = IsOfCluster setup s f × EachOf setup s fs

-- all of these are partitions of the cluster
abbrev pub EachPlaced : Setup → List (List PartId) → Type 0
EachPlaced setup [] = Unit {0}
EachPlaced setup (own ∷ all) = All (IsPart setup) own × EachPlaced setup all

abbrev pub tasks_in : List WorkView → List TaskId
tasks_in [] = []
tasks_in (f ∷ fs) = f.task ∷ tasks_in fs

-- no task has two works
abbrev pub AreApart : List WorkView → Type 0
AreApart fs = are_once (tasks_in fs) ≡ true

-- a partition is an output of some work
abbrev pub names_in : PartId → List WorkView → Bool
names_in q [] = false
names_in q (f ∷ fs) = names_part q f.outputs || names_in q fs

-- a task's own partitions among its outputs
abbrev pub own_in : TaskId → List (PartId × List Rec) → List PartId
own_in t [] = []
own_in t (out ∷ outs) = if out.0.part == t.part then out.0 ∷ own_in t outs else own_in t outs

-- the own partitions of each work
abbrev pub own_of_each : List WorkView → List (List PartId)
own_of_each [] = []
own_of_each (f ∷ fs) = own_in f.task f.outputs ∷ own_of_each fs

-- the ends of partitions, by topic
abbrev pub ends_at : State → List PartId → List (ℕ × ℕ)
ends_at s [] = []
ends_at s (q ∷ qs) = (q.topic, end_of s q) ∷ ends_at s qs

abbrev pub EachEnds : Setup → State → List WorkView → List (List (ℕ × ℕ)) → Type 0
EachEnds setup s [] [] = Unit {0}
EachEnds setup s (f ∷ fs) (ends ∷ more) = AreEnds setup s f ends × EachEnds setup s fs more
EachEnds setup s [] (ends ∷ more) = false ≡ true
EachEnds setup s (f ∷ fs) [] = false ≡ true

-- the ends of each work's own partitions
abbrev pub ends_of_each : State → List (List PartId) → List (List (ℕ × ℕ))
ends_of_each s [] = []
ends_of_each s (own ∷ all) = ends_at s own ∷ ends_of_each s all

-- one transaction of the worker committed these works
pub record Committed {W : Type 0} (plan : W → TaskPlan) (old new : ClusterView W) (w : ℕ) (fs : List WorkView) (told : List (List (ℕ × ℕ))) : Type 0 where
  pub more : List Entry
  pub is : IsLonger old new more
  pub publishing : IsPublishing w 1 more
  -- the one commit, by this worker, has of each task what its work leaves pending, and of no other task anything
  pub commits : (t : TaskId) → commits_for (setup_of plan old) (state_of plan old) more t ≡ commit_by w (pending_of t (pendings_of fs))
  pub others : (q : PartId) → names_in q fs ≡ false → (state_of plan new).partition q ≡ (state_of plan old).partition q
  pub committed : (t : TaskId) (topic : ℕ) → (state_of plan new).committed t topic ≡ committed_with (state_of plan old).committed (pendings_of fs) t topic
  pub ends : EachEnds (setup_of plan old) (state_of plan new) fs told

-- a worker has joined a cluster and has every task: nothing is committed or put anywhere
pub record Started {W : Type 0} (plan : W → TaskPlan) (old new : ClusterView W) (w : ℕ) : Type 0 where
  pub more : List Entry
  pub is : IsLonger old new more
  pub publishing : IsPublishing w 0 more
  pub commits : (t : TaskId) → commits_for (setup_of plan old) (state_of plan old) more t ≡ []
  pub partition : (state_of plan new).partition ≡ (state_of plan old).partition
  pub committed : (state_of plan new).committed ≡ (state_of plan old).committed
