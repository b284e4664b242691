-- Tasks that are restored side by side, and put into their order.
use Rattle.std.specs.Prelude.{◌≡◌, ℕ, ◌<◌, true, List, ◌++◌, length, map, Option, IfOk, IfSome, slice_index_or}
use Rattle.std.specs.List.{All}
use Rattle.ks_record.specs.declared.record.TaskId.{TaskId}
use Rattle.ks_plan.specs.Drafts.{DraftView}
use Rattle.ks_plan.specs.Plan.{plan_of}
use Rattle.ks_history.specs.declared.journal.Entry.{Entry}
use Rattle.ks_history.specs.Machine.{TaskPlan}
use Rattle.ks_history.specs.State.{Setup, has_task}
use Rattle.ks_cluster.specs.View.{ClusterView, setup_of, state_of}
use Rattle.ks_commit.specs.declared.publisher.Publisher.{Publisher}
use Rattle.ks_commit.specs.Committed.{IsReady}
use Rattle.ks_def_tasks.specs.Rules.{HaveParts}
use Rattle.ks_standby.specs.declared.replica.Replica.{Replica}
use Rattle.ks_task.specs.declared.task.Task.{Task}
use Rattle.ks_task.specs.Tasks.{task_view}
use Rattle.ks_settle.specs.declared.restoring.Restoration.{Restoration}
use Rattle.ks_settle.specs.Drained.{MayDrain, HasTasksOf, ids, Rests, HaveCache}
use Rattle.ks_settle.specs.Restoring.{IsReplicaOf}

-- the tasks of a cluster may be restored by the worker that has them all
pub record MayRestore {W : Type 0} (plan : W → TaskPlan) (d : DraftView) (c : ClusterView W) (publisher : Publisher) : Type 0 where
  pub may : MayDrain (setup_of plan c)
  pub of : HasTasksOf plan d c
  pub parts : HaveParts (plan_of d)
  pub ready : IsReady (setup_of plan c) (state_of plan c) publisher

-- a replica that a task may be restored from, where there is one
abbrev pub IsGiven : Setup → List Entry → TaskId → Option Replica → Type 0
IsGiven setup journal t given = IfSome given (IsReplicaOf setup journal t)

abbrev pub AreGiven : Setup → List Entry → List Restoration → Type 0
AreGiven setup journal xs = All (λ x. IsGiven setup journal x.name x.replica) xs

-- a task of the cluster, and a replica that it may be restored from
abbrev pub MayBegin : {W : Type 0} → (W → TaskPlan) → ClusterView W → Restoration → Type 0
MayBegin plan c x = (has_task x.name c.tasks ≡ true) × IsGiven (setup_of plan c) c.journal x.name x.replica

abbrev pub names_in : List Restoration → List TaskId
names_in xs = map (λ x. x.name) xs

-- where memory sufficed it is the task of this name, which has taken nothing since its last commit, and whose stores hold back so many
-- pairs
abbrev pub IsRestoredAs : DraftView → Setup → List Entry → ℕ → TaskId → Restoration → Type 0
IsRestoredAs d setup journal most name x = IfOk x.task (λ t. Rests d setup journal 0 t × ((task_view t).task ≡ name) × (t.cache ≡ most))

-- so each of these
pub record AreTried (d : DraftView) (setup : Setup) (journal : List Entry) (most : ℕ) (old new : List Restoration) : Type 0 where
  pub count : length new ≡ length old
  pub each : (k : ℕ) (x : Restoration) → k < length old → IsRestoredAs d setup journal most (slice_index_or old k x).name (slice_index_or new k x)

-- these tasks of a list of names stand in their order, and what came of the others is left
pub record ArePutBack (d : DraftView) (setup : Setup) (journal : List Entry) (all : List TaskId) (most : ℕ) (ts : List Task) (left : List Restoration) : Type 0 where
  pub old : List Restoration
  pub names : ids ts ++ names_in old ≡ all
  pub rest : All (Rests d setup journal 0) ts
  pub caches : HaveCache most ts
  pub tried : AreTried d setup journal most old left
