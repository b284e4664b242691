-- All that a worker keeps (Kafka Streams: what a StreamThread and its TaskManager hold).
use Rattle.std.specs.Prelude.{◌≡◌, ◌≤◌, ℕ, false, List, [], ◌∷◌}
use Rattle.std.specs.List.{All}
use Rattle.ks_record.specs.declared.record.PartId.{PartId}
use Rattle.ks_record.specs.declared.record.TaskId.{TaskId}
use Rattle.ks_record.specs.Parts.{same_task}
use Rattle.ks_plan.specs.Drafts.{DraftView}
use Rattle.ks_history.specs.declared.journal.Entry.{Entry}
use Rattle.ks_history.specs.Machine.{TaskPlan, IsNetwork}
use Rattle.ks_history.specs.History.{IsHistory}
use Rattle.ks_growing.specs.Passes.{PassView}
use Rattle.ks_shared.specs.declared.state.Frame.{Frame}
use Rattle.ks_shared.specs.Calls.{setup_in}
use Rattle.ks_worker_client.specs.declared.member.Member.{Member}
use Rattle.ks_worker_client.specs.Members.{MemberHasSeen, IsProducer}
use Rattle.ks_worker_client.specs.Calls.{Later}
use Rattle.ks_standby.specs.declared.replica.Replica.{Replica}
use Rattle.ks_task.specs.declared.task.Task.{Task}
use Rattle.ks_task.specs.Tasks.{task_view}
use Rattle.ks_worker_state.specs.Names.{AreHeldOnce}
use Rattle.ks_worker_state.specs.Standbys.{IsStandby}
use Rattle.ks_worker_state.specs.Tasks.{IsHeldTask}

-- no other of these tasks has this name
abbrev pub IsNoneOf : TaskId → List Task → Type 0
IsNoneOf t tasks = All (λ other. same_task t (task_view other).task ≡ false) tasks

-- no two tasks have one name
abbrev pub HaveOwnNames : List Task → Type 0
HaveOwnNames [] = Unit {0}
HaveOwnNames (t ∷ ts) = IsNoneOf (task_view t).task ts × HaveOwnNames ts

-- the member's producer, tasks and replicas, by what its pass has seen
pub record IsWorker {W : Type 0} (plan : W → TaskPlan) (d : DraftView) (pass : PassView Entry (Frame W)) (m : Member) (last : ℕ) (numbers : List (PartId × ℕ)) (tasks : List Task) (replicas : List Replica) : Type 0 where
  pub number : m.number ≤ 15
  pub instance : m.instance ≤ 3
  pub seen : MemberHasSeen (setup_in plan pass.frame) pass.seen m last
  pub producer : IsProducer (setup_in plan pass.frame) pass.seen m last numbers
  -- who is no member has no task
  pub alone : m.is_member ≡ false → tasks ≡ []
  pub names : HaveOwnNames tasks
  pub once : AreHeldOnce tasks replicas
  pub tasks_are : All (IsHeldTask d (setup_in plan pass.frame) pass.seen m last) tasks
  pub replicas_are : All (IsStandby (setup_in plan pass.frame) pass.seen) replicas

-- a member that lost its epoch, its generation and its membership
abbrev pub lost : Member → Member
lost m = record m { epoch = 0; generation = 0; is_member = false }

-- ---- the laws
-- whatever others write, and whatever the worker itself reads
abbrev pub WorkerStays : {W : Type 0} → (W → TaskPlan) → Type 0
WorkerStays {W} plan =
    (d : DraftView) (old new : PassView Entry (Frame W)) (m : Member) (last : ℕ) (numbers : List (PartId × ℕ))
    (tasks : List Task) (replicas : List Replica) → IsNetwork (setup_in plan old.frame).plan → Later plan old new →
    IsWorker plan d old m last numbers tasks replicas → IsWorker plan d new m last numbers tasks replicas

-- a crash leaves a worker that has nothing
abbrev pub CrashLeaves : {W : Type 0} → (W → TaskPlan) → Type 0
CrashLeaves {W} plan = (d : DraftView) (pass : PassView Entry (Frame W)) (m : Member) → m.number ≤ 15 → m.instance ≤ 3 →
    IsHistory (setup_in plan pass.frame) pass.seen → IsWorker plan d pass (lost m) 0 [] [] []
