-- A cluster that is brought to rest topic by topic: what holds of its tasks in between, and what they hand to the commits.
use Rattle.std.specs.Prelude.{◌≡◌, ℕ, ◌<◌, ◌≤◌, ◌+◌, ◌==◌, ◌&&◌, Bool, true, false, List, [], ◌∷◌, ◌++◌, length, map, Option, Some, None, option_map, IfOk, if◌then◌else◌, IfSome, slice_index, slice_index_or}
use Rattle.std.specs.List.{All, AllWithin}
use Rattle.ks_record.specs.declared.record.PartId.{PartId}
use Rattle.ks_record.specs.declared.record.TaskId.{TaskId}
use Rattle.ks_record.specs.Parts.{same_task}
use Rattle.ks_plan.specs.Drafts.{DraftView}
use Rattle.ks_plan.specs.Plan.{plan_of}
use Rattle.ks_plan.specs.Faults.{fault_of}
use Rattle.ks_def_tasks.specs.Messages.{Rules}
use Rattle.ks_law_topology.specs.Work.{work_of}
use Rattle.ks_commit.specs.Alone.{IsIdle}
use Rattle.ks_plan.specs.Infos.{input_numbers, changelog_numbers}
use Rattle.ks_plan.specs.Layout.{tasks as all_tasks}
use Rattle.ks_history.specs.declared.journal.Entry.{Entry}
use Rattle.ks_history.specs.declared.journal.Request.{Request}
use Rattle.ks_history.specs.declared.journal.Request.TheVariants.{Expire, MarkNext}
use Rattle.ks_history.specs.Machine.{TaskPlan, IsNetwork, part_of, has_topic}
use Rattle.ks_history.specs.State.{State, Setup, IsSetup, has_task}
use Rattle.ks_history.specs.Reads.{end_of}
use Rattle.ks_history.specs.Follows.{TaskView}
use Rattle.ks_history.specs.History.{at, IsHistory, IsPrefix}
use Rattle.ks_law_restore.specs.Views.{Stands, WorkView, IsFrozen, committed_view, names_part, are_topics_once, SendsInside}
use Rattle.ks_law_restore.specs.Commits.{commits_for, commit_by}
use Rattle.ks_history.specs.State.{pending_of}
use Rattle.ks_cluster.specs.View.{ClusterView, setup_of, state_of}
use Rattle.ks_law_settled.specs.Jobs.{produces}
use Rattle.ks_commit.specs.declared.publisher.Publisher.{Publisher}
use Rattle.ks_commit.specs.Work.{work_view}
use Rattle.ks_commit.specs.Committed.{IsReady, MayCommit, EachMay, AreApart, names_in, EachEnds}
use Rattle.ks_task.specs.declared.task.Task.{Task}
use Rattle.ks_task.specs.Tasks.{task_view, IsTaskOf}
use Rattle.ks_task.specs.Views.{own_ends}
use Rattle.ks_settle.specs.declared.draining.Attempt.{Attempt}
use Rattle.ks_settle.specs.Reading.{SendsOn, IsClean, HasRead, HasReadAll}
use Rattle.ks_commit.specs.Sending.{publishes, count_commits, IsLonger, pendings_of}

-- ---- what a cluster's tasks must keep to be drained: they make a network, send to later topics alone and inside the cluster
pub record MayDrain (setup : Setup) : Type 0 where
  pub made : IsSetup setup
  pub network : IsNetwork setup.plan
  pub sends : SendsOn setup.plan
  pub inside : SendsInside setup
  pub once : (sub : ℕ) → are_topics_once (setup.plan.inputs sub) ≡ true

-- a cluster of the tasks of this topology, by these rules
pub record IsOfTopology {W : Type 0} (plan : W → TaskPlan) (rules : Rules) (d : DraftView) (c : ClusterView W) : Type 0 where
  pub well_formed : fault_of d ≡ None
  pub work : plan c.work ≡ work_of rules (plan_of d)
  pub may : MayDrain (setup_of plan c)

-- its tasks, their inputs and their changelogs are those of this well-formed topology
pub record HasTasksOf {W : Type 0} (plan : W → TaskPlan) (d : DraftView) (c : ClusterView W) : Type 0 where
  pub well_formed : fault_of d ≡ None
  pub tasks : c.tasks ≡ all_tasks (plan_of d)
  pub inputs : (sub : ℕ) → (plan c.work).inputs sub ≡ input_numbers (plan_of d) sub
  pub changelogs : (sub : ℕ) → (plan c.work).changelogs sub ≡ changelog_numbers (plan_of d) sub

-- and between two transactions, so that all of its records may be read
pub record MayRead {W : Type 0} (plan : W → TaskPlan) (rules : Rules) (d : DraftView) (c : ClusterView W) : Type 0 where
  pub of : IsOfTopology plan rules d c
  pub idle : IsIdle (state_of plan c)

-- ---- tasks between two topics
-- the task has taken and committed all of its inputs before this topic, and holds nothing
pub record IsDrainedTo (setup : Setup) (journal : List Entry) (topic : ℕ) (v : TaskView) : Type 0 where
  pub stands : Stands setup journal v
  pub known : has_task v.task setup.tasks ≡ true
  pub clean : IsClean setup.plan v
  pub drained : (u : ℕ) → u < topic → has_topic u (setup.plan.inputs v.task.sub) ≡ true → v.inputs u ≡ end_of (at setup journal) (part_of u v.task)

-- the task has taken all of its inputs up to this topic, and committed those of all other topics; what it holds is for later topics
pub record IsFilledTo (setup : Setup) (journal : List Entry) (topic : ℕ) (v : TaskView) : Type 0 where
  pub stands : Stands setup journal v
  pub known : has_task v.task setup.tasks ≡ true
  pub kept : (u : ℕ) → (u == topic) ≡ false → has_topic u (setup.plan.inputs v.task.sub) ≡ true → v.kept u ≡ v.inputs u
  pub made : (q : PartId) → q.topic ≤ topic → v.made q ≡ []
  pub drained : (u : ℕ) → u ≤ topic → has_topic u (setup.plan.inputs v.task.sub) ≡ true → v.inputs u ≡ end_of (at setup journal) (part_of u v.task)

-- ---- works
abbrev pub work_for : TaskId → List WorkView → Option WorkView
work_for t [] = None
work_for t (f ∷ fs) = if same_task t f.task then Some f else work_for t fs

abbrev pub with_work : List WorkView → Option WorkView → List WorkView
with_work fs None = fs
with_work fs (Some f) = fs ++ f ∷ []

-- the task's work is this one; without one it holds nothing
abbrev pub IsToldBy : TaskPlan → TaskView → Option WorkView → Type 0
IsToldBy plan v None = IsClean plan v
IsToldBy plan v (Some f) = IsFrozen plan v f

abbrev pub IsTold : TaskPlan → List WorkView → TaskView → Type 0
IsTold plan fs v = IsToldBy plan v (work_for v.task fs)

-- the ends that were answered to a task's work, where these tasks had works
abbrev pub ends_for : TaskId → List TaskId → List (List (ℕ × ℕ)) → Option (List (ℕ × ℕ))
ends_for t [] ends = None
ends_for t (name ∷ names) [] = None
ends_for t (name ∷ names) (e ∷ es) = if same_task t name then Some e else ends_for t names es

abbrev pub told_view : DraftView → TaskView → Option (List (ℕ × ℕ)) → TaskView
told_view d v None = v
told_view d v (Some ends) = committed_view v (own_ends (changelog_numbers (plan_of d) v.task.sub) ends)

-- partitions of topics up to this one end where they did
abbrev pub SameEnds : State → State → ℕ → Type 0
SameEnds s new topic = (q : PartId) → q.topic ≤ topic → end_of new q ≡ end_of s q

-- ---- one task reads a topic
-- a task of the topology that reads the topic, and follows the journal
pub record IsReader (d : DraftView) (setup : Setup) (journal : List Entry) (topic : ℕ) (t : Task) : Type 0 where
  pub of : IsTaskOf d t
  pub stands : Stands setup journal (task_view t)
  pub known : has_task (task_view t).task setup.tasks ≡ true
  pub input : has_topic topic (setup.plan.inputs (task_view t).task.sub) ≡ true

-- one fetch: whether it moved the task
pub record IsFetched (d : DraftView) (setup : Setup) (journal : List Entry) (topic : ℕ) (moved : Bool) (old new : Task) : Type 0 where
  pub of : IsTaskOf d new
  pub read : HasRead setup journal topic (task_view old) (task_view new)
  pub stays : moved ≡ false → new ≡ old
  pub ends : moved ≡ false → (task_view old).inputs topic ≡ end_of (at setup journal) (part_of topic (task_view old).task)
  pub moves : moved ≡ true → (task_view old).inputs topic + 1 ≤ (task_view new).inputs topic
  pub cache : new.cache ≡ old.cache

-- all fetches of the topic
pub record IsReadOn (d : DraftView) (setup : Setup) (journal : List Entry) (topic : ℕ) (moved : Bool) (old new : Task) : Type 0 where
  pub of : IsTaskOf d new
  pub read : HasReadAll setup journal topic (task_view old) (task_view new)
  pub stays : moved ≡ false → new ≡ old
  pub cache : new.cache ≡ old.cache

-- the task has read the topic to its end, and this is the work that it then has, if it has one
pub record IsRead (d : DraftView) (setup : Setup) (journal : List Entry) (topic : ℕ) (old new : Task) (f : Option WorkView) : Type 0 where
  pub of : IsTaskOf d new
  pub task : (task_view new).task ≡ (task_view old).task
  pub filled : IsFilledTo setup journal topic (task_view new)
  pub told : IsToldBy setup.plan (task_view new) f
  pub may : IfSome f (MayCommit setup (at setup journal))
  pub later : IfSome f (λ f. (q : PartId) → q.topic ≤ topic → names_part q f.outputs ≡ false)
  pub cache : new.cache ≡ old.cache

-- ---- all tasks
abbrev pub ids : List Task → List TaskId
ids ts = map (λ t. (task_view t).task) ts

-- how many pairs the stores of each hold back
abbrev pub caches_in : List Task → List ℕ
caches_in ts = map (λ t. t.cache) ts

abbrev pub Rests : DraftView → Setup → List Entry → ℕ → Task → Type 0
Rests d setup journal topic t = IsTaskOf d t × IsDrainedTo setup journal topic (task_view t)

abbrev pub IsFull : DraftView → Setup → List Entry → ℕ → List WorkView → Task → Type 0
IsFull d setup journal topic fs t = IsTaskOf d t × IsFilledTo setup journal topic (task_view t) × IsTold setup.plan fs (task_view t)

-- the works of tasks that have read a topic to its end
pub record AreWorks (setup : Setup) (journal : List Entry) (topic : ℕ) (fs : List WorkView) : Type 0 where
  pub may : EachMay setup (at setup journal) fs
  pub apart : AreApart fs
  pub later : (q : PartId) → q.topic ≤ topic → names_in q fs ≡ false

-- the first of the tasks have read the topic, and these are their works
pub record AreReading (d : DraftView) (setup : Setup) (journal : List Entry) (topic : ℕ) (i : ℕ) (ts : List Task) (fs : List WorkView) : Type 0 where
  pub names : ids ts ≡ setup.tasks
  pub full : AllWithin (IsFull d setup journal topic fs) ts 0 i
  pub rest : AllWithin (λ t. Rests d setup journal topic t × (work_for (task_view t).task fs ≡ None)) ts i (length ts)
  pub works : AreWorks setup journal topic fs

-- the stores of each hold back so many pairs
abbrev pub HaveCache : ℕ → List Task → Type 0
HaveCache most ts = All (λ t. t.cache ≡ most) ts

-- ---- tasks that read a topic side by side
abbrev pub tasks_in : List Attempt → List Task
tasks_in xs = map (λ x. x.task) xs

-- what came of these: where memory sufficed the task has read the topic, and this is the work that it then has
pub record AreTried (d : DraftView) (setup : Setup) (journal : List Entry) (topic : ℕ) (old new : List Attempt) : Type 0 where
  pub count : length new ≡ length old
  pub each : (k : ℕ) (x : Attempt) → k < length old → IfOk (slice_index_or new k x).work (λ o. IsRead d setup journal topic (slice_index_or old k x).task (slice_index_or new k x).task (option_map work_view o))

-- these tasks were put back, and these are their works; what came of the others is left. All of them have these caches
pub record ArePutBack (d : DraftView) (setup : Setup) (journal : List Entry) (topic : ℕ) (cs : List ℕ) (ts : List Task) (left : List Attempt) (fs : List WorkView) : Type 0 where
  pub old : List Attempt
  pub reading : AreReading d setup journal topic (length ts) (ts ++ tasks_in old) fs
  pub caches : caches_in (ts ++ tasks_in old) ≡ cs
  pub tried : AreTried d setup journal topic old left

-- the works were committed, and these ends answered
pub record ArePublished (setup : Setup) (journal new : List Entry) (topic : ℕ) (fs : List WorkView) (told : List (List (ℕ × ℕ))) : Type 0 where
  pub more : List Entry
  pub worker : ℕ
  pub is : new ≡ journal ++ more
  pub history : IsHistory setup new
  pub commits : (t : TaskId) → commits_for setup (at setup journal) more t ≡ commit_by worker (pending_of t (pendings_of fs))
  pub ends : EachEnds setup (at setup new) fs told
  pub same : SameEnds (at setup journal) (at setup new) topic

-- each task was told the ends that were answered to its work, where these had works
pub record IsToldTask (d : DraftView) (worked : List TaskId) (ends : List (List (ℕ × ℕ))) (old new : Task) : Type 0 where
  pub of : IsTaskOf d new
  pub view : task_view new ≡ told_view d (task_view old) (ends_for (task_view old).task worked ends)
  pub cache : new.cache ≡ old.cache

pub record AreToldBy (d : DraftView) (worked : List TaskId) (ends : List (List (ℕ × ℕ))) (old new : List Task) : Type 0 where
  pub names : ids new ≡ ids old
  pub count : length new ≡ length old
  pub told : (k : ℕ) (t : Task) → k < length old → IsToldTask d worked ends (slice_index_or old k t) (slice_index_or new k t)

-- the first of the tasks were
pub record AreToldTo (d : DraftView) (worked : List TaskId) (ends : List (List (ℕ × ℕ))) (i : ℕ) (old new : List Task) : Type 0 where
  pub names : ids new ≡ ids old
  pub count : length new ≡ length old
  pub told : (k : ℕ) (t : Task) → k < i → IsToldTask d worked ends (slice_index_or old k t) (slice_index_or new k t)
  pub rest : (k : ℕ) (t : Task) → i ≤ k → slice_index_or new k t ≡ slice_index_or old k t

-- ---- what a drain writes
-- the worker that drains
abbrev pub drain_worker : ℕ
drain_worker = 16

-- a request of a drain: any worker is removed, any producer's marker is written, and the worker that drains publishes
abbrev pub is_of_drain : Request → Bool
is_of_drain (Expire w) = true
is_of_drain (MarkNext w) = true
is_of_drain request = publishes drain_worker request

abbrev pub all_of_drain : List Entry → Bool
all_of_drain [] = true
all_of_drain (entry ∷ entries) = is_of_drain entry.request && all_of_drain entries

-- the cluster's journal is longer by requests of a drain, of which at most so many decide to commit; all else is the same
pub record DrainsOn {W : Type 0} (most : ℕ) (old new : ClusterView W) : Type 0 where
  pub more : List Entry
  pub is : IsLonger old new more
  pub requests : all_of_drain more ≡ true
  pub commits : count_commits more ≤ most

-- ---- the cluster between two topics
-- all tasks are there, and have taken and committed all of their inputs before this topic
pub record AreResting {W : Type 0} (plan : W → TaskPlan) (c : ClusterView W) (publisher : Publisher) (d : DraftView) (topic : ℕ) (ts : List Task) : Type 0 where
  pub worker : publisher.worker ≡ drain_worker
  pub ready : IsReady (setup_of plan c) (state_of plan c) publisher
  pub names : ids ts ≡ c.tasks
  pub rest : All (Rests d (setup_of plan c) c.journal topic) ts

-- tasks of the topology with these names, which have taken nothing since their last commits, and whose stores hold back so many pairs
pub record AreRestored (d : DraftView) (setup : Setup) (journal : List Entry) (all : List TaskId) (most : ℕ) (ts : List Task) : Type 0 where
  pub names : ids ts ≡ all
  pub rest : All (Rests d setup journal 0) ts
  pub caches : HaveCache most ts

-- the cluster's journal is longer, with no further input; all else is the same
pub record Extends {W : Type 0} (old new : ClusterView W) : Type 0 where
  pub same : new ≡ record old { journal = new.journal }
  pub prefix : IsPrefix old.journal new.journal
  pub produces : produces new.journal ≡ produces old.journal

-- the first topics of an order were drained, by tasks that have these caches
pub record IsDraining {W : Type 0} (plan : W → TaskPlan) (first c : ClusterView W) (publisher : Publisher) (d : DraftView) (cs order : List ℕ) (i : ℕ) (ts : List Task) : Type 0 where
  pub on : DrainsOn i first c
  pub within : i ≤ length order
  pub bound : ℕ
  pub below : (k : ℕ) → k < i → slice_index order k < bound
  pub above : (k : ℕ) → i ≤ k → k < length order → bound ≤ slice_index order k
  pub rest : AreResting plan c publisher d bound ts
  pub caches : caches_in ts ≡ cs
