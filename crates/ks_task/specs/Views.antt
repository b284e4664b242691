-- A task's inputs and changelogs as lists, and the view that they are.
use Rattle.std.specs.Prelude.{◌≡◌, ℕ, ◌+◌, ◌-◌, ◌==◌, Bool, true, false, List, [], ◌∷◌, ◌++◌, map, None, Option, Some, if◌then◌else◌}
use Rattle.std.specs.List.{filter, All}
use Rattle.ks_record.specs.Records.{Record as Rec}
use Rattle.ks_record.specs.declared.record.PartId.{PartId}
use Rattle.ks_record.specs.declared.record.TaskId.{TaskId}
use Rattle.ks_record.specs.Parts.{same_part}
use Rattle.ks_plan.specs.Drafts.{DraftView}
use Rattle.ks_plan.specs.Plan.{plan_of}
use Rattle.ks_plan.specs.Layout.{tasks}
use Rattle.ks_plan.specs.Infos.{input_numbers, changelog_numbers}
use Rattle.ks_plan.specs.Faults.{fault_of}
use Rattle.ks_plan.specs.declared.node.Topic.{Topic}
use Rattle.ks_plan.specs.Plan.{Kind}
use Rattle.ks_def_runs.specs.Bytes.{Store}
use Rattle.ks_def_tasks.specs.Bytes.{keep_all, records_at}
use Rattle.ks_history.specs.Machine.{has_topic}
use Rattle.ks_history.specs.State.{has_task, offset_in}
use Rattle.ks_history.specs.Follows.{TaskView}
use Rattle.ks_task.specs.declared.inputs.Input.{Input}
use Rattle.ks_task_nodes.specs.declared.topics.NodeTopics.{NodeTopics}
use Rattle.ks_def_tasks.specs.Rules.{HaveParts}
use Rattle.ks_task_nodes.specs.declared.processor.ProcessorNode.{ProcessorNode}
use Rattle.ks_task_nodes.specs.Nodes.{topics_from, node_view}
use Rattle.ks_task_nodes.specs.Reach.{live_in}
use Rattle.ks_cache.specs.declared.changelogs.Changelog.{Changelog}
use Rattle.ks_cache.specs.Changelogs.{stores_in}
use Rattle.ks_cache.specs.Kept.{Kept, held_back}
use Rattle.ks_cache.specs.Lists.{Pairs, cached_after}
use Rattle.ks_standby.specs.Replicas.{positions_in, numbers_of}
use Rattle.ks_law_kinds.specs.Fitting.{FitsPlan}

-- ---- inputs, by topic
abbrev pub position_in : List Input → ℕ → ℕ
position_in [] topic = 0
position_in (x ∷ xs) topic = if topic == x.topic then x.position else position_in xs topic

abbrev pub committed_in : List Input → ℕ → ℕ
committed_in [] topic = 0
committed_in (x ∷ xs) topic = if topic == x.topic then x.committed else committed_in xs topic

abbrev pub topics_in : List Input → List ℕ
topics_in xs = map (λ (x : Input). x.topic) xs

abbrev pub moved_to : ℕ → ℕ → Input → Input
moved_to topic position x = if topic == x.topic then record { topic = x.topic; committed = x.committed; position = position } else x

abbrev pub with_committed : Input → Input
with_committed x = record { topic = x.topic; committed = x.position; position = x.position }

-- how far the positions are past the committed offsets, in all
abbrev pub uncommitted_in : List Input → ℕ
uncommitted_in [] = 0
uncommitted_in (x ∷ xs) = (x.position - x.committed) + uncommitted_in xs

-- an input at an offset that is committed
abbrev pub input_at : ℕ × ℕ → Input
input_at o = record { topic = o.0; committed = o.1; position = o.1 }

-- ---- changelogs
-- a store after records of its changelog
abbrev pub with_records : Kept → List Rec → Kept
with_records s recs = record { whole = keep_all s.whole recs; cached = cached_after s.capacity s.cached recs; capacity = s.capacity }

-- after the records for it among these
abbrev pub log_after : ℕ → List (PartId × Rec) → Changelog → Changelog
log_after part made l = record { topic = l.topic; position = l.position; store = with_records l.store (records_at (record { topic = l.topic; part = part }) made) }

-- its position is the named end, and nothing is held back
abbrev pub ended : List (ℕ × ℕ) → Changelog → Changelog
ended ends l = record { topic = l.topic; position = offset_in l.position l.topic ends; store = held_back l.store.capacity l.store }

-- its store holds back so much from now on, and nothing yet
abbrev pub holding : ℕ → Changelog → Changelog
holding cache l = record { topic = l.topic; position = l.position; store = held_back cache l.store }

-- all but what is held back
abbrev pub plain_log : Changelog → ℕ × (ℕ × Store)
plain_log l = (l.topic, (l.position, l.store.whole))

abbrev pub cached_in : List Changelog → ℕ → Pairs
cached_in [] number = []
cached_in (l ∷ ls) number = if number == l.topic then l.store.cached else cached_in ls number

-- a changelog whose store holds back at most so much, and that of what was made for it since the last commit
pub record IsCached (part cache : ℕ) (made : List (PartId × Rec)) (l : Changelog) : Type 0 where
  pub capacity : l.store.capacity ≡ cache
  pub cached : l.store.cached ≡ cached_after cache [] (records_at (record { topic = l.topic; part = part }) made)

-- those of the ends that are of these changelogs
abbrev pub own_ends : List ℕ → List (ℕ × ℕ) → List (ℕ × ℕ)
own_ends numbers ends = filter (λ (e : ℕ × ℕ). has_topic e.0 numbers) ends

-- ---- the whole
abbrev pub view_of : TaskId → List Input → List Changelog → List (ℕ × ℕ) → List (PartId × Rec) → ℕ → TaskView
view_of id inputs logs order made late = record {
  task = id;
  kept = committed_in inputs;
  inputs = position_in inputs;
  order = order;
  position = positions_in logs;
  stores = stores_in logs;
  made = λ q. records_at q made;
  late = late;
}

-- a task of a topology that has its nodes, its inputs and its changelogs, whose stores hold back what was made since the last commit
pub record IsTask (d : DraftView) (id : TaskId) (nodes : List NodeTopics) (inputs : List Input) (logs : List Changelog) (made : List (PartId × Rec)) (cache : ℕ) : Type 0 where
  pub well_formed : fault_of d ≡ None
  pub have : HaveParts (plan_of d)
  pub fits : FitsPlan (plan_of d)
  pub there : has_task id (tasks (plan_of d)) ≡ true
  pub nodes_are : nodes ≡ topics_from (plan_of d) id.sub 0 (plan_of d).kinds
  pub inputs_are : topics_in inputs ≡ input_numbers (plan_of d) id.sub
  pub logs_are : numbers_of logs ≡ changelog_numbers (plan_of d) id.sub
  pub caches_are : All (IsCached id.part cache made) logs

-- in each topic of these inputs, the position among all is the committed offset among all
abbrev pub are_committed : List Input → List Input → Bool
are_committed all [] = true
are_committed all (x ∷ xs) = if position_in all x.topic == committed_in all x.topic then are_committed all xs else false

-- ---- records by partition
abbrev pub with_output : PartId → Rec → List (PartId × List Rec) → List (PartId × List Rec)
with_output q r [] = (q, r ∷ []) ∷ []
with_output q r (out ∷ outs) = if same_part q out.0 then (out.0, out.1 ++ r ∷ []) ∷ outs else out ∷ with_output q r outs

-- these after what is there
abbrev pub grouped : List (PartId × List Rec) → List (PartId × Rec) → List (PartId × List Rec)
grouped outs [] = outs
grouped outs (x ∷ xs) = grouped (with_output x.0 x.1 outs) xs

-- where a partition's records stand; past the end where it has none
abbrev pub output_place : PartId → List (PartId × List Rec) → ℕ
output_place q [] = 0
output_place q (out ∷ outs) = if same_part q out.0 then 0 else output_place q outs + 1

-- the numbers of those of these nodes that a topic can reach
abbrev pub AreLiveAt : List ProcessorNode → Option Topic → List ℕ → Type 0
AreLiveAt nodes None live = live ≡ []
AreLiveAt nodes (Some topic) live = live ≡ live_in topic [] (map node_view nodes)
