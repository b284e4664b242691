-- What an ask is of, and what a store that is lent answers to it (Kafka Streams: interactive queries; KIP-535: reads of standby replicas).
use Rattle.std.specs.Prelude.{◌≡◌, ℕ, Bool, true, false, List, length, Option, Some, None, Result, Ok, Err, option_map, option_and_then, cond, nat_lt}
use Rattle.std.specs.Bool.{Decides}
use Rattle.ks_record.specs.Parts.{same_task}
use Rattle.ks_record.specs.declared.record.TaskId.{TaskId}
use Rattle.ks_record.specs.declared.record.PartId.{PartId}
use Rattle.ks_def_runs.specs.Bytes.{Store}
use Rattle.ks_def_runs.specs.FinMap as fin
use Rattle.ks_plan.specs.Drafts.{DraftView}
use Rattle.ks_plan.specs.Plan.{Kind, plan_of, known_nodes, node_number, is_windowed}
use Rattle.ks_plan.specs.Layout.{kind_at, sub_of, number_of, spread_of_topic}
use Rattle.ks_plan.specs.declared.node.Spread.{Spread}
use Rattle.ks_expr.specs.Keys.{spread_part}
use Rattle.ks_plan.specs.Infos.{store_of}
use Rattle.ks_plan.specs.declared.node.Topic.TheVariants.{Changelog}
use Rattle.ks_expr.specs.Eval.{Row}
use Rattle.ks_wire.specs.Spelling.{window_key}
use Rattle.ks_wire.specs.Reading.{agg_from}
use Rattle.ks_query.specs.Streams.{Key}
use Rattle.ks_query.specs.Aggregates.{agg_row}
use Rattle.ks_law_settled.specs.Folded as folded
use Rattle.ks_history.specs.Follows.{ReplicaView, TaskView}
use Rattle.ks_task_processing.specs.Steps.{part_in}
use Rattle.ks_task.specs.Tasks.{IsClean}
use Rattle.ks_iq.specs.declared.ask.Ask.{Ask}
use Rattle.ks_iq.specs.declared.answer.Answer.{Answer}
use Rattle.ks_iq.specs.declared.fault.IqFault.{IqFault}
use Rattle.ks_iq.specs.declared.fault.IqFault.TheVariants.{UnknownStore, WrongStart, WrongTask, NotClean, Behind}

-- ---- the store of an ask
-- the number of the node of its name; past all where none has it
abbrev pub node_of : DraftView → Ask → ℕ
node_of d a = node_number (known_nodes d) a.node

-- the number of its changelog, where a node has the name and keeps something
abbrev pub kept_at : DraftView → ℕ → Option ℕ
kept_at d n = cond (nat_lt n (length d.nodes)) (store_of (plan_of d) n) None

abbrev pub log_of : DraftView → Ask → ℕ
log_of d a = number_of (plan_of d) (Changelog (node_of d a))

-- the partition of a key by how keys are spread; 0 of none
abbrev pub placed_in : Key → Spread → ℕ
placed_in key s = part_in (spread_part s.before key) s.parts

-- the task that has the key
abbrev pub task_of : DraftView → Ask → TaskId
task_of d a = record { sub = sub_of (plan_of d) (node_of d a); part = placed_in a.key (spread_of_topic (plan_of d) (Changelog (node_of d a))) }

-- its partition of the changelog
abbrev pub part_of_ask : DraftView → Ask → PartId
part_of_ask d a = record { topic = log_of d a; part = (task_of d a).part }

-- the bytes of a key in a store, of a window with its start
abbrev pub store_key : Key → Option ℕ → List ℕ
store_key k None = k
store_key k (Some start) = window_key k start

-- the row that kept bytes are shown as
abbrev pub shown_row : Kind → List ℕ → Option Row
shown_row kind bytes = cond (is_windowed kind) (option_map (agg_row true) (agg_from bytes)) (folded.row_from kind bytes)

abbrev pub value_in : DraftView → Ask → Store → Option Row
value_in d a store = option_and_then (shown_row (kind_at (plan_of d) (node_of d a))) (fin.get store (store_key a.key a.start))

-- ---- faults
-- a start is there exactly where it is wanted
abbrev pub start_fault : Bool → Option ℕ → Option IqFault
start_fault true (Some start) = None
start_fault true None = Some WrongStart
start_fault false (Some start) = Some WrongStart
start_fault false None = None

abbrev pub store_fault : Option ℕ → Bool → Option ℕ → Option IqFault
store_fault None windowed start = Some UnknownStore
store_fault (Some log) windowed start = start_fault windowed start

-- what the job alone decides
abbrev pub ask_fault : DraftView → Ask → Option IqFault
ask_fault d a = store_fault (kept_at d (node_of d a)) (is_windowed (kind_at (plan_of d) (node_of d a))) a.start

-- by the position
abbrev pub if_there : ℕ → ℕ → Option Row → Result Answer IqFault
if_there at_least position value = cond (nat_lt position at_least) (Err (Behind position)) (Ok (record { value = value; position = position }))

-- by the task
abbrev pub if_own : TaskId → TaskId → Result Answer IqFault → Result Answer IqFault
if_own task owner answer = cond (same_task task owner) answer (Err (WrongTask owner))

abbrev pub if_fine : Option IqFault → Result Answer IqFault → Result Answer IqFault
if_fine None answer = answer
if_fine (Some fault) answer = Err fault

-- what a replica that is lent answers
abbrev pub lent_answer : DraftView → ReplicaView → Ask → ℕ → Result Answer IqFault
lent_answer d r a at_least = if_fine (ask_fault d a) (if_own r.task (task_of d a) (if_there at_least (r.position (log_of d a)) (value_in d a (r.stores (log_of d a)))))

-- by whether the task is clean
abbrev pub if_clean : Bool → Result Answer IqFault → Result Answer IqFault
if_clean clean answer = cond clean answer (Err NotClean)

-- what a task that is lent answers
abbrev pub active_answer : DraftView → TaskView → Bool → Ask → ℕ → Result Answer IqFault
active_answer d t clean a at_least =
    if_fine (ask_fault d a) (if_own t.task (task_of d a) (if_clean clean (if_there at_least (t.position (log_of d a)) (value_in d a (t.stores (log_of d a))))))

-- the same, by whether each of its positions is the committed offset
pub record IsActiveAnswer (d : DraftView) (t : TaskView) (a : Ask) (at_least : ℕ) (r : Result Answer IqFault) : Type 0 where
  pub clean : Bool
  pub decides : Decides clean (IsClean t)
  pub is : r ≡ active_answer d t clean a at_least
