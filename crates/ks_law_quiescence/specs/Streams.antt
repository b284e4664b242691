-- Streams that are counted and summed by groups.
-- Kafka Streams developer guide, "Aggregating": each item of a stream adds to its group.
use Rattle.std.specs.Prelude.{◌≡◌, ℕ, List, [], ◌∷◌, Option, Some, None, Bool, false, ◌||◌, fold, cond}
use Rattle.std.specs.List.{flat_map}
use Rattle.ks_record.specs.declared.record.TaskId.{TaskId}
use Rattle.ks_record.specs.Parts.{same_task}
use Rattle.ks_expr.specs.Eval.{same_bytes}
use Rattle.ks_wire.specs.declared.values.Agg.{Agg}
use Rattle.ks_plan.specs.Drafts.{DraftView, Name}
use Rattle.ks_plan.specs.Plan.{Plan, plan_of}
use Rattle.ks_plan.specs.Plan.Kind.{StreamAggregate}
use Rattle.ks_def_runs.specs.FinMap as map
use Rattle.ks_def_runs.specs.Bytes.{by_bytes}
use Rattle.ks_def_runs.specs.Run.{Taken}
use Rattle.ks_query.specs.Streams.{Key, Input, StreamItem, some_of, grouped}
use Rattle.ks_query.specs.Query.{add_to, item_rows}
use Rattle.ks_query.specs.Aggregates.{stream_add}
use Rattle.ks_def_tasks.specs.Messages.{Place, agg_of, Message, Item, Rules}
use Rattle.ks_def_tasks.specs.Messages.Message.{Keyed}
use Rattle.ks_def_tasks.specs.Step.{items_from}
use Rattle.ks_def_tasks.specs.Tasks.{arrival, machine}
use Rattle.ks_def_tasks.specs.Collision.{IsNode}
use Rattle.ks_law_quiescence.specs.Groups.{place_of}
use Rattle.ks_law_topology.specs.WellFormed.{IsWellFormed}
use Rattle.ks_law_quiescence.specs.States.{State, state_of, home_task}
use Rattle.ks_law_topology.specs.Taken.{messages}

-- ---- the items that a stream node has passed on, in all tasks, in the order of the steps
abbrev pub item_of_step : Plan → ℕ → Taken TaskId Place Item → Option StreamItem
item_of_step p n t = items_from (arrival p t.place t.item) (λ m. None) 0 p.kinds n

abbrev pub passed_on : Plan → ℕ → List (Taken TaskId Place Item) → List StreamItem
passed_on p n ts = some_of (item_of_step p n) ts

-- ---- the records that wait at a partition, of all tasks that made a step
abbrev pub is_among : TaskId → List TaskId → Bool
is_among u [] = false
is_among u (v ∷ vs) = same_task u v || is_among u vs

abbrev pub with_task : TaskId → List TaskId → List TaskId
with_task u us = cond (is_among u us) us (u ∷ us)

abbrev pub takers : Rules → Plan → List (Taken TaskId Place Item) → List TaskId
takers rules p [] = []
takers rules p (t ∷ ts) = with_task ((machine rules p).reader t.place) (takers rules p ts)

abbrev pub all_waiting : Rules → Plan → State → Place → List Item
all_waiting rules p st q = flat_map (λ u. st.waiting (Some u) q) (takers rules p st.taken)

-- ---- a group with more records of it
abbrev pub one_joined : Option Name → Key → Option Agg → Message → Option Agg
one_joined field g old (Keyed h row) = cond (same_bytes g h) (Some (stream_add field old row)) old
one_joined field g old m = old

-- the stored aggregate of a group and the records of it that wait are together the aggregate of the items that were passed on
abbrev pub StreamGroupsAreWhole : Type 0
StreamGroupsAreWhole = (rules : Rules) (d : DraftView) (records : List Input) (schedule : List (Option TaskId × Place)) → IsWellFormed d →
    let p = plan_of d in
    let st = state_of rules p records schedule in
    (n f : ℕ) (by : Option Name) (field : Option Name) (through : Bool) → IsNode p n (StreamAggregate f by field through) → (g : Key) →
    fold (one_joined field g) (agg_of (map.get ((st.stores (home_task rules p n g)).tables n) g)) (messages (all_waiting rules p st (place_of rules p n g)))
    ≡ map.get (fold (add_to {R = by_bytes} field) map.empty (item_rows (grouped by (passed_on p f st.taken)))) g
