-- Tables that are counted and summed by groups.
-- Kafka Streams developer guide, "Aggregating": of a table, the old row is subtracted from its group and the new one added.
use Rattle.std.specs.Prelude.{◌≡◌, ℕ, ◌<◌, ◌^◌, pos, List, ◌++◌, length, map, Option, Some, fold, cond, option_map, is_none}
use Rattle.std.specs.Int.{IsNonNegative}
use Rattle.ks_record.specs.declared.record.TaskId.{TaskId}
use Rattle.ks_expr.specs.Eval.{Row, same_bytes}
use Rattle.ks_wire.specs.declared.values.Agg.{Agg}
use Rattle.ks_def_runs.specs.FinMap as map
use Rattle.ks_def_runs.specs.Bytes.{by_bytes}
use Rattle.ks_plan.specs.Drafts.{DraftView, Name}
use Rattle.ks_plan.specs.Plan.{Plan, plan_of}
use Rattle.ks_plan.specs.Plan.Kind.{TableAggregate}
use Rattle.ks_plan.specs.declared.node.Topic.TheVariants.{Repartition}
use Rattle.ks_def_runs.specs.Run.{received}
use Rattle.ks_query.specs.Streams.{Key, Input}
use Rattle.ks_query.specs.Aggregates.{nothing_yet, or_nothing, with_members, moved}
use Rattle.ks_query.specs.Query.{add_to, grouped_rows}
use Rattle.ks_def_tasks.specs.Messages.{Place, shown, Message, Item, Rules}
use Rattle.ks_def_tasks.specs.Messages.Stored.{OfAgg}
use Rattle.ks_def_tasks.specs.Messages.Message.{Moved}
use Rattle.ks_def_tasks.specs.Tasks.{machine}
use Rattle.ks_def_tasks.specs.Collision.{IsNode}
use Rattle.ks_def_tasks.specs.Rest.{home}
use Rattle.ks_law_topology.specs.WellFormed.{IsWellFormed}
use Rattle.ks_law_quiescence.specs.States.{State, state_of, home_task}
use Rattle.ks_law_topology.specs.Taken.{messages, taken_at}

-- ---- what the deltas of a group among these messages sum to, from nothing
abbrev pub one_moved : Key → Agg → Message → Agg
one_moved g a (Moved h d) = cond (same_bytes g h) (moved a d) a
one_moved g a m = a

abbrev pub sum_of_deltas : Key → List Message → Agg
sum_of_deltas g ms = fold (one_moved g) nothing_yet ms

-- ---- what a group of these rows sums to, as the query counts it; nothing where no row has the group
abbrev pub sum_of_group : List ℕ → Option (List ℕ) → List (Key × Row) → Key → Agg
sum_of_group by field rows g = or_nothing (map.get (fold (add_to {R = by_bytes} field) map.empty (grouped_rows by rows)) g)

-- the rows that a task has of a node now
abbrev pub rows_of : State → TaskId → ℕ → List (Key × Row)
rows_of st u n = map (λ e. (e.0, shown e.1)) (map.entries ((st.stores u).tables n))

-- the partition of a group's deltas
abbrev pub place_of : Rules → Plan → ℕ → Key → Place
place_of rules p n g = record { topic = Repartition n; part = home rules p n g }

-- ---- for each sender and each group, in every state of every uncrashed run
-- the deltas that were taken of a sender and those that wait sum to the group of the rows that the sender has now
abbrev pub DeltasAreRows : Type 0
DeltasAreRows = (rules : Rules) (d : DraftView) (records : List Input) (schedule : List (Option TaskId × Place)) → IsWellFormed d →
    let p = plan_of d in
    let st = state_of rules p records schedule in
    (n f : ℕ) (by : Name) (field : Option Name) → IsNode p n (TableAggregate f by field) → (s : TaskId) (g : Key) →
    let q = place_of rules p n g in
    sum_of_deltas g (messages (received (machine rules p) (Some s) q st.taken ++ st.waiting (Some s) q)) ≡ sum_of_group by field (rows_of st s f) g

-- those that were taken, with each beginning of those that wait: no fewer than 0 members, and no amount without members
pub record IsOfRows (a : Agg) : Type 0 where
  pub members : IsNonNegative a.members
  pub nothing_left : a.members ≡ pos 0 → a.total ≡ pos 0

abbrev pub EachBeginning : Type 0
EachBeginning = (rules : Rules) (d : DraftView) (records : List Input) (schedule : List (Option TaskId × Place)) → IsWellFormed d →
    let p = plan_of d in
    let st = state_of rules p records schedule in
    length st.taken < 2 ^ 48 →
    (n f : ℕ) (by : Name) (field : Option Name) → IsNode p n (TableAggregate f by field) → (s : TaskId) (g : Key) (beginning rest : List Item) →
    let q = place_of rules p n g in
    st.waiting (Some s) q ≡ beginning ++ rest → IsOfRows (sum_of_deltas g (messages (received (machine rules p) (Some s) q st.taken ++ beginning)))

-- the stored aggregate is the sum of what was taken of all senders; absent where no member is left
abbrev pub GroupsAreTaken : Type 0
GroupsAreTaken = (rules : Rules) (d : DraftView) (records : List Input) (schedule : List (Option TaskId × Place)) → IsWellFormed d →
    let p = plan_of d in
    let st = state_of rules p records schedule in
    length st.taken < 2 ^ 48 →
    (n f : ℕ) (by : Name) (field : Option Name) → IsNode p n (TableAggregate f by field) → (g : Key) →
    map.get ((st.stores (home_task rules p n g)).tables n) g ≡ option_map (OfAgg (is_none field)) (with_members (sum_of_deltas g (taken_at (place_of rules p n g) st.taken)))
