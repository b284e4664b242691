-- Runs that take all, in several orders, and what they leave.
use Rattle.std.specs.Prelude.{ℕ, zero, suc, List, [], ◌∷◌, ◌++◌, reverse, map, Option, Some, None, true}
use Rattle.std.specs.List.{flat_map}
use Rattle.ks_expr.specs.Eval.{Row}
use Rattle.ks_query.specs.Streams.{Key}
use Rattle.ks_plan.specs.Plan.{Plan, Kind}
use Rattle.ks_plan.specs.Plan.Kind.{StreamAggregate, TableAggregate, Windowed, ForeignKeyJoin}
use Rattle.ks_plan.specs.declared.node.Topic.TheVariants.{Input as InputTopic, Repartition, Subscriptions, Responses}
use Rattle.ks_plan.specs.declared.node.Topic.{Topic}
use Rattle.ks_plan.specs.Layout.{kind_at, right_of, up_to, drain_order, parts_of_topic, parts_of, sub_of}
use Rattle.ks_def_runs.specs.FinMap as map
use Rattle.ks_query.specs.Streams.{Input}
use Rattle.ks_def_runs.specs.Run.{RunState, run}
use Rattle.ks_record.specs.declared.record.TaskId.{TaskId}
use Rattle.ks_def_tasks.specs.Messages.{Place, shown, Item, Store, Rules}
use Rattle.ks_query.specs.Windows.{WindowKey}
use Rattle.ks_query.specs.Aggregates.{agg_row}
use Rattle.ks_def_tasks.specs.Tasks.{machine, inputs_of}
use Rattle.ks_def_tasks.specs.Rest.{store_at}

-- the subtopology that writes an internal topic
abbrev pub from_of : Kind → ℕ
from_of (StreamAggregate f by field through) = f
from_of (TableAggregate f by field) = f
from_of (Windowed f by w through) = f
from_of (ForeignKeyJoin l r fk kind s) = l
from_of _ = 0

-- who sends to a topic
abbrev pub senders : Plan → Topic → List (Option TaskId)
senders p (InputTopic t) = None ∷ []
senders p (Repartition n) = map (λ i. Some (record { sub = sub_of p (from_of (kind_at p n)); part = i })) (up_to (parts_of p (from_of (kind_at p n))))
senders p (Subscriptions n) = map (λ i. Some (record { sub = sub_of p n; part = i })) (up_to (parts_of p n))
senders p (Responses n) = map (λ i. Some (record { sub = sub_of p (right_of (kind_at p n)); part = i })) (up_to (parts_of p (right_of (kind_at p n))))
senders p _ = []

abbrev pub times : {A : Type 0} → ℕ → List A → List A
times zero xs = []
times (suc n) xs = xs ++ times n xs

-- the lists of a topic, by partition and sender
abbrev pub lists_of : Plan → Topic → List (Option TaskId × Place)
lists_of p t = flat_map (λ i. map (λ s. (s, record { topic = t; part = i })) (senders p t)) (up_to (parts_of_topic p t))

-- all lists, in the drain order
abbrev pub all_lists : Plan → List (Option TaskId × Place)
all_lists p = flat_map (lists_of p) (drain_order p)

-- ---- orders of choices: each list n times, one after another; each list once, in n rounds; the same in rounds from the last list on
abbrev pub by_lists : Plan → ℕ → List (Option TaskId × Place)
by_lists p n = flat_map (λ c. times n (c ∷ [])) (all_lists p)

abbrev pub by_rounds : Plan → ℕ → List (Option TaskId × Place)
by_rounds p n = times n (all_lists p)

abbrev pub by_rounds_back : Plan → ℕ → List (Option TaskId × Place)
by_rounds_back p n = times n (reverse (all_lists p))

abbrev pub run_by : Rules → Plan → List Input → List (Option TaskId × Place) → RunState TaskId Place Store Item
run_by rules p records schedule = run (machine rules p) (inputs_of rules p records) schedule

-- all that waits in a state
abbrev pub waiting_in : Plan → RunState TaskId Place Store Item → List Item
waiting_in p st = flat_map (λ c. st.waiting c.0 c.1) (all_lists p)

-- the rows of a node, over its tasks
abbrev pub rows_of : Plan → RunState TaskId Place Store Item → ℕ → List (Key × Row)
rows_of p st n = flat_map (λ i. map (λ e. (e.0, shown e.1)) (map.entries ((store_at p st n i).tables n))) (up_to (parts_of p n))

-- of a windowed count
abbrev pub window_rows_of : Plan → RunState TaskId Place Store Item → ℕ → List (WindowKey × Row)
window_rows_of p st n = flat_map (λ i. map (λ e. (e.0, agg_row true e.1)) (map.entries ((store_at p st n i).counts n))) (up_to (parts_of p n))
