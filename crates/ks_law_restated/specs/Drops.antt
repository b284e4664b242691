-- From which windows the steps of a run drop items, and that the late counts are how many of these
-- drops there are. A drop is told by the window.
-- Kafka Streams developer guide, "Windowing": a record is dropped from a window whose grace period
-- is over in stream time: here the greatest time that the windowed count has seen in its task.
use Rattle.std.specs.Prelude.{◌≡◌, ℕ, List, [], ◌∷◌, ◌++◌, length, map, Option, Some, None}
use Rattle.std.specs.Prelude.{not, cond}
use Rattle.std.specs.List.{filter, count_by, sum_by}
use Rattle.std.specs.Ordering.{eq_by_cmp}
use Rattle.ks_record.specs.declared.record.TaskId.{TaskId}
use Rattle.ks_record.specs.Parts.{same_task}
use Rattle.ks_plan.specs.Plan.{Plan, Kind, Window}
use Rattle.ks_plan.specs.Plan.Kind.{Windowed}
use Rattle.ks_plan.specs.Layout.{kind_at, up_to}
use Rattle.ks_query.specs.Streams.{Key, Input, StreamItem}
use Rattle.ks_query.specs.Windows.{WindowKey, by_window, windows}
use Rattle.ks_query.specs.Grace.{is_open}
use Rattle.ks_def_runs.specs.Run.{Taken, late_all}
use Rattle.ks_def_tasks.specs.Messages.{Place, Item, Store, Rules}
use Rattle.ks_def_tasks.specs.Windowed.{greater}
use Rattle.ks_def_tasks.specs.Step.{Arrival, item_into, items_from}
use Rattle.ks_def_tasks.specs.Tasks.{arrival, machine, step}
use Rattle.ks_law_quiescence.specs.States.{state_of}
use Rattle.ks_law_quiescence.specs.Windows.{late_pairs}

-- ---- one item
-- of a group's windows with these starts, those whose grace period is over at this time
abbrev pub closed_windows : Window → ℕ → Key → List ℕ → List WindowKey
closed_windows w now g starts =
    map (λ s. (g, s)) (filter (λ s. not (is_open w now s)) starts)

-- an item of a group is dropped from those of its windows that are closed at the greatest time
-- seen, its own time among them
abbrev pub drops_of_group : Window → Option ℕ → ℕ → Option Key → List WindowKey
drops_of_group w seen time None = []
drops_of_group w seen time (Some g) =
    closed_windows w (greater seen time) g (windows w time)

abbrev pub drops_of_item : Window → Option ℕ → Option StreamItem → List WindowKey
drops_of_item w seen None = []
drops_of_item w seen (Some x) = drops_of_group w seen x.time x.key

-- ---- one step
-- the windows from which node n drops the item that comes into it: a windowed count alone drops
abbrev pub drops_at : ℕ → Store → Arrival → (ℕ → Option StreamItem) → Kind → List WindowKey
drops_at n st a items (Windowed f by w through) =
    drops_of_item w (st.times n) (item_into a items n f through)
drops_at n st a items _ = []

-- those that a task with this store drops at node n, when it takes this record
abbrev pub drops_of_step : Plan → ℕ → Store → Place → Item → List WindowKey
drops_of_step p n st q x =
    let a : Arrival = arrival p q x in
    drops_at n st a (items_from a (λ m. None) 0 p.kinds) (kind_at p n)

-- ---- a run
abbrev pub TakenRecords : Type 0
TakenRecords = List (Taken TaskId Place Item)

-- the drops at node n when these records are taken one after another, each by the
-- task that reads it, with the store that the task's own steps before left it
abbrev pub drops_from : Rules → Plan → ℕ → (TaskId → Store) → TakenRecords → List WindowKey
drops_from rules p n stores [] = []
drops_from rules p n stores (t ∷ ts) =
    let u = (machine rules p).reader t.place in
    let left = (step rules p u (stores u) t.place t.item).store in
    drops_of_step p n (stores u) t.place t.item
    ++ drops_from rules p n (λ v. cond (same_task v u) left (stores v)) ts

-- from empty stores
abbrev pub drops : Rules → Plan → ℕ → TakenRecords → List WindowKey
drops rules p n ts = drops_from rules p n (machine rules p).start ts

-- how often a window stands in a list
abbrev pub times_in : WindowKey → List WindowKey → ℕ
times_in k ks = count_by (eq_by_cmp by_window k) ks

-- how many drops there are, over all nodes of the plan
abbrev pub all_drops : Rules → Plan → TakenRecords → ℕ
all_drops rules p ts = sum_by (λ n. length (drops rules p n ts)) (up_to (length p.kinds))

-- ---- the laws
-- a window's late pairs are how often the steps dropped an item from it
abbrev pub LatePairsAreDrops : Type 0
LatePairsAreDrops = (rules : Rules) (p : Plan) (n : ℕ) (k : WindowKey) (ts : TakenRecords) →
    late_pairs rules p n k ts ≡ times_in k (drops rules p n ts)

-- a run's late total is how many drops there were
abbrev pub LateIsAllDrops : Type 0
LateIsAllDrops = (rules : Rules) (p : Plan) (ts : TakenRecords) →
    late_all (machine rules p) (machine rules p).start ts ≡ all_drops rules p ts

-- and so is the late count in every state of every run
abbrev pub LateCountIsAllDrops : Type 0
LateCountIsAllDrops = (rules : Rules) (p : Plan) (records : List Input) →
    (schedule : List (Option TaskId × Place)) →
    let st = state_of rules p records schedule in
    st.late ≡ all_drops rules p st.taken
