-- Windowed counts: in every state, and at rest.
-- Kafka Streams developer guide, "Windowing": a record is dropped from a window whose grace period is over in stream time.
use Rattle.std.specs.Prelude.{◌≡◌, ℕ, zero, suc, ◌+◌, ◌≤◌, length, ◌%◌, ◌^◌, pos, List, [], ◌∷◌, Option, Some, None, Bool, true, cond, option_map}
use Rattle.std.specs.Int.{w64, cast_signed}
use Rattle.std.specs.Ordering.{eq_by_cmp}
use Rattle.ks_wire.specs.declared.values.Agg.{Agg}
use Rattle.ks_plan.specs.Layout.{kind_at}
use Rattle.ks_def_runs.specs.Run.{Machine, Taken, late_all}
use Rattle.ks_query.specs.Grace.{is_open}
use Rattle.ks_def_tasks.specs.Messages.Message.{Keyed}
use Rattle.ks_def_tasks.specs.Step.{Arrival, item_into, items_from}
use Rattle.ks_def_tasks.specs.Tasks.{arrival, machine, step}
use Rattle.ks_def_tasks.specs.Windowed.{greater}
use Rattle.ks_law_quiescence.specs.Groups.{place_of}
use Rattle.ks_law_quiescence.specs.Streams.{passed_on, all_waiting}
use Rattle.ks_record.specs.declared.record.TaskId.{TaskId}
use Rattle.ks_record.specs.Parts.{same_task}
use Rattle.ks_plan.specs.Drafts.{DraftView, Name}
use Rattle.ks_plan.specs.Plan.{Plan, Kind, Window, plan_of, is_windowed}
use Rattle.ks_plan.specs.Plan.Kind.{Windowed}
use Rattle.ks_def_runs.specs.FinMap as map
use Rattle.ks_query.specs.Streams.{Key, Input, StreamItem, group_key}
use Rattle.ks_query.specs.Windows.{WindowKey, by_window, windows}
use Rattle.ks_query.specs.Aggregates.{agg_row}
use Rattle.ks_query.specs.Query.{query}
use Rattle.ks_def_tasks.specs.Messages.{Place, Message, Item, Store, Rules}
use Rattle.ks_def_tasks.specs.Collision.{IsNode}
use Rattle.ks_def_tasks.specs.Rest.{IsDrained}
use Rattle.ks_law_topology.specs.WellFormed.{IsWellFormed}
use Rattle.ks_law_quiescence.specs.States.{state_of, home_task}

-- where nothing was late, each task has exactly the query's windows of the groups that it keeps, once nothing waits
abbrev pub WindowsRest : Type 0
WindowsRest = (rules : Rules) (d : DraftView) (records : List Input) (schedule : List (Option TaskId × Place)) → IsWellFormed d →
    let p = plan_of d in
    let st = state_of rules p records schedule in
    IsDrained st → st.late ≡ 0 →
    (n f : ℕ) (by : Option Name) (w : Window) (through : Bool) → IsNode p n (Windowed f by w through) → (u : TaskId) (k : WindowKey) →
    option_map (agg_row true) (map.get ((st.stores u).counts n) k) ≡ cond (same_task u (home_task rules p n k.0)) (map.get ((query p records).windows n) k) None

-- ---- the late pairs of one window: the record came after the window's grace was over in its task
abbrev pub late_starts : WindowKey → Window → ℕ → Key → List ℕ → ℕ
late_starts k w now g [] = 0
late_starts k w now g (s ∷ ss) = cond (eq_by_cmp by_window k (g, s)) (cond (is_open w now s) 0 1) 0 + late_starts k w now g ss

abbrev pub late_of_group : WindowKey → Window → Option ℕ → ℕ → Option Key → ℕ
late_of_group k w old time None = 0
late_of_group k w old time (Some g) = late_starts k w (greater old time) g (windows w time)

abbrev pub late_of_item : WindowKey → Window → Option ℕ → Option StreamItem → ℕ
late_of_item k w old None = 0
late_of_item k w old (Some x) = late_of_group k w old x.time x.key

abbrev pub late_at : WindowKey → ℕ → Store → Arrival → (ℕ → Option StreamItem) → Kind → ℕ
late_at k n st a items (Windowed f by w through) = late_of_item k w (st.times n) (item_into a items n f through)
late_at k n st a items _ = 0

-- the machine that counts as late the pairs of this window alone
abbrev pub counting : Rules → Plan → ℕ → WindowKey → Machine TaskId Place Store Item
counting rules p n k = record (machine rules p) {
  step = λ u st q x.
      let a : Arrival = arrival p q x in
      record (step rules p u st q x) { late = late_at k n st a (items_from a (λ m. None) 0 p.kinds) (kind_at p n) };
}

abbrev pub late_pairs : Rules → Plan → ℕ → WindowKey → List (Taken TaskId Place Item) → ℕ
late_pairs rules p n k ts = late_all (counting rules p n k) (machine rules p).start ts

-- ---- pairs of an item and this window
abbrev pub starts_of : WindowKey → Key → List ℕ → ℕ
starts_of k g [] = 0
starts_of k g (s ∷ ss) = cond (eq_by_cmp by_window k (g, s)) 1 0 + starts_of k g ss

abbrev pub pairs_of_group : WindowKey → Window → Option Key → ℕ → ℕ
pairs_of_group k w None time = 0
pairs_of_group k w (Some g) time = starts_of k g (windows w time)

-- among these items
abbrev pub pairs_in : WindowKey → Window → Option Name → List StreamItem → ℕ
pairs_in k w by [] = 0
pairs_in k w by (x ∷ xs) = pairs_of_group k w (group_key by x) x.time + pairs_in k w by xs

-- among these records of a repartition topic
abbrev pub pairs_of_keyed : WindowKey → Window → ℕ → Message → ℕ
pairs_of_keyed k w time (Keyed g row) = pairs_of_group k w (Some g) time
pairs_of_keyed k w time m = 0

abbrev pub pairs_among : WindowKey → Window → List Item → ℕ
pairs_among k w [] = 0
pairs_among k w (x ∷ xs) = pairs_of_keyed k w x.time x.message + pairs_among k w xs

-- a window's stored count: none at 0
abbrev pub count_of : ℕ → Option Agg
count_of zero = None
count_of (suc n) = Some (record { members = cast_signed w64 (suc n % 2 ^ 64); total = pos 0 })

-- what is stored of a window, what waits and what was late are together the pairs of the items that were passed on
abbrev pub WindowsAreWhole : Type 0
WindowsAreWhole = (rules : Rules) (d : DraftView) (records : List Input) (schedule : List (Option TaskId × Place)) → IsWellFormed d →
    let p = plan_of d in
    let st = state_of rules p records schedule in
    (n f : ℕ) (by : Option Name) (w : Window) (through : Bool) → IsNode p n (Windowed f by w through) → (k : WindowKey) →
    record {
      count : ℕ;
      stored : (u : TaskId) → map.get ((st.stores u).counts n) k ≡ cond (same_task u (home_task rules p n k.0)) (count_of count) None;
      whole : count + pairs_among k w (all_waiting rules p st (place_of rules p n k.0)) + late_pairs rules p n k st.taken ≡ pairs_in k w by (passed_on p f st.taken);
    }

-- once nothing waits, the query's count of each window exceeds the stored one by the window's late pairs; so it is no less
abbrev pub WindowsAreAtMost : Type 0
WindowsAreAtMost = (rules : Rules) (d : DraftView) (records : List Input) (schedule : List (Option TaskId × Place)) → IsWellFormed d →
    let p = plan_of d in
    let st = state_of rules p records schedule in
    IsDrained st →
    (n f : ℕ) (by : Option Name) (w : Window) (through : Bool) → IsNode p n (Windowed f by w through) → (k : WindowKey) →
    record {
      count : ℕ;
      stored : (u : TaskId) → map.get ((st.stores u).counts n) k ≡ cond (same_task u (home_task rules p n k.0)) (count_of count) None;
      asked : map.get ((query p records).windows n) k ≡ option_map (agg_row true) (count_of (count + late_pairs rules p n k st.taken));
    }

-- ---- the late pairs of all windows that the query has: of these of one node, and of the windowed counts among these nodes
abbrev pub late_of_windows : Rules → Plan → ℕ → List (Taken TaskId Place Item) → List WindowKey → ℕ
late_of_windows rules p n ts [] = 0
late_of_windows rules p n ts (k ∷ ks) = late_pairs rules p n k ts + late_of_windows rules p n ts ks

abbrev pub late_of_nodes : Rules → Plan → List Input → List (Taken TaskId Place Item) → ℕ → List Kind → ℕ
late_of_nodes rules p records ts n [] = 0
late_of_nodes rules p records ts n (k ∷ ks) = cond (is_windowed k) (late_of_windows rules p n ts (map.keys ((query p records).windows n))) 0 + late_of_nodes rules p records ts (suc n) ks

-- once nothing waits, they are the late count
abbrev pub LateIsAll : Type 0
LateIsAll = (rules : Rules) (d : DraftView) (records : List Input) (schedule : List (Option TaskId × Place)) → IsWellFormed d →
    let p = plan_of d in
    let st = state_of rules p records schedule in
    IsDrained st → late_of_nodes rules p records st.taken 0 p.kinds ≡ st.late

-- a window has no more pairs than the run has steps, so its count and its late pairs are below 2 ^ 63 where the run has fewer
abbrev pub PairsAreFew : Type 0
PairsAreFew = (rules : Rules) (d : DraftView) (records : List Input) (schedule : List (Option TaskId × Place)) → IsWellFormed d →
    let p = plan_of d in
    let st = state_of rules p records schedule in
    (n f : ℕ) (by : Option Name) (w : Window) (through : Bool) → IsNode p n (Windowed f by w through) → (k : WindowKey) →
    pairs_in k w by (passed_on p f st.taken) ≤ length st.taken
