-- Windowed counts at rest, in whole numbers.
-- Kafka Streams developer guide, "Windowing": a record is dropped from a window whose grace period is over in stream time.
use Rattle.std.specs.Prelude.{◌≡◌, ℕ, zero, suc, ◌+◌, ◌≤◌, ◌<◌, ◌^◌, pos, Bool, true, List, length, Option, Some, None, cond, option_map}
use Rattle.ks_record.specs.declared.record.TaskId.{TaskId}
use Rattle.ks_record.specs.Parts.{same_task}
use Rattle.ks_row.specs.Rows.{field_of}
use Rattle.ks_wire.specs.declared.values.Agg.{Agg}
use Rattle.ks_plan.specs.Drafts.{DraftView, Name}
use Rattle.ks_plan.specs.Plan.{Window, natural, plan_of}
use Rattle.ks_plan.specs.Plan.Kind.{Windowed}
use Rattle.ks_def_runs.specs.FinMap as map
use Rattle.ks_expr.specs.Eval.{Row}
use Rattle.ks_query.specs.Streams.{Input}
use Rattle.ks_query.specs.Windows.{WindowKey}
use Rattle.ks_query.specs.Aggregates.{agg_row, count_name, int_of}
use Rattle.ks_query.specs.Query.{query}
use Rattle.ks_def_tasks.specs.Messages.{Place, Rules}
use Rattle.ks_def_tasks.specs.Collision.{IsNode}
use Rattle.ks_def_tasks.specs.Rest.{IsDrained}
use Rattle.ks_law_topology.specs.WellFormed.{IsWellFormed}
use Rattle.ks_law_quiescence.specs.States.{state_of, home_task}
use Rattle.ks_law_quiescence.specs.Windows.{late_pairs}

-- the count that a stored aggregate tells, and the one that a row of the query shows: 0 without one
abbrev pub members_of : Option Agg → ℕ
members_of None = 0
members_of (Some a) = natural a.members

abbrev pub members_in : Option Row → ℕ
members_in None = 0
members_in (Some row) = natural (int_of (field_of count_name row))

-- a window's aggregate of this count, as it is: none at 0
abbrev pub exactly : ℕ → Option Agg
exactly zero = None
exactly (suc n) = Some (record { members = pos (suc n); total = pos 0 })

-- once nothing waits, after fewer than 2 ^ 48 steps: the stored count of each window with the window's late pairs is the query's, so
-- it is at most the query's; neither wraps
abbrev pub WindowsCountLess : Type 0
WindowsCountLess = (rules : Rules) (d : DraftView) (records : List Input) (schedule : List (Option TaskId × Place)) → IsWellFormed d →
    let p = plan_of d in
    let st = state_of rules p records schedule in
    IsDrained st → length st.taken < 2 ^ 48 →
    (n f : ℕ) (by : Option Name) (w : Window) (through : Bool) → IsNode p n (Windowed f by w through) → (k : WindowKey) →
    let home = home_task rules p n k.0 in
    let asked = map.get ((query p records).windows n) k in
    record {
      count : ℕ;
      stored : (u : TaskId) → map.get ((st.stores u).counts n) k ≡ cond (same_task u home) (exactly count) None;
      shown : asked ≡ option_map (agg_row true) (exactly (count + late_pairs rules p n k st.taken));
      few : count + late_pairs rules p n k st.taken ≤ length st.taken;
      sums : members_of (map.get ((st.stores home).counts n) k) + late_pairs rules p n k st.taken ≡ members_in asked;
      at_most : members_of (map.get ((st.stores home).counts n) k) ≤ members_in asked;
    }
