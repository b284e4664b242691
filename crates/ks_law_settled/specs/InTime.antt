-- Records within the grace of all windowed counts are never late, in whatever order tasks take them.
-- Kafka Streams developer guide, "Windowing": a record is dropped from a window whose grace period is over in stream time, which is
-- the greatest time that the task has seen.
use Rattle.std.specs.Prelude.{◌≡◌, ℕ, ◌≤◌, List, Option, Some, None, Bool}
use Rattle.ks_record.specs.declared.record.TaskId.{TaskId}
use Rattle.ks_plan.specs.Drafts.{DraftView, Name}
use Rattle.ks_plan.specs.Plan.{Window, plan_of}
use Rattle.ks_plan.specs.Plan.Kind.{Windowed}
use Rattle.ks_query.specs.Streams.{Input, grouped}
use Rattle.ks_query.specs.Query.{query}
use Rattle.ks_query.specs.Grace.{greatest_time, IsWithinGrace}
use Rattle.ks_def_tasks.specs.Messages.{Place, Rules}
use Rattle.ks_def_tasks.specs.Collision.{IsNode}
use Rattle.ks_law_topology.specs.WellFormed.{IsWellFormed}
use Rattle.ks_law_quiescence.specs.States.{state_of}

-- of a time that may be absent
abbrev pub AtMost : ℕ → Option ℕ → Type 0
AtMost most None = Unit {0}
AtMost most (Some t) = t ≤ most

-- in each state of each run, the greatest time that a task's windowed count has seen is at most that of all its grouped items
abbrev pub TimesAreOfItems : Type 0
TimesAreOfItems = (rules : Rules) (d : DraftView) (records : List Input) (schedule : List (Option TaskId × Place)) → IsWellFormed d →
    let p = plan_of d in
    let st = state_of rules p records schedule in
    (n f : ℕ) (by : Option Name) (w : Window) (through : Bool) → IsNode p n (Windowed f by w through) → (u : TaskId) →
    AtMost (greatest_time (grouped by ((query p records).items f))) ((st.stores u).times n)

-- in each state of each run, nothing was late where the job's records are within grace
abbrev pub NothingIsLate : Type 0
NothingIsLate = (rules : Rules) (d : DraftView) (records : List Input) (schedule : List (Option TaskId × Place)) → IsWellFormed d →
    let p = plan_of d in
    IsWithinGrace p records → (state_of rules p records schedule).late ≡ 0
