-- Source tables and derived tables, in every state of every uncrashed run of every well-formed topology.
-- Kafka Streams developer guide, "KTable": a table holds the last value of each key; what is derived of it follows it.
use Rattle.std.specs.Prelude.{◌≡◌, ℕ, List, Option, Some, None, cond, option_and_then}
use Rattle.ks_record.specs.declared.record.TaskId.{TaskId}
use Rattle.ks_expr.specs.declared.terms.JoinKind.{JoinKind}
use Rattle.ks_expr.specs.Terms.{Set, Test}
use Rattle.ks_expr.specs.Eval.{holds, project, joined}
use Rattle.ks_plan.specs.declared.node.Topic.TheVariants.{Input as InputTopic}
use Rattle.ks_plan.specs.Drafts.{DraftView}
use Rattle.ks_plan.specs.Plan.{plan_of}
use Rattle.ks_plan.specs.Plan.Kind.{TableSource, TableFilter, TableMap, KeyJoin}
use Rattle.ks_def_runs.specs.FinMap as map
use Rattle.ks_def_runs.specs.Bytes.{by_bytes}
use Rattle.ks_def_runs.specs.Table.{latest}
use Rattle.ks_query.specs.Streams.{Key, Input}
use Rattle.ks_def_tasks.specs.Messages.{Place, Rules}
use Rattle.ks_def_tasks.specs.Collision.{IsNode}
use Rattle.ks_def_tasks.specs.Rest.{store_at}
use Rattle.ks_def_tasks.specs.Step.{of_row}
use Rattle.ks_law_topology.specs.WellFormed.{IsWellFormed}
use Rattle.ks_law_quiescence.specs.States.{state_of, row_at}
use Rattle.ks_law_topology.specs.Taken.{taken_at, changes_in}

-- a source table's store is the latest of what was taken
abbrev pub SourcesAreLatest : Type 0
SourcesAreLatest = (rules : Rules) (d : DraftView) (records : List Input) (schedule : List (Option TaskId × Place)) → IsWellFormed d →
    let p = plan_of d in
    let st = state_of rules p records schedule in
    (n t : ℕ) → IsNode p n (TableSource t) → (part : ℕ) (k : Key) →
    map.get ((store_at p st n part).tables n) k ≡ of_row (map.get (latest by_bytes (changes_in (taken_at (record { topic = InputTopic t; part = part }) st.taken))) k)

-- the stores of filters, maps and joins on keys are theirs of the present stores of their inputs, at each key of each task
abbrev pub FiltersFollow : Type 0
FiltersFollow = (rules : Rules) (d : DraftView) (records : List Input) (schedule : List (Option TaskId × Place)) → IsWellFormed d →
    let p = plan_of d in
    let st = state_of rules p records schedule in
    (n f : ℕ) (test : Test) → IsNode p n (TableFilter f test) → (u : TaskId) (k : Key) →
    row_at st u n k ≡ option_and_then (λ v. cond (holds test v) (Some v) None) (row_at st u f k)

abbrev pub MapsFollow : Type 0
MapsFollow = (rules : Rules) (d : DraftView) (records : List Input) (schedule : List (Option TaskId × Place)) → IsWellFormed d →
    let p = plan_of d in
    let st = state_of rules p records schedule in
    (n f : ℕ) (set : Set) → IsNode p n (TableMap f set) → (u : TaskId) (k : Key) →
    row_at st u n k ≡ option_and_then (λ v. project set (Some v) None) (row_at st u f k)

abbrev pub JoinsFollow : Type 0
JoinsFollow = (rules : Rules) (d : DraftView) (records : List Input) (schedule : List (Option TaskId × Place)) → IsWellFormed d →
    let p = plan_of d in
    let st = state_of rules p records schedule in
    (n l r : ℕ) (kind : JoinKind) (set : Set) → IsNode p n (KeyJoin l r kind set) → (u : TaskId) (k : Key) →
    row_at st u n k ≡ joined kind set (row_at st u l k) (row_at st u r k)
