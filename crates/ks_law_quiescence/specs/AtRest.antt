-- At rest: once nothing waits, each table over all its tasks is the query's.
use Rattle.std.specs.Prelude.{◌≡◌, ℕ, ◌<◌, ◌^◌, List, [], ◌∷◌, ◌++◌, length, get_or, fold, Bool, true, false, ◌&&◌, Option, None, cond}
use Rattle.ks_record.specs.declared.record.TaskId.{TaskId}
use Rattle.ks_record.specs.Parts.{same_task}
use Rattle.ks_plan.specs.Drafts.{DraftView}
use Rattle.ks_plan.specs.Plan.{Plan, Kind, plan_of}
use Rattle.ks_plan.specs.Plan.Kind.{TableSource, TableFilter, TableMap, KeyJoin, TableAggregate, StreamAggregate}
use Rattle.ks_def_runs.specs.FinMap as map
use Rattle.ks_query.specs.Streams.{Key, Input}
use Rattle.ks_query.specs.Query.{query}
use Rattle.ks_def_tasks.specs.Messages.{Place, Rules}
use Rattle.ks_def_tasks.specs.Rest.{IsDrained}
use Rattle.ks_law_topology.specs.WellFormed.{IsWellFormed}
use Rattle.ks_law_quiescence.specs.States.{State, state_of, row_at, home_task}

-- each task has exactly the query's rows of the keys that it keeps
abbrev pub IsQuery : Rules → Plan → List Input → State → ℕ → Type 0
IsQuery rules p records st n = (u : TaskId) (k : Key) → row_at st u n k ≡ cond (same_task u (home_task rules p n k)) (map.get ((query p records).tables n) k) None

-- ---- tables that are made of source tables, and of counts and sums of streams, by filters, maps, joins on keys, counts and sums
-- of tables alone: all tables but those below a join on a foreign key
abbrev pub made_plainly : List Bool → Kind → Bool
made_plainly bs (TableSource t) = true
made_plainly bs (TableFilter f test) = get_or bs f false
made_plainly bs (TableMap f set) = get_or bs f false
made_plainly bs (KeyJoin l r kind set) = get_or bs l false && get_or bs r false
made_plainly bs (TableAggregate f by field) = get_or bs f false
made_plainly bs (StreamAggregate f by field through) = true
made_plainly bs k = false

abbrev pub plain_nodes : List Kind → List Bool
plain_nodes ks = fold (λ bs k. bs ++ made_plainly bs k ∷ []) [] ks

abbrev pub IsPlain : Plan → ℕ → Type 0
IsPlain p n = get_or (plain_nodes p.kinds) n false ≡ true

-- they are the query's over all their tasks, once nothing waits
abbrev pub PlainTablesRest : Type 0
PlainTablesRest = (rules : Rules) (d : DraftView) (records : List Input) (schedule : List (Option TaskId × Place)) → IsWellFormed d →
    let p = plan_of d in
    let st = state_of rules p records schedule in
    IsDrained st → length st.taken < 2 ^ 48 → (n : ℕ) → IsPlain p n → IsQuery rules p records st n
