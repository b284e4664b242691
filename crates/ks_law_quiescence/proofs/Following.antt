-- Derived tables follow the present tables of their inputs, at one key.
use Rattle.std.specs.Prelude.{◌≡◌, ℕ, suc, ◌<◌, List, [], ◌∷◌, Some, None, cond}
use Rattle.ks_expr.specs.Eval.{holds, project, joined}
use Rattle.ks_query.specs.Streams.{Key}
use Rattle.ks_plan.specs.Plan.{Kind}
use Rattle.ks_plan.specs.Plan.Kind.{TableFilter, TableMap, KeyJoin}
use Rattle.ks_def_runs.specs.FinMap as map
use Rattle.ks_def_tasks.specs.Messages.{Store}
use Rattle.ks_def_tasks.specs.Step.{Values, row_in, kept_row, of_row}

abbrev pub FollowsIn : Values → ℕ → Kind → Type 0
FollowsIn values n (TableFilter f p) = values n ≡ kept_row (λ v. cond (holds p v) (Some v) None) (row_in values f)
FollowsIn values n (TableMap f s) = values n ≡ kept_row (λ v. project s (Some v) None) (row_in values f)
FollowsIn values n (KeyJoin l r kind s) = values n ≡ of_row (joined kind s (row_in values l) (row_in values r))
FollowsIn values n _ = Unit {0}

abbrev pub EachFollows : Values → ℕ → List Kind → Type 0
EachFollows values n [] = Unit {0}
EachFollows values n (k ∷ ks) = FollowsIn values n k × EachFollows values (suc n) ks

-- the stored values at a key
abbrev pub values_of : Store → Key → Values
values_of st q n = map.get (st.tables n) q

-- the inputs of derived tables stand before them
abbrev pub InOrder : ℕ → List Kind → Type 0
InOrder n [] = Unit {0}
InOrder n (TableFilter f p ∷ ks) = (f < n) × InOrder (suc n) ks
InOrder n (TableMap f s ∷ ks) = (f < n) × InOrder (suc n) ks
InOrder n (KeyJoin l r kind s ∷ ks) = record { left : l < n; right : r < n; rest : InOrder (suc n) ks }
InOrder n (k ∷ ks) = InOrder (suc n) ks
