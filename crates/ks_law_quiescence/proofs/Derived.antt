-- Filters, maps and joins on keys, node by node.
use Rattle.std.proofs.Common.{◌≡◌, ℕ, suc, ◌<◌, cond, List, [], ◌∷◌, Option, Some, None, refl, ap, subst, ◌∙◌, ⊎_elim}
use Rattle.std.specs.Prelude.{option_map, option_and_then}
use Rattle.ks_expr.specs.declared.terms.JoinKind.{JoinKind}
use Rattle.ks_expr.specs.Terms.{Set, Test}
use Rattle.ks_expr.specs.Eval.{Row, holds, project, joined}
use Rattle.ks_record.specs.declared.record.TaskId.{TaskId}
use Rattle.ks_plan.specs.Plan.{Plan, Kind}
use Rattle.ks_plan.specs.Plan.Kind.{TableFilter, TableMap, KeyJoin}
use Rattle.ks_query.specs.Streams.{Key}
use Rattle.ks_def_runs.specs.Run.{run}
use Rattle.ks_def_tasks.specs.Messages.{Place, shown, Item, Rules}
use Rattle.ks_def_tasks.specs.Step.{Values, row_in, of_row}
use Rattle.ks_def_tasks.specs.Tasks.{machine}
use Rattle.ks_law_topology.proofs.Fits.{Fits, EachFits}
use Rattle.ks_law_quiescence.proofs.Following.{FollowsIn, EachFollows, values_of, InOrder}
use Rattle.ks_law_quiescence.proofs.Follow.{derived_follow}
use Rattle.ks_law_topology.proofs.Mixed.{Stands_at}

in_order : (p : Plan) (n : ℕ) (ks : List Kind) → EachFits p n ks → InOrder n ks
in_order p n [] h = tt
in_order p n (TableFilter f x ∷ ks) h = (h.0.before, in_order p (suc n) ks h.1)
in_order p n (TableMap f s ∷ ks) h = (h.0.before, in_order p (suc n) ks h.1)
in_order p n (KeyJoin l r kind s ∷ ks) h = record { left = h.0.0.before; right = h.0.1.before; rest = in_order p (suc n) ks h.1 }
in_order p n (k ∷ ks) h = in_order p (suc n) ks h.1

follows_at : (values : Values) (n : ℕ) (ks : List Kind) (a : ℕ) (k : Kind) → EachFollows values n ks → Stands_at a k n ks → FollowsIn values a k
follows_at values n [] a k h s = absurd s
follows_at values n (y ∷ ys) a k h s = ⊎_elim
    (λ (e : (n ≡ a) × (y ≡ k)). subst (λ m. FollowsIn values m k) e.0 (subst (FollowsIn values n) e.1 h.0))
    (λ (e : (n < a) × Stands_at a k (suc n) ys). follows_at values (suc n) ys a k h.1 e.1) s

pub shown_row : (w : Option Row) → option_map shown (of_row w) ≡ w
shown_row None = refl
shown_row (Some r) = refl

module _ (rules : Rules) (p : Plan) (fits : Fits p) (inputs : Place → List Item) (schedule : List (Option TaskId × Place)) (u : TaskId) (q : Key) where
  abbrev values : Values
  values = values_of ((run (machine rules p) inputs schedule).stores u) q

  at_node : (n : ℕ) (k : Kind) → Stands_at n k 0 p.kinds → FollowsIn values n k
  at_node n k s = follows_at values 0 p.kinds n k (derived_follow rules p (in_order p 0 p.kinds fits) inputs schedule u q) s

  pub filter_follows : (n f : ℕ) (test : Test) → Stands_at n (TableFilter f test) 0 p.kinds → row_in values n ≡ option_and_then (λ v. cond (holds test v) (Some v) None) (row_in values f)
  filter_follows n f test s = ap (option_map shown) (at_node n (TableFilter f test) s) ∙ shown_row _

  pub map_follows : (n f : ℕ) (set : Set) → Stands_at n (TableMap f set) 0 p.kinds → row_in values n ≡ option_and_then (λ v. project set (Some v) None) (row_in values f)
  map_follows n f set s = ap (option_map shown) (at_node n (TableMap f set) s) ∙ shown_row _

  pub join_follows : (n l r : ℕ) (kind : JoinKind) (set : Set) → Stands_at n (KeyJoin l r kind set) 0 p.kinds → row_in values n ≡ joined kind set (row_in values l) (row_in values r)
  join_follows n l r kind set s = ap (option_map shown) (at_node n (KeyJoin l r kind set) s) ∙ shown_row _
