-- Once nothing waits: each kind of table is the query's where its inputs are.
use Rattle.std.proofs.Common.{◌≡◌, ℕ, ◌+◌, Bool, true, false, cond, ◌&&◌, List, [], ◌∷◌, map, Option, Some, None, refl, sym, ap, ap₂, ◌∙◌, arith}
use Rattle.std.specs.Prelude.{option_map, option_and_then}
use Rattle.std.specs.Ordering.{eq_by_cmp, is_lt}
use Rattle.std.specs.Cmp.Lexicographic.{nat_list_cmp_total}
use Rattle.std.specs.FinMap.{slice_cmp-IsAntisymmetric, nat_cmp-IsAntisymmetric}
use Rattle.std.specs.FinMap.Entries.{find, below_all, is_sorted, where_key}
use Rattle.ks_record.specs.declared.record.TaskId.{TaskId}
use Rattle.ks_record.specs.Parts.{same_task}
use Rattle.ks_expr.specs.declared.terms.JoinKind.{JoinKind}
use Rattle.ks_expr.specs.Terms.{Set, Test}
use Rattle.ks_expr.specs.Eval.{Row, holds, project, joined}
use Rattle.ks_plan.specs.declared.node.Spread.{Spread}
use Rattle.ks_plan.specs.Plan.{Plan}
use Rattle.ks_plan.specs.Plan.Kind.{TableSource, TableFilter, TableMap, KeyJoin}
use Rattle.ks_def_runs.specs.FinMap as fin
use Rattle.ks_def_runs.specs.Bytes.{by_bytes}
use Rattle.ks_query.specs.Streams.{Key, Input}
use Rattle.ks_query.specs.Query.{query}
use Rattle.ks_def_runs.specs.Run.{Follows}
use Rattle.ks_def_runs.proofs.Runs.{Follows-run}
use Rattle.ks_def_runs.proofs.Sums.{sum_map, sum_map-add, sum_map-zero}
use Rattle.ks_def_tasks.specs.Messages.{Place, Stored, shown, Rules}
use Rattle.ks_def_tasks.specs.Tasks.{machine, inputs_of}
use Rattle.ks_def_tasks.specs.Rest.{IsDrained}
use Rattle.ks_def_tasks.proofs.Names.{names, same_task-is}
use Rattle.ks_law_quiescence.specs.AtRest.{IsQuery}
use Rattle.ks_law_quiescence.specs.States.{State, state_of, row_at, home_task}
use Rattle.ks_law_quiescence.proofs.Derived.{filter_follows, map_follows, join_follows, shown_row}
use Rattle.ks_law_topology.proofs.Fits.{Fits, Beside, Sourced}
use Rattle.ks_law_quiescence.proofs.Inputs.{source_rests}
use Rattle.ks_law_topology.proofs.Mixed.{Stands_at}
use Rattle.ks_law_topology.proofs.Placed.{placed_run}
use Rattle.ks_query.proofs.Pointwise.{get-map_values, get-key_join}
use Rattle.ks_law_quiescence.proofs.Queries.{query_at, given_here}

module _ (rules : Rules) (p : Plan) (fits : Fits p) (records : List Input) (schedule : List (Option TaskId × Place)) where
  abbrev st : State
  st = state_of rules p records schedule

  abbrev pub follows : Follows (machine rules p) (inputs_of rules p records) st
  follows = Follows-run (machine rules p) (names rules p) (inputs_of rules p records) schedule

  -- what the task that keeps each key shows is what all tasks do
  pub everywhere : (n : ℕ) → ((k : Key) → row_at st (home_task rules p n k) n k ≡ fin.get ((query p records).tables n) k) → IsQuery rules p records st n
  everywhere n here u k =
      elim (same_task u (home_task rules p n k)) as (λ b. same_task u (home_task rules p n k) ≡ b → row_at st u n k ≡ cond b (fin.get ((query p records).tables n) k) None) [
        | true ↦ λ b. ap (λ v. row_at st v n k) ((same_task-is u (home_task rules p n k)).0 b) ∙ here k
        | false ↦ λ b. absent b (fin.get ((st.stores u).tables n) k) refl
      ] refl
    where
      absent : same_task u (home_task rules p n k) ≡ false → (w : Option Stored) → fin.get ((st.stores u).tables n) k ≡ w → option_map shown w ≡ None
      absent b None e = refl
      absent b (Some x) e =
          let is : u ≡ home_task rules p n k = (placed_run rules p fits records schedule).tables u n k x e in
          let yes : same_task u (home_task rules p n k) ≡ true = (same_task-is u (home_task rules p n k)).1 is in
          cc

  pub at_home : (n : ℕ) → IsQuery rules p records st n → (k : Key) → row_at st (home_task rules p n k) n k ≡ fin.get ((query p records).tables n) k
  at_home n h k = h (home_task rules p n k) k ∙ ap (λ b. cond b (fin.get ((query p records).tables n) k) None) ((same_task-is (home_task rules p n k) (home_task rules p n k)).1 refl)

  beside_home : (f n : ℕ) → Beside p f n → (k : Key) → home_task rules p f k ≡ home_task rules p n k
  beside_home f n b k = ap₂ (λ (s : ℕ) (i : Spread). record { sub = s; part = rules.part k i }) b.sub b.spread

  -- a row of an input, at the task that keeps the node's key
  beside_row : (f n : ℕ) → Beside p f n → IsQuery rules p records st f → (k : Key) → row_at st (home_task rules p n k) f k ≡ fin.get ((query p records).tables f) k
  beside_row f n b h k = ap (λ u. row_at st u f k) (sym (beside_home f n b k)) ∙ at_home f h k

  pub source_is_query : (n t : ℕ) → Stands_at n (TableSource t) 0 p.kinds → Sourced p t n → IsDrained st → IsQuery rules p records st n
  source_is_query n t s sourced drained = everywhere n (λ k. ap (option_map shown) (source_rests rules p n t s sourced records schedule drained k) ∙ shown_row _)

  pub filter_is_query : (n f : ℕ) (test : Test) → Stands_at n (TableFilter f test) 0 p.kinds → Beside p f n → IsQuery rules p records st f → IsQuery rules p records st n
  filter_is_query n f test s b h = everywhere n (λ k.
      let answer = query_at records p n (TableFilter f test) s in
      let keep : Row → Option Row = λ v. cond (holds test v) (Some v) None in
      filter_follows rules p fits (inputs_of rules p records) schedule (home_task rules p n k) k n f test s
      ∙ ap (option_and_then keep) (beside_row f n b h k)
      ∙ sym (ap (λ t. fin.get t k) (answer.table ∙ given_here records answer.then.tables n _)
      ∙ get-map_values nat_list_cmp_total (slice_cmp-IsAntisymmetric nat_cmp-IsAntisymmetric) keep (answer.then.tables f) k
      ∙ ap (λ t. option_and_then keep (fin.get t k)) (answer.before.tables f b.before)))

  pub map_is_query : (n f : ℕ) (set : Set) → Stands_at n (TableMap f set) 0 p.kinds → Beside p f n → IsQuery rules p records st f → IsQuery rules p records st n
  map_is_query n f set s b h = everywhere n (λ k.
      let answer = query_at records p n (TableMap f set) s in
      let turn : Row → Option Row = λ v. project set (Some v) None in
      map_follows rules p fits (inputs_of rules p records) schedule (home_task rules p n k) k n f set s
      ∙ ap (option_and_then turn) (beside_row f n b h k)
      ∙ sym (ap (λ t. fin.get t k) (answer.table ∙ given_here records answer.then.tables n _)
      ∙ get-map_values nat_list_cmp_total (slice_cmp-IsAntisymmetric nat_cmp-IsAntisymmetric) turn (answer.then.tables f) k
      ∙ ap (λ t. option_and_then turn (fin.get t k)) (answer.before.tables f b.before)))

  pub join_is_query : (n l r : ℕ) (kind : JoinKind) (set : Set) → Stands_at n (KeyJoin l r kind set) 0 p.kinds → Beside p l n → Beside p r n →
      IsQuery rules p records st l → IsQuery rules p records st r → IsQuery rules p records st n
  join_is_query n l r kind set s b c h g = everywhere n (λ k.
      let answer = query_at records p n (KeyJoin l r kind set) s in
      join_follows rules p fits (inputs_of rules p records) schedule (home_task rules p n k) k n l r kind set s
      ∙ ap₂ (joined kind set) (beside_row l n b h k) (beside_row r n c g k)
      ∙ sym (ap (λ t. fin.get t k) (answer.table ∙ given_here records answer.then.tables n _)
      ∙ get-key_join kind set (answer.then.tables l) (answer.then.tables r) k
      ∙ ap₂ (λ t u. joined kind set (fin.get t k) (fin.get u k)) (answer.before.tables l b.before) (answer.before.tables r c.before)))

-- ---- lists of entries
shown_below : (x : Key) (es : List (Key × Stored)) → below_all by_bytes x (map (λ e. (e.0, shown e.1)) es) ≡ below_all by_bytes x es
shown_below x [] = refl
shown_below x (e ∷ es) = ap (λ b. is_lt (by_bytes x e.0) && b) (shown_below x es)

pub shown_sorted : (es : List (Key × Stored)) → is_sorted by_bytes (map (λ e. (e.0, shown e.1)) es) ≡ is_sorted by_bytes es
shown_sorted [] = refl
shown_sorted (e ∷ es) = ap₂ (λ a b. a && b) (shown_below e.0 es) (shown_sorted es)

pub shown_found : (q : Key) (es : List (Key × Stored)) → find by_bytes q (map (λ e. (e.0, shown e.1)) es) ≡ option_map shown (find by_bytes q es)
shown_found q [] = refl
shown_found q (e ∷ es) = elim (eq_by_cmp by_bytes q e.0) as (λ b. cond b (Some (shown e.1)) (find by_bytes q (map (λ e. (e.0, shown e.1)) es)) ≡ option_map shown (cond b (Some e.1) (find by_bytes q es))) [
  | true ↦ refl
  | false ↦ shown_found q es
]

pub where_sum : (f : Key × Row → ℕ) (test : Key → Bool) (es : List (Key × Row)) → sum_map f (where_key by_bytes test es) ≡ sum_map (λ e. cond (test e.0) (f e) 0) es
where_sum f test [] = refl
where_sum f test (e ∷ es) = elim (test e.0) as (λ b. sum_map f (cond b (e ∷ where_key by_bytes test es) (where_key by_bytes test es)) ≡ cond b (f e) 0 + sum_map (λ e. cond (test e.0) (f e) 0) es) [
  | true ↦ ap (λ n. f e + n) (where_sum f test es)
  | false ↦ where_sum f test es ∙ zero_sum _
]
  where
    zero_sum : (n : ℕ) → n ≡ 0 + n
    zero_sum n = omega arith

pub swap_sums : {A B : Type 0} (h : A → B → ℕ) (xs : List A) (ys : List B) → sum_map (λ x. sum_map (h x) ys) xs ≡ sum_map (λ y. sum_map (λ x. h x y) xs) ys
swap_sums h xs [] = sum_map-zero xs
swap_sums h xs (y ∷ ys) = sum_map-add (λ x. h x y) (λ x. sum_map (h x) ys) xs ∙ ap (λ n. sum_map (λ x. h x y) xs + n) (swap_sums h xs ys)
