-- A subtopology that a topology doesn't have has no inputs and no changelogs.
use Rattle.std.proofs.Common.{◌≡◌, ℕ, zero, suc, ◌+◌, ◌<◌, ◌≤◌, Bool, true, false, cond, ◌||◌, List, [], ◌∷◌, ◌++◌, length, map, get_or, Some, None, refl, sym, ap, subst, ◌∙◌, arith, nat_eq, length-append}
use Rattle.std.specs.Prelude.{slice_get, nat_lt}
use Rattle.std.proofs.lemmas.List.{length-map}
use Rattle.std.specs.List.{filter}
use Rattle.std.proofs.lemmas.Bool.{true≢false, eqb-false, ltb-true, ltb-false}
use Rattle.std.proofs.lemmas.Bool.Decides.{Decides-eqb}
use Rattle.std.proofs.lemmas.Option.{slice_get_within, get_or_from_slice_get}
use Rattle.ks_expr.specs.declared.terms.JoinKind.{JoinKind}
use Rattle.ks_expr.specs.Terms.{Set}
use Rattle.ks_expr.specs.declared.terms.Fk.{Fk}
use Rattle.ks_plan.specs.Drafts.{DraftView}
use Rattle.ks_plan.specs.Faults.{fault_of}
use Rattle.ks_plan.specs.Plan.{Plan, Kind, plan_of}
use Rattle.ks_plan.specs.Plan.Kind.{StreamSource, TableSource, StreamFilter, TableFilter, StreamMap, TableMap, KeySelected, StreamAggregate, TableAggregate, Windowed, KeyJoin, ForeignKeyJoin}
use Rattle.ks_plan.specs.declared.node.Topic.{Topic}
use Rattle.ks_plan.specs.declared.node.Topic.TheVariants.{Input, Repartition}
use Rattle.ks_plan.specs.Layout.{up_to, is_source_of, any_source_of, first_source_of, source_of, sub_of, sub_count, reads, kind_at, right_of, is_drained, input_topics, by_node, through_topics, changelogs_of, number_of}
use Rattle.ks_plan.specs.Infos.{input_numbers, changelog_numbers, inputs_by_sub, changelogs_by_sub}
use Rattle.ks_def_tasks.proofs.Agree.{kind-is}
use Rattle.ks_law_topology.proofs.Fits.{Fits, NodeFits, EachFits}
use Rattle.ks_law_topology.proofs.WellFormed.{well_formed_fits}
use Rattle.ks_law_topology.proofs.Labels.{sub_within}
use Rattle.ks_plan.proofs.Numbers.{AtNode, all_nodes}
use Rattle.ks_def_tasks.proofs.Numbered.{length_up_to, get_up_to, get_map}

source_within : (t n : ℕ) (ks : List Kind) → any_source_of t ks ≡ true → first_source_of t n ks < n + length ks
source_within t n [] h = absurd (true≢false (sym h))
source_within t n (k ∷ ks) h = elim (is_source_of t k) as (λ b. (b || any_source_of t ks) ≡ true → cond b n (first_source_of t (suc n) ks) < n + suc (length ks)) [
  | true ↦ λ e. omega arith
  | false ↦ λ e. omega (arith, source_within t (suc n) ks e)
] h

abbrev Each : (Topic → Type 0) → List Topic → Type 0
Each P [] = Unit {0}
Each P (t ∷ ts) = P t × Each P ts

each-append : (P : Topic → Type 0) (xs ys : List Topic) → Each P xs → Each P ys → Each P (xs ++ ys)
each-append P [] ys a b = b
each-append P (x ∷ xs) ys a b = (a.0, each-append P xs ys a.1 b)

each_cond : (P : Topic → Type 0) (b : Bool) (xs : List Topic) → Each P xs → Each P (cond b xs [])
each_cond P true xs h = h
each_cond P false xs h = tt

module _ (p : Plan) (fits : Fits p) where
  abbrev Low : Topic → Type 0
  Low t = is_drained p t ≡ true → reads p t < sub_count p

  low_node : (n : ℕ) → n < length p.kinds → sub_of p n < sub_count p
  low_node n lt = sub_within p fits n lt

  low_inputs : (ns : List ℕ) → Each Low (map Input ns)
  low_inputs [] = tt
  low_inputs (n ∷ ns) = (λ e. subst (λ b. cond b (sub_of p (source_of p n)) (sub_count p) < sub_count p) (sym e) (low_node (source_of p n) (omega (arith, source_within n 0 p.kinds e))), low_inputs ns)

  abbrev Strict : Topic → Type 0
  Strict t = reads p t < sub_count p

  abbrev OfNode : (Topic → Type 0) → (ℕ → Kind → List Topic) → Type 0
  OfNode P f = (n : ℕ) (k : Kind) → slice_get p.kinds n ≡ Some k → NodeFits p n k → Each P (f n k)

  of_nodes : (P : Topic → Type 0) (f : ℕ → Kind → List Topic) → OfNode P f → (n : ℕ) (ks : List Kind) → AtNode p n ks → EachFits p n ks → Each P (by_node f n ks)
  of_nodes P f h n [] at fit = tt
  of_nodes P f h n (k ∷ ks) at fit = each-append P (f n k) (by_node f (suc n) ks) (h n k at.0 fit.0) (of_nodes P f h (suc n) ks at.1 fit.1)

  own_low : (n : ℕ) (k : Kind) → slice_get p.kinds n ≡ Some k → sub_of p n < sub_count p
  own_low n k e = low_node n (slice_get_within p.kinds n k e)

  right_low : (n l r : ℕ) (fk : Fk) (kind : JoinKind) (s : Set) → slice_get p.kinds n ≡ Some (ForeignKeyJoin l r fk kind s) → r < n → sub_of p (right_of (kind_at p n)) < sub_count p
  right_low n l r fk kind s e lt =
      subst (λ k. sub_of p (right_of k) < sub_count p) (sym (kind-is p.kinds n (ForeignKeyJoin l r fk kind s) e)) (low_node r (omega (arith, slice_get_within p.kinds n (ForeignKeyJoin l r fk kind s) e)))

  low_through : OfNode Low through_topics
  low_through n (StreamAggregate f by field through) e fit = each_cond Low through (Repartition n ∷ []) (λ d. own_low n _ e, tt)
  low_through n (TableAggregate f by field) e fit = (λ d. own_low n _ e, tt)
  low_through n (Windowed f by w through) e fit = each_cond Low through (Repartition n ∷ []) (λ d. own_low n _ e, tt)
  low_through n (ForeignKeyJoin l r fk kind s) e fit = (λ d. right_low n l r fk kind s e fit.1, (λ d. own_low n _ e, tt))
  low_through n (StreamSource t) e fit = tt
  low_through n (TableSource t) e fit = tt
  low_through n (StreamFilter f x) e fit = tt
  low_through n (TableFilter f x) e fit = tt
  low_through n (StreamMap f s) e fit = tt
  low_through n (TableMap f s) e fit = tt
  low_through n (KeySelected f x) e fit = tt
  low_through n (KeyJoin l r kind s) e fit = tt

  low_logs : OfNode Strict changelogs_of
  low_logs n (ForeignKeyJoin l r fk kind s) e fit = (own_low n _ e, (right_low n l r fk kind s e fit.1, tt))
  low_logs n (StreamAggregate f by field through) e fit = (own_low n _ e, tt)
  low_logs n (TableAggregate f by field) e fit = (own_low n _ e, tt)
  low_logs n (Windowed f by w through) e fit = (own_low n _ e, tt)
  low_logs n (TableSource t) e fit = (own_low n _ e, tt)
  low_logs n (TableFilter f x) e fit = (own_low n _ e, tt)
  low_logs n (TableMap f s) e fit = (own_low n _ e, tt)
  low_logs n (KeyJoin l r kind s) e fit = (own_low n _ e, tt)
  low_logs n (StreamSource t) e fit = tt
  low_logs n (StreamFilter f x) e fit = tt
  low_logs n (StreamMap f s) e fit = tt
  low_logs n (KeySelected f x) e fit = tt

  -- of those that are drained, none is read by a subtopology beyond
  none_beyond : (sub : ℕ) (ts : List Topic) → Each Low ts → sub_count p ≤ sub → filter (λ t. nat_eq (reads p t) sub) (filter (is_drained p) ts) ≡ []
  none_beyond sub [] h le = refl
  none_beyond sub (t ∷ ts) h le =
      let rest = none_beyond sub ts h.1 le in
      elim (is_drained p t) as (λ b. is_drained p t ≡ b → filter (λ t. nat_eq (reads p t) sub) (cond b (t ∷ filter (is_drained p) ts) (filter (is_drained p) ts)) ≡ []) [
        | true ↦ λ e. elim (nat_eq (reads p t) sub) as (λ b. nat_eq (reads p t) sub ≡ b → cond b (t ∷ filter (λ t. nat_eq (reads p t) sub) (filter (is_drained p) ts)) (filter (λ t. nat_eq (reads p t) sub) (filter (is_drained p) ts)) ≡ []) [
          | true ↦ λ f. let same : reads p t ≡ sub = (Decides-eqb (reads p t) sub).0 f in absurd (omega (arith, h.0 e, same))
          | false ↦ λ f. rest
        ] refl
        | false ↦ λ e. rest
      ] refl

  none_kept : (sub : ℕ) (ts : List Topic) → Each Strict ts → sub_count p ≤ sub → filter (λ t. nat_eq (reads p t) sub) ts ≡ []
  none_kept sub [] h le = refl
  none_kept sub (t ∷ ts) h le =
      let rest = none_kept sub ts h.1 le in
      elim (nat_eq (reads p t) sub) as (λ b. nat_eq (reads p t) sub ≡ b → cond b (t ∷ filter (λ t. nat_eq (reads p t) sub) ts) (filter (λ t. nat_eq (reads p t) sub) ts) ≡ []) [
        | true ↦ λ f. let same : reads p t ≡ sub = (Decides-eqb (reads p t) sub).0 f in absurd (omega (arith, h.0, same))
        | false ↦ λ f. rest
      ] refl

  no_inputs : (sub : ℕ) → sub_count p ≤ sub → input_numbers p sub ≡ []
  no_inputs sub le = ap (map (number_of p)) (none_beyond sub (input_topics p ++ by_node through_topics 0 p.kinds)
      (each-append Low (input_topics p) (by_node through_topics 0 p.kinds) (low_inputs (up_to (length p.counts))) (of_nodes Low through_topics low_through 0 p.kinds (all_nodes p) fits)) le)

  no_logs : (sub : ℕ) → sub_count p ≤ sub → changelog_numbers p sub ≡ []
  no_logs sub le = ap (map (number_of p)) (none_kept sub (by_node changelogs_of 0 p.kinds) (of_nodes Strict changelogs_of low_logs 0 p.kinds (all_nodes p) fits) le)

-- ---- lists by number
get_past : {A : Type 0} (xs : List A) (i : ℕ) (d : A) → length xs ≤ i → get_or xs i d ≡ d
get_past [] i d le = refl
get_past (x ∷ xs) zero d le = absurd (omega arith)
get_past (x ∷ xs) (suc i) d le = get_past xs i d (omega arith)

by_number : (f : ℕ → List ℕ) (n i : ℕ) → (n ≤ i → f i ≡ []) → get_or (map f (up_to n)) i [] ≡ f i
by_number f n i none = elim (nat_lt i n) as (λ b. nat_lt i n ≡ b → get_or (map f (up_to n)) i [] ≡ f i) [
  | true ↦ λ e. get_or_from_slice_get (map f (up_to n)) i (f i) [] (get_map f (up_to n) i i (get_up_to n i (ltb-true i n e)))
  | false ↦ λ e.
      let le : n ≤ i = ltb-false i n e in
      get_past (map f (up_to n)) i [] (omega (arith, le, length-map (up_to n) f, length_up_to n)) ∙ sym (none le)
] refl

pub inputs_there : (d : DraftView) → fault_of d ≡ None → (sub : ℕ) → get_or (inputs_by_sub (plan_of d)) sub [] ≡ input_numbers (plan_of d) sub
inputs_there d well sub = by_number (input_numbers (plan_of d)) (sub_count (plan_of d)) sub (no_inputs (plan_of d) (well_formed_fits d well) sub)

pub logs_there : (d : DraftView) → fault_of d ≡ None → (sub : ℕ) → get_or (changelogs_by_sub (plan_of d)) sub [] ≡ changelog_numbers (plan_of d) sub
logs_there d well sub = by_number (changelog_numbers (plan_of d)) (sub_count (plan_of d)) sub (no_logs (plan_of d) (well_formed_fits d well) sub)
