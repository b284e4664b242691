-- The nodes of a well-formed draft read nodes that stand before them.
use Rattle.std.proofs.Common.{◌≡◌, ℕ, zero, suc, ◌<◌, Bool, true, false, cond, not, ◌||◌, List, length, length-append, [], ◌∷◌, ◌++◌, map, get_or, Option, Some, None, fold, refl, sym, ap, subst, ◌∙◌, arith, append_assoc, append-nil, ◌⊎◌, ⊎_elim}
use Rattle.std.specs.Prelude.{ℤ}
use Rattle.std.specs.Option.{option_or}
use Rattle.std.proofs.lemmas.Bool.{cases_order}
use Rattle.std.proofs.lemmas.List.{length-map}
use Rattle.std.proofs.lemmas.List.Sums.{fold-append}
use Rattle.ks_expr.specs.Eval.{same_bytes}
use Rattle.ks_plan.specs.declared.fault.TopoFault.TheVariants.{UnknownInput}
use Rattle.ks_plan.specs.Drafts.{Topics, Name, OpView, StreamOf, TableOf, FilterOf, MapOf, KeyOf, CountOf, SumOf, WindowedOf, JoinOf, FkJoinOf, NodeView, DraftView}
use Rattle.ks_plan.specs.Plan.{Kind, Known, is_stream, known_of, learn, known_from, known_at, known_names, name_place, node_number}
use Rattle.ks_plan.specs.Layout.{no_kind}
use Rattle.ks_plan.specs.Faults.{Line, first_fitting, first_of, has_name, names_of, unknown_lines, inputs_in, node_table, nodes_fault, size_lines, print_fault}
use Rattle.ks_law_restated.specs.Connected.{ReadsDirectly, WellFormedInputsComeFirst}
use Rattle.ks_law_restated.proofs.Labels.{get_end, kind_past}

-- ---- no fault, line by line
none_of : {A : Type 0} (x y : Option A) → option_or x y ≡ None → (x ≡ None) × (y ≡ None)
none_of None y e = (refl, e)
none_of (Some x) y e = cc

not_first : (x : Line) (xs : List Line) → first_fitting (x ∷ xs) ≡ None → (x.0 ≡ false) × (first_fitting xs ≡ None)
not_first (true, f) xs e = cc
not_first (false, f) xs e = (refl, e)

group_none : (gs : List (List Line)) → first_of gs ≡ None → (i : ℕ) → first_fitting (get_or gs i []) ≡ None
group_none [] e i = refl
group_none (g ∷ gs) e zero = (none_of (first_fitting g) (first_of gs) e).0
group_none (g ∷ gs) e (suc i) = group_none gs (none_of (first_fitting g) (first_of gs) e).1 i

place_within : (ns : List Name) (n : Name) → has_name ns n ≡ true → name_place ns n < length ns
place_within [] n e = cc
place_within (m ∷ ms) n e = elim (same_bytes m n) as (λ b. (b || has_name ms n) ≡ true → cond b 0 (suc (name_place ms n)) < length (m ∷ ms)) [
  | true ↦ λ e. omega arith
  | false ↦ λ e. omega (arith, place_within ms n e)
] e

map-append : {A B : Type 0} (f : A → B) (xs ys : List A) → map f (xs ++ ys) ≡ map f xs ++ map f ys
map-append f [] ys = refl
map-append f (x ∷ xs) ys = ap (λ l. f x ∷ l) (map-append f xs ys)

-- ---- kinds by number
kind_before : (xs ys : List Kind) (n : ℕ) → n < length xs → get_or (xs ++ ys) n no_kind ≡ get_or xs n no_kind
kind_before [] ys n lt = absurd (omega arith)
kind_before (x ∷ xs) ys zero lt = refl
kind_before (x ∷ xs) ys (suc n) lt = kind_before xs ys n (omega arith)

abbrev ReadsBelow : ℕ → Kind → Type 0
ReadsBelow n k = (m : ℕ) → ReadsDirectly k m → m < n

abbrev Ordered : List Kind → Type 0
Ordered ks = (n : ℕ) → ReadsBelow n (get_or ks n no_kind)

ordered_push : (ks : List Kind) (k : Kind) → Ordered ks → ReadsBelow (length ks) k → Ordered (ks ++ k ∷ [])
ordered_push ks k h new n m d = ⊎_elim
    (λ (e : n ≡ length ks).
    let same : get_or (ks ++ k ∷ []) n no_kind ≡ k = ap (λ i. get_or (ks ++ k ∷ []) i no_kind) e ∙ get_end ks k [] in
    omega (arith, e, new m (subst (λ x. ReadsDirectly x m) same d)))
    (λ (o : (n < length ks) ⊎ (length ks < n)). ⊎_elim
    (λ (l : n < length ks). h n m (subst (λ x. ReadsDirectly x m) (kind_before ks (k ∷ []) n l) d))
    (λ (g : length ks < n). absurd (subst (λ x. ReadsDirectly x m) (kind_past (ks ++ k ∷ []) n (omega (arith, g, length-append ks (k ∷ [])))) d)) o)
    (cases_order n (length ks))

-- ---- node by node
abbrev kinds_of : List Known → List Kind
kinds_of ks = map (λ k. k.kind) ks

module _ (d : DraftView) where
  abbrev ts : Topics
  ts = d.topics

  known_names_are : (ks : List Known) (ns : List NodeView) → known_names (fold (learn ts) ks ns) ≡ known_names ks ++ names_of ns
  known_names_are ks [] = sym (append-nil _)
  known_names_are ks (n ∷ ns) =
      let k : Known = record { name = n.name; kind = (known_of ts ks n.op).0; rekeyed = (known_of ts ks n.op).1 } in
      known_names_are (ks ++ k ∷ []) ns ∙ ap (λ l. l ++ names_of ns) (map-append (λ k. k.name) ks (k ∷ [])) ∙ append_assoc (known_names ks) (n.name ∷ []) (names_of ns)

  module _ (before : List NodeView) where
    abbrev ks : List Known
    ks = known_from ts before

    abbrev IsBelow : Kind → Type 0
    IsBelow k = ReadsBelow (length (kinds_of ks)) k

    abbrev AreKnown : List Name → Type 0
    AreKnown fs = first_fitting (unknown_lines (names_of before) fs) ≡ None

    input_known : (f : Name) (fs : List Name) → AreKnown (f ∷ fs) → (node_number ks f < length (kinds_of ks)) × AreKnown fs
    input_known f fs e =
        let both = not_first (not (has_name (names_of before) f), UnknownInput f) (unknown_lines (names_of before) fs) e in
        let named : known_names ks ≡ names_of before = known_names_are [] before in
        let at_name : name_place (names_of before) f < length (names_of before) = place_within (names_of before) f (of_not _ both.0) in
        let long : length (known_names ks) ≡ length (kinds_of ks) = length-map ks (λ k. k.name) ∙ sym (length-map ks (λ k. k.kind)) in
        (subst (λ m. name_place (known_names ks) f < m) long (subst (λ l. name_place l f < length l) (sym named) at_name), both.1)
      where
        of_not : (b : Bool) → not b ≡ false → b ≡ true
        of_not true e = refl
        of_not false e = cc

    reads : (f : Name) (fs : List Name) → AreKnown (f ∷ fs) → (m : ℕ) → m ≡ node_number ks f → m < length (kinds_of ks)
    reads f fs e m is = omega (arith, is, (input_known f fs e).0)

    chosen : (b : Bool) (x y : Kind) → IsBelow x → IsBelow y → IsBelow (cond b x y)
    chosen true x y p q = p
    chosen false x y p q = q

    is_below : (op : OpView) → AreKnown (inputs_in op) → IsBelow (known_of ts ks op).0
    is_below (StreamOf t) e = λ m r. absurd r
    is_below (TableOf t) e = λ m r. absurd r
    is_below (FilterOf f x) e = chosen (is_stream (known_at ks f).kind) _ _ (reads f [] e) (reads f [] e)
    is_below (MapOf f s) e = chosen (is_stream (known_at ks f).kind) _ _ (reads f [] e) (reads f [] e)
    is_below (KeyOf f k) e = reads f [] e
    is_below (CountOf f by) e = chosen (is_stream (known_at ks f).kind) _ _ (λ m r. reads f [] e m r.1) (λ m r. absurd r)
    is_below (SumOf f by field) e = chosen (is_stream (known_at ks f).kind) _ _ (λ m r. reads f [] e m r.1) (λ m r. absurd r)
    is_below (WindowedOf f by size advance grace) e = λ m r. reads f [] e m r.1
    is_below (JoinOf l r kind s) e = λ m d. ⊎_elim (λ (i : m ≡ node_number ks l). reads l (r ∷ []) e m i) (λ (i : m ≡ node_number ks r). reads r [] (input_known l (r ∷ []) e).1 m i) d
    is_below (FkJoinOf l r fk kind s) e = reads l (r ∷ []) e

  abbrev IsGood : List NodeView → Type 0
  IsGood before = Ordered (kinds_of (known_from ts before))

  good_push : (before : List NodeView) (n : NodeView) → first_of (node_table d before n) ≡ None → IsGood before → IsGood (before ++ n ∷ [])
  good_push before n fine h =
      let ks = known_from ts before in
      let k : Known = record { name = n.name; kind = (known_of ts ks n.op).0; rekeyed = (known_of ts ks n.op).1 } in
      let known : known_from ts (before ++ n ∷ []) ≡ ks ++ k ∷ [] = fold-append (learn ts) [] before (n ∷ []) in
      let kinds : kinds_of (known_from ts (before ++ n ∷ [])) ≡ kinds_of ks ++ k.kind ∷ [] = ap kinds_of known ∙ map-append (λ k. k.kind) ks (k ∷ []) in
      subst Ordered (sym kinds) (ordered_push (kinds_of ks) k.kind h (is_below before n.op (group_none (node_table d before n) fine 3)))

  good_all : (before rest : List NodeView) → nodes_fault d before rest ≡ None → IsGood before → IsGood (before ++ rest)
  good_all before [] e h = subst IsGood (sym (append-nil before)) h
  good_all before (n ∷ ns) e h =
      let both = none_of (first_of (node_table d before n)) (nodes_fault d (before ++ n ∷ []) ns) e in
      subst IsGood (append_assoc before (n ∷ []) ns) (good_all (before ++ n ∷ []) ns both.1 (good_push before n both.0 h))

pub well_formed_inputs_come_first : WellFormedInputsComeFirst
well_formed_inputs_come_first d e =
    let rest = (none_of (first_fitting (size_lines d)) _ e).1 in
    let nodes = (none_of (nodes_fault d [] d.nodes) (print_fault d [] d.print) rest).0 in
    good_all d [] d.nodes nodes (λ n m r. absurd r)
