-- The plan of a well-formed draft fits: inputs stand before their nodes, each topic has one source, sides that are joined on
-- their keys have as many partitions.
use Rattle.std.proofs.Common.{◌+◌, ◌≡◌, ℕ, zero, suc, ◌<◌, ◌≤◌, Bool, true, false, cond, not, ◌||◌, List, length, length-append, [], ◌∷◌, ◌++◌, map, get_or, Option, Some, None, fold, refl, sym, ap, ap₂, subst, ◌∙◌, arith, append_assoc, append-nil, nat_eq, ne_eqb, ◌⊎◌, inl, inr, ⊎_elim}
use Rattle.std.specs.Prelude.{ℤ, is_some, pos, negsuc, int_le, ◌*ℤ◌, ◌&&◌}
use Rattle.std.proofs.lemmas.Bool.{cases_lt, and_parts, leb-true}
use Rattle.std.specs.List.{flat_map}
use Rattle.std.specs.Option.{option_or}
use Rattle.std.proofs.lemmas.Bool.Decides.{Decides-eqb}
use Rattle.std.proofs.lemmas.List.Sums.{fold-append}
use Rattle.std.specs.declared.cmp.Ordering.{Ordering}
use Rattle.std.specs.declared.cmp.Ordering.TheVariants.{Less, Equal, Greater}
use Rattle.std.specs.Ordering.{is_lt, is_eq, nat_cmp, ordering_reverse}
use Rattle.std.specs.Cmp.{tied_itself}
use Rattle.std.specs.Cmp.Lexicographic.{nat_list_cmp_total, slice_cmp}
use Rattle.std.specs.FinMap.{slice_cmp-IsAntisymmetric, nat_cmp-IsAntisymmetric}
use Rattle.ks_expr.specs.Eval.{same_bytes}
use Rattle.ks_plan.specs.declared.fault.TopoFault.TheVariants.{UnknownInput, WrongKind, DuplicateName, NotCopartitioned, BadWindow}
use Rattle.ks_plan.specs.declared.draft.TopicDraft.{TopicDraft}
use Rattle.ks_plan.specs.Drafts.{Name, Topics, OpView, StreamOf, TableOf, FilterOf, MapOf, KeyOf, CountOf, SumOf, WindowedOf, JoinOf, FkJoinOf, NodeView, DraftView}
use Rattle.ks_plan.specs.Plan.{Plan, Kind, Known, is_stream, known_of, learn, known_from, known_at, known_names, name_place, node_number, topic_number, plan_of, nothing_known, natural, or_number}
use Rattle.ks_plan.specs.Plan.Kind.{StreamFilter, TableFilter, StreamMap, TableMap}
use Rattle.ks_plan.specs.Layout.{node_parts, node_origins, is_source_of, any_source_of}
use Rattle.ks_plan.specs.Faults.{Line, same_before, stated_at, are_apart, first_fitting, first_of, has_name, names_of, topic_names, unknown_lines, taken_lines, inputs_in, topics_in, sources_of, parts_in, node_table, nodes_fault, side_lines, size_lines, print_fault, wrong_kind, wiring_in, window_lines, is_window, is_time, is_advance, int_or}
use Rattle.ks_def_runs.proofs.Tables.{equal}
use Rattle.ks_law_topology.specs.WellFormed.{IsWellFormed}
use Rattle.ks_law_topology.proofs.Fits.{Fits, NodeShape, EachShape, fits_of_shape, own_next, own_keys, GroupsByKey, own_same, own_count}

get_before : {A : Type 0} (xs ys : List A) (n : ℕ) (d : A) → n < length xs → get_or (xs ++ ys) n d ≡ get_or xs n d
get_before [] ys n d lt = absurd (omega arith)
get_before (x ∷ xs) ys zero d lt = refl
get_before (x ∷ xs) ys (suc n) d lt = get_before xs ys n d (omega arith)

get_end : {A : Type 0} (xs : List A) (x : A) (ys : List A) (d : A) → get_or (xs ++ x ∷ ys) (length xs) d ≡ x
get_end [] x ys d = refl
get_end (y ∷ xs) x ys d = get_end xs x ys d

-- ---- no fault, line by line
none_of : {A : Type 0} (x y : Option A) → option_or x y ≡ None → (x ≡ None) × (y ≡ None)
none_of None y e = (refl, e)
none_of (Some x) y e = cc

not_first : (x : Line) (xs : List Line) → first_fitting (x ∷ xs) ≡ None → (x.0 ≡ false) × (first_fitting xs ≡ None)
not_first (true, f) xs e = cc
not_first (false, f) xs e = (refl, e)

group_none : (gs : List (List Line)) → first_of gs ≡ None → (i : ℕ) → first_fitting (get_or gs i []) ≡ None
group_none [] e i = refl
group_none (g ∷ gs) e zero = (none_of (first_fitting g) (first_of gs) e).0
group_none (g ∷ gs) e (suc i) = group_none gs (none_of (first_fitting g) (first_of gs) e).1 i

-- ---- names
name-is : (a b : Name) → same_bytes a b ≡ true → a ≡ b
name-is a b e = slice_cmp-IsAntisymmetric nat_cmp-IsAntisymmetric a b (equal _ e)

either_false : (a b : Bool) → (a || b) ≡ false → (a ≡ false) × (b ≡ false)
either_false false b e = (refl, e)
either_false true b e = cc

has_name-append : (xs ys : List Name) (n : Name) → has_name (xs ++ ys) n ≡ (has_name xs n || has_name ys n)
has_name-append [] ys n = refl
has_name-append (x ∷ xs) ys n = elim (same_bytes x n) as (λ b. (b || has_name (xs ++ ys) n) ≡ ((b || has_name xs n) || has_name ys n)) [ true ↦ refl | false ↦ has_name-append xs ys n ]

place_within : (ns : List Name) (n : Name) → has_name ns n ≡ true → name_place ns n < length ns
place_within [] n e = cc
place_within (m ∷ ms) n e = elim (same_bytes m n) as (λ b. (b || has_name ms n) ≡ true → cond b 0 (suc (name_place ms n)) < length (m ∷ ms)) [
  | true ↦ λ e. omega arith
  | false ↦ λ e. omega (arith, place_within ms n e)
] e

-- ---- numbers of topics: names that differ, both known, have two
module _ where
  abbrev below : Name → Name → Bool
  below a b = is_lt (slice_cmp nat_cmp a b)

  less-is : (r : Ordering) → is_lt r ≡ true → r ≡ Less
  less-is Less e = refl
  less-is Equal e = cc
  less-is Greater e = cc

  below_trans : (a b c : Name) → below a b ≡ true → below b c ≡ true → below a c ≡ true
  below_trans a b c p q = ap is_lt (nat_list_cmp_total.trans a b c (less-is _ p) (less-is _ q))

  not_itself : (a : Name) → below a a ≡ false
  not_itself a = ap is_lt (tied_itself nat_list_cmp_total a)

  number_le : (ts : Topics) (u t : Name) → below u t ≡ true → topic_number ts u ≤ topic_number ts t
  number_le [] u t lt = omega arith
  number_le (x ∷ xs) u t lt =
      let rest = number_le xs u t lt in
      elim (below x.0 u) as (λ b. below x.0 u ≡ b → cond b (suc (topic_number xs u)) (topic_number xs u) ≤ cond (below x.0 t) (suc (topic_number xs t)) (topic_number xs t)) [
        | true ↦ λ b. rw (below_trans x.0 u t b lt) (omega arith)
        | false ↦ λ b. elim (below x.0 t) as (λ c. topic_number xs u ≤ cond c (suc (topic_number xs t)) (topic_number xs t)) [ true ↦ omega arith | false ↦ rest ]
      ] refl

  number_less : (ts : Topics) (u t : Name) → below u t ≡ true → has_name (map (λ (x : Name × TopicDraft). x.0) ts) u ≡ true → topic_number ts u < topic_number ts t
  number_less [] u t lt e = cc
  number_less (x ∷ xs) u t lt e =
      let rest = number_le xs u t lt in
      elim (same_bytes x.0 u) as (λ b. same_bytes x.0 u ≡ b → (b || has_name (map (λ (x : Name × TopicDraft). x.0) xs) u) ≡ true →
      cond (below x.0 u) (suc (topic_number xs u)) (topic_number xs u) < cond (below x.0 t) (suc (topic_number xs t)) (topic_number xs t)) [
        | true ↦ λ b h.
            let here : below x.0 u ≡ false = ap (below x.0) (sym (name-is x.0 u b)) ∙ not_itself x.0 in
            let there : below x.0 t ≡ true = ap (λ n. below n t) (name-is x.0 u b) ∙ lt in
            rw (here, there) (omega arith)
        | false ↦ λ b h.
            let more = number_less xs u t lt h in
            elim (below x.0 u) as (λ c. below x.0 u ≡ c → cond c (suc (topic_number xs u)) (topic_number xs u) < cond (below x.0 t) (suc (topic_number xs t)) (topic_number xs t)) [
              | true ↦ λ c. rw (below_trans x.0 u t c lt) (omega arith)
              | false ↦ λ c. elim (below x.0 t) as (λ k. topic_number xs u < cond k (suc (topic_number xs t)) (topic_number xs t)) [ true ↦ omega arith | false ↦ more ]
            ] refl
      ] refl e

  by_order : (r : Ordering) → is_eq r ≡ false → (is_lt r ≡ true) ⊎ (is_lt (ordering_reverse r) ≡ true)
  by_order Less e = inl refl
  by_order Equal e = cc
  by_order Greater e = inr refl

  numbers_apart : (ts : Topics) (u t : Name) → same_bytes u t ≡ false → has_name (map (λ (x : Name × TopicDraft). x.0) ts) u ≡ true → has_name (map (λ (x : Name × TopicDraft). x.0) ts) t ≡ true →
      nat_eq (topic_number ts u) (topic_number ts t) ≡ false
  numbers_apart ts u t ne ku kt = ne_eqb _ _ (⊎_elim
      (λ (lt : below u t ≡ true). let less = number_less ts u t lt ku in λ e. omega arith)
      (λ (gt : is_lt (ordering_reverse (slice_cmp nat_cmp u t)) ≡ true).
      let lt : below t u ≡ true = ap is_lt (nat_list_cmp_total.antisymm t u) ∙ gt in
      let less = number_less ts t u lt kt in λ e. omega arith)
      (by_order (slice_cmp nat_cmp u t) ne))

before-is : (a b : Option Name) → same_before a b ≡ true → a ≡ b
before-is None None e = refl
before-is (Some a) (Some b) e = ap (λ n. Some n) (name-is a b e)
before-is None (Some b) e = cc
before-is (Some a) None e = cc

-- ---- the advance of a window that has no fault
at_least_one : (z : ℤ) → int_le (pos 1) z ≡ true → 0 < natural z
at_least_one (pos m) e = let le = leb-true 1 m e in omega arith
at_least_one (negsuc m) e = cc

good_advance : (size : ℤ) (advance : Option ℤ) (grace : ℤ) → is_window size (int_or advance size) grace ≡ true → 0 < or_number advance (natural size)
good_advance size advance grace e =
    let last = (and_parts (is_time size && is_time grace) (is_advance size (int_or advance size)) e).1 in
    let two = (and_parts (int_le (pos 1) (int_or advance size) && int_le (int_or advance size) size) (int_le size (pos 1000 *ℤ int_or advance size)) last).0 in
    of_advance advance (and_parts (int_le (pos 1) (int_or advance size)) (int_le (int_or advance size) size) two).0
  where
    of_advance : (a : Option ℤ) → int_le (pos 1) (int_or a size) ≡ true → 0 < or_number a (natural size)
    of_advance None f = at_least_one size f
    of_advance (Some z) f = at_least_one z f

-- ---- the shape, node by node
abbrev kinds_of : List Known → List Kind
kinds_of ks = map (λ k. k.kind) ks

map-append : {A B : Type 0} (f : A → B) (xs ys : List A) → map f (xs ++ ys) ≡ map f xs ++ map f ys
map-append f [] ys = refl
map-append f (x ∷ xs) ys = ap (λ l. f x ∷ l) (map-append f xs ys)

map_length : {A B : Type 0} (f : A → B) (xs : List A) → length (map f xs) ≡ length xs
map_length f [] = refl
map_length f (x ∷ xs) = ap (λ n. suc n) (map_length f xs)

any-append : (t : ℕ) (xs ys : List Kind) → any_source_of t (xs ++ ys) ≡ (any_source_of t xs || any_source_of t ys)
any-append t [] ys = refl
any-append t (x ∷ xs) ys = elim (is_source_of t x) as (λ b. (b || any_source_of t (xs ++ ys)) ≡ ((b || any_source_of t xs) || any_source_of t ys)) [ true ↦ refl | false ↦ any-append t xs ys ]

flat-append : {A B : Type 0} (f : A → List B) (xs : List A) (y : A) → flat_map f (xs ++ y ∷ []) ≡ flat_map f xs ++ f y
flat-append f [] y = append-nil (f y)
flat-append f (x ∷ xs) y = ap (λ l. f x ++ l) (flat-append f xs y) ∙ sym (append_assoc (f x) (flat_map f xs) (f y))

shape_push : (p : Plan) (b xs : List Kind) (k : Kind) → EachShape p b xs → NodeShape p (b ++ xs) k → EachShape p b (xs ++ k ∷ [])
shape_push p b [] k h n = (subst (λ l. NodeShape p l k) (append-nil b) n, tt)
shape_push p b (x ∷ xs) k h n = (h.0, shape_push p (b ++ x ∷ []) xs k h.1 (subst (λ l. NodeShape p l k) (sym (append_assoc b (x ∷ []) xs)) n))

module _ (d : DraftView) where
  abbrev ts : Topics
  ts = d.topics

  abbrev plan : Plan
  plan = plan_of d

  known_names_are : (ks : List Known) (ns : List NodeView) → known_names (fold (learn ts) ks ns) ≡ known_names ks ++ names_of ns
  known_names_are ks [] = sym (append-nil _)
  known_names_are ks (n ∷ ns) =
      let k : Known = record { name = n.name; kind = (known_of ts ks n.op).0; rekeyed = (known_of ts ks n.op).1 } in
      known_names_are (ks ++ k ∷ []) ns ∙ ap (λ l. l ++ names_of ns) (map-append (λ k. k.name) ks (k ∷ [])) ∙ append_assoc (known_names ks) (n.name ∷ []) (names_of ns)

  either_shape : (before : List Kind) (b : Bool) (x y : Kind) → (b ≡ true → NodeShape plan before x) → NodeShape plan before y → NodeShape plan before (cond b x y)
  either_shape before true x y p q = p refl
  either_shape before false x y p q = q

  -- streams that no select_key made have the keys of their records
  abbrev Own : List Known → Type 0
  Own ks = (i : ℕ) → i < length ks → is_stream (get_or ks i nothing_known).kind ≡ true → (get_or ks i nothing_known).rekeyed ≡ false → get_or (own_keys (kinds_of ks)) i false ≡ true

  -- the sources before a node: other topics than one that none of them names
  abbrev Apart : List NodeView → List Known → Type 0
  Apart before ks = (t : Name) → has_name (topic_names d) t ≡ true → has_name (sources_of before) t ≡ false → any_source_of (topic_number ts t) (kinds_of ks) ≡ false

  module _ (before : List NodeView) (n : NodeView) (fine : first_of (node_table d before n) ≡ None) where
    abbrev ks : List Known
    ks = known_from ts before

    input_known : (f : Name) (fs : List Name) → first_fitting (unknown_lines (names_of before) (f ∷ fs)) ≡ None → (node_number ks f < length (kinds_of ks)) × (first_fitting (unknown_lines (names_of before) fs) ≡ None)
    input_known f fs e =
        let both = not_first (not (has_name (names_of before) f), UnknownInput f) (unknown_lines (names_of before) fs) e in
        let named : known_names ks ≡ names_of before = known_names_are [] before in
        let at_name : name_place (names_of before) f < length (names_of before) = place_within (names_of before) f (of_not _ both.0) in
        let long : length (known_names ks) ≡ length (kinds_of ks) = map_length (λ k. k.name) ks ∙ sym (map_length (λ k. k.kind) ks) in
        (subst (λ m. name_place (known_names ks) f < m) long (subst (λ l. name_place l f < length l) (sym named) at_name), both.1)
      where
        of_not : (b : Bool) → not b ≡ false → b ≡ true
        of_not true e = refl
        of_not false e = cc

    one_known : (f : Name) → first_fitting (unknown_lines (names_of before) (f ∷ [])) ≡ None → node_number ks f < length (kinds_of ks)
    one_known f e = (input_known f [] e).0

    topic_known : (t : Name) → first_fitting (unknown_lines (topic_names d) (t ∷ [])) ≡ None → has_name (topic_names d) t ≡ true
    topic_known t e = of_not _ (not_first (not (has_name (topic_names d) t), UnknownInput t) [] e).0
      where
        of_not : (b : Bool) → not b ≡ false → b ≡ true
        of_not true e = refl
        of_not false e = cc

    source_free : (t : Name) → first_fitting (taken_lines (sources_of before) (t ∷ [])) ≡ None → has_name (sources_of before) t ≡ false
    source_free t e = (not_first (has_name (sources_of before) t, DuplicateName t) [] e).0

    group : (i : ℕ) → first_fitting (get_or (node_table d before n) i []) ≡ None
    group i = group_none (node_table d before n) fine i

    abbrev Lines : OpView → Type 0
    Lines op = record {
      topics : first_fitting (unknown_lines (topic_names d) (topics_in op)) ≡ None;
      inputs : first_fitting (unknown_lines (names_of before) (inputs_in op)) ≡ None;
      sources : first_fitting (taken_lines (sources_of before) (topics_in op)) ≡ None;
      kinds : first_fitting (map (λ i. (wrong_kind op (wiring_in ks i), WrongKind n.name)) (inputs_in op)) ≡ None;
      sides : first_fitting (side_lines ts plan.counts ks op) ≡ None;
      windows : first_fitting (window_lines n.name op) ≡ None;
    }

    by_key : (f : Name) (by : Option Name) → node_number ks f < length (kinds_of ks) → Own ks → is_stream (known_at ks f).kind ≡ true → (is_some by || (known_at ks f).rekeyed) ≡ false → GroupsByKey (own_keys (kinds_of ks)) (node_number ks f) by
    by_key f by lt own stream e =
        let both = either_false (is_some by) (known_at ks f).rekeyed e in
        let long : length (kinds_of ks) ≡ length ks = map_length (λ k. k.kind) ks in
        (none_there by both.0, own (node_number ks f) (omega arith) stream both.1)
      where
        none_there : (w : Option Name) → is_some w ≡ false → w ≡ None
        none_there None e = refl
        none_there (Some x) e = cc

    shape_of : (op : OpView) → Lines op → Apart before ks → Own ks → NodeShape plan (kinds_of ks) (known_of ts ks op).0
    shape_of (StreamOf t) e apart own = apart t (topic_known t e.topics) (source_free t e.sources)
    shape_of (TableOf t) e apart own = apart t (topic_known t e.topics) (source_free t e.sources)
    shape_of (FilterOf f x) e apart own = either_shape (kinds_of ks) (is_stream (known_at ks f).kind) _ _ (λ b. one_known f e.inputs) (one_known f e.inputs)
    shape_of (MapOf f s) e apart own = either_shape (kinds_of ks) (is_stream (known_at ks f).kind) _ _ (λ b. one_known f e.inputs) (one_known f e.inputs)
    shape_of (KeyOf f k) e apart own = one_known f e.inputs
    shape_of (CountOf f by) e apart own = either_shape (kinds_of ks) (is_stream (known_at ks f).kind) _ _ (λ b. (one_known f e.inputs, by_key f by (one_known f e.inputs) own b)) (one_known f e.inputs)
    shape_of (SumOf f by field) e apart own = either_shape (kinds_of ks) (is_stream (known_at ks f).kind) _ _ (λ b. (one_known f e.inputs, by_key f by (one_known f e.inputs) own b)) (one_known f e.inputs)
    shape_of (WindowedOf f by size advance grace) e apart own = (
      one_known f e.inputs,
      by_key f by (one_known f e.inputs) own (of_not _ (not_first (not (is_stream (known_at ks f).kind), WrongKind n.name) [] e.kinds).0),
      good_advance size advance (int_or grace (pos 86400000)) (of_not _ (not_first (not (is_window size (int_or advance size) (int_or grace (pos 86400000))), BadWindow n.name) [] e.windows).0),
    )
      where
        of_not : (b : Bool) → not b ≡ false → b ≡ true
        of_not true e = refl
        of_not false e = cc
    shape_of (JoinOf l r kind s) e apart own =
        let left = input_known l (r ∷ []) e.inputs in
        let origins = node_origins (kinds_of ks) in
        let apart = are_apart ts (node_parts plan.counts (kinds_of ks)) origins (node_number ks l) (node_number ks r) in
        let both = and_parts (nat_eq (parts_in plan.counts ks l) (parts_in plan.counts ks r)) (same_before (stated_at ts origins (node_number ks l)) (stated_at ts origins (node_number ks r)))
        (of_not _ (not_first (apart, NotCopartitioned l r) [] e.sides).0) in
        (left.0, one_known r left.1, (Decides-eqb _ _).0 both.0, before-is _ _ both.1)
      where
        of_not : (b : Bool) → not b ≡ false → b ≡ true
        of_not true e = refl
        of_not false e = cc
    shape_of (FkJoinOf l r fk kind s) e apart own =
        let left = input_known l (r ∷ []) e.inputs in
        (left.0, one_known r left.1)

    -- one more node keeps topics apart
    apart_push : (op : OpView) → Lines op → Apart before ks → (t : Name) → has_name (topic_names d) t ≡ true → has_name (topics_in op) t ≡ false → is_source_of (topic_number ts t) (known_of ts ks op).0 ≡ false
    apart_push (StreamOf u) e apart t kt ne = numbers_apart ts u t (either_false (same_bytes u t) false ne).0 (topic_known u e.topics) kt
    apart_push (TableOf u) e apart t kt ne = numbers_apart ts u t (either_false (same_bytes u t) false ne).0 (topic_known u e.topics) kt
    apart_push (FilterOf f x) e apart t kt ne = elim (is_stream (known_at ks f).kind) as (λ b. is_source_of (topic_number ts t) (cond b (StreamFilter (node_number ks f) x) (TableFilter (node_number ks f) x)) ≡ false) [ true ↦ refl | false ↦ refl ]
    apart_push (MapOf f s) e apart t kt ne = elim (is_stream (known_at ks f).kind) as (λ b. is_source_of (topic_number ts t) (cond b (StreamMap (node_number ks f) s) (TableMap (node_number ks f) s)) ≡ false) [ true ↦ refl | false ↦ refl ]
    apart_push (KeyOf f k) e apart t kt ne = refl
    apart_push (CountOf f by) e apart t kt ne = neither (is_stream (known_at ks f).kind) _ _ refl refl
      where
        neither : (b : Bool) (x y : Kind) → is_source_of (topic_number ts t) x ≡ false → is_source_of (topic_number ts t) y ≡ false → is_source_of (topic_number ts t) (cond b x y) ≡ false
        neither true x y p q = p
        neither false x y p q = q
    apart_push (SumOf f by field) e apart t kt ne = neither (is_stream (known_at ks f).kind) _ _ refl refl
      where
        neither : (b : Bool) (x y : Kind) → is_source_of (topic_number ts t) x ≡ false → is_source_of (topic_number ts t) y ≡ false → is_source_of (topic_number ts t) (cond b x y) ≡ false
        neither true x y p q = p
        neither false x y p q = q
    apart_push (WindowedOf f by size advance grace) e apart t kt ne = refl
    apart_push (JoinOf l r kind s) e apart t kt ne = refl
    apart_push (FkJoinOf l r fk kind s) e apart t kt ne = refl

    -- what passes a stream on keeps its keys
    passes : (f : Name) (x y : Kind) → node_number ks f < length (kinds_of ks) → Own ks → is_stream y ≡ false →
        own_next (own_keys (kinds_of ks)) x ≡ own_keys (kinds_of ks) ++ get_or (own_keys (kinds_of ks)) (node_number ks f) false ∷ [] →
        is_stream (cond (is_stream (known_at ks f).kind) x y) ≡ true → (known_at ks f).rekeyed ≡ false →
        get_or (own_next (own_keys (kinds_of ks)) (cond (is_stream (known_at ks f).kind) x y)) (length (own_keys (kinds_of ks))) false ≡ true
    passes f x y lt own table next stream plain =
        let long : length (kinds_of ks) ≡ length ks = map_length (λ k. k.kind) ks in
        elim (is_stream (known_at ks f).kind) as (λ b. is_stream (known_at ks f).kind ≡ b → is_stream (cond b x y) ≡ true → get_or (own_next (own_keys (kinds_of ks)) (cond b x y)) (length (own_keys (kinds_of ks))) false ≡ true) [
          | true ↦ λ b h. ap (λ l. get_or l (length (own_keys (kinds_of ks))) false) next ∙ get_end (own_keys (kinds_of ks)) _ [] false ∙ own (node_number ks f) (omega arith) b plain
          | false ↦ λ b h. let other : false ≡ true = sym table ∙ h in cc
        ] refl stream

    no_stream : {A : Type 0} (b : Bool) (x y : Kind) → is_stream x ≡ false → is_stream y ≡ false → is_stream (cond b x y) ≡ true → A
    no_stream true x y p q e = let other : false ≡ true = sym p ∙ e in cc
    no_stream false x y p q e = let other : false ≡ true = sym q ∙ e in cc

    -- one more node keeps the keys of streams
    own_push : (op : OpView) → Lines op → Own ks → is_stream (known_of ts ks op).0 ≡ true → (known_of ts ks op).1 ≡ false → get_or (own_next (own_keys (kinds_of ks)) (known_of ts ks op).0) (length (own_keys (kinds_of ks))) false ≡ true
    own_push (StreamOf t) e own stream plain = get_end (own_keys (kinds_of ks)) true [] false
    own_push (TableOf t) e own stream plain = cc
    own_push (FilterOf f x) e own stream plain = passes f (StreamFilter (node_number ks f) x) (TableFilter (node_number ks f) x) (one_known f e.inputs) own refl refl stream plain
    own_push (MapOf f s) e own stream plain = passes f (StreamMap (node_number ks f) s) (TableMap (node_number ks f) s) (one_known f e.inputs) own refl refl stream plain
    own_push (KeyOf f k) e own stream plain = cc
    own_push (CountOf f by) e own stream plain = no_stream (is_stream (known_at ks f).kind) _ _ refl refl stream
    own_push (SumOf f by field) e own stream plain = no_stream (is_stream (known_at ks f).kind) _ _ refl refl stream
    own_push (WindowedOf f by size advance grace) e own stream plain = cc
    own_push (JoinOf l r kind s) e own stream plain = cc
    own_push (FkJoinOf l r fk kind s) e own stream plain = cc

  pub record Good (before : List NodeView) : Type 0 where
    pub shape : EachShape plan [] (kinds_of (known_from ts before))
    pub apart : Apart before (known_from ts before)
    pub own : Own (known_from ts before)

  own_more : (ks : List Known) (k : Known) → Own ks → (is_stream k.kind ≡ true → k.rekeyed ≡ false → get_or (own_next (own_keys (kinds_of ks)) k.kind) (length (own_keys (kinds_of ks))) false ≡ true) → Own (ks ++ k ∷ [])
  own_more ks k own here i lt stream plain =
      let flags : own_keys (kinds_of (ks ++ k ∷ [])) ≡ own_next (own_keys (kinds_of ks)) k.kind = ap own_keys (map-append (λ k. k.kind) ks (k ∷ [])) ∙ fold-append own_next [] (kinds_of ks) (k.kind ∷ []) in
      let count : length (own_keys (kinds_of ks)) ≡ 0 + length (kinds_of ks) = own_count plan [] (kinds_of ks) in
      let long : length (kinds_of ks) ≡ length ks = map_length (λ k. k.kind) ks in
      ap (λ l. get_or l i false) flags ∙ ⊎_elim
      (λ (less : i < length ks).
      let same : get_or (ks ++ k ∷ []) i nothing_known ≡ get_or ks i nothing_known = get_before ks (k ∷ []) i nothing_known less in
      own_same (own_keys (kinds_of ks)) k.kind i (omega arith) ∙ own i less (ap (λ (x : Known). is_stream x.kind) (sym same) ∙ stream) (ap (λ (x : Known). x.rekeyed) (sym same) ∙ plain))
      (λ ge.
      let is : i ≡ length ks = omega (arith, length-append ks (k ∷ [])) in
      let same : get_or (ks ++ k ∷ []) i nothing_known ≡ k = ap (λ m. get_or (ks ++ k ∷ []) m nothing_known) is ∙ get_end ks k [] nothing_known in
      let at : i ≡ length (own_keys (kinds_of ks)) = omega arith in
      ap (λ m. get_or (own_next (own_keys (kinds_of ks)) k.kind) m false) at ∙ here (ap (λ (x : Known). is_stream x.kind) (sym same) ∙ stream) (ap (λ (x : Known). x.rekeyed) (sym same) ∙ plain))
      (cases_lt i (length ks))

  good_push : (before : List NodeView) (n : NodeView) → first_of (node_table d before n) ≡ None → Good before → Good (before ++ n ∷ [])
  good_push before n fine h =
      let ks = known_from ts before in
      let lines : Lines before n fine n.op = record { topics = group before n fine 2; inputs = group before n fine 3; sources = group before n fine 4; kinds = group before n fine 6; sides = group before n fine 7; windows = group before n fine 8 } in
      let k : Known = record { name = n.name; kind = (known_of ts ks n.op).0; rekeyed = (known_of ts ks n.op).1 } in
      let known : known_from ts (before ++ n ∷ []) ≡ ks ++ k ∷ [] = fold-append (learn ts) [] before (n ∷ []) in
      let kinds : kinds_of (known_from ts (before ++ n ∷ [])) ≡ kinds_of ks ++ k.kind ∷ [] = ap kinds_of known ∙ map-append (λ k. k.kind) ks (k ∷ []) in
      record {
        shape = subst (EachShape plan []) (sym kinds) (shape_push plan [] (kinds_of ks) k.kind h.shape (shape_of before n fine n.op lines h.apart h.own));
        apart = λ t kt free.
            let both = either_false _ _ (sym (has_name-append (sources_of before) (topics_in n.op) t) ∙ ap (λ l. has_name l t) (sym (flat-append (λ m. topics_in m.op) before n)) ∙ free) in
            ap (any_source_of (topic_number ts t)) kinds ∙ any-append (topic_number ts t) (kinds_of ks) (k.kind ∷ [])
            ∙ ap₂ (λ a b. a || (b || false)) (h.apart t kt both.0) (apart_push before n fine n.op lines h.apart t kt both.1);
        own = subst Own (sym known) (own_more ks k h.own (own_push before n fine n.op lines h.own));
      }

  good_all : (before rest : List NodeView) → nodes_fault d before rest ≡ None → Good before → Good (before ++ rest)
  good_all before [] e h = subst Good (sym (append-nil before)) h
  good_all before (n ∷ ns) e h =
      let both = none_of (first_of (node_table d before n)) (nodes_fault d (before ++ n ∷ []) ns) e in
      subst Good (append_assoc before (n ∷ []) ns) (good_all (before ++ n ∷ []) ns both.1 (good_push before n both.0 h))

  pub well_formed_fits : IsWellFormed d → Fits plan
  well_formed_fits e =
      let rest = (none_of (first_fitting (size_lines d)) _ e).1 in
      let nodes = (none_of (nodes_fault d [] d.nodes) (print_fault d [] d.print) rest).0 in
      fits_of_shape plan (good_all [] d.nodes nodes (record { shape = tt; apart = λ t kt free. refl; own = λ i lt. absurd (omega arith) })).shape
