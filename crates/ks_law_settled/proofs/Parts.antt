-- Each node of a well-formed draft has a partition, where each topic has one.
use Rattle.std.proofs.Common.{◌≡◌, ℕ, zero, suc, ◌+◌, ◌<◌, ◌≤◌, Bool, true, false, cond, not, ◌||◌, List, length, [], ◌∷◌, ◌++◌, map, get_or, None, fold, refl, sym, ap, subst, ◌∙◌, arith, append_assoc, append-nil, length-append, ⊎_elim}
use Rattle.std.specs.Prelude.{ℤ}
use Rattle.std.specs.Cmp.{tied_itself}
use Rattle.std.specs.Cmp.Lexicographic.{slice_cmp, nat_list_cmp_total}
use Rattle.std.specs.Ordering.{nat_cmp, is_lt}
use Rattle.std.proofs.lemmas.Bool.{cases_lt}
use Rattle.std.proofs.lemmas.List.Sums.{fold-append}
use Rattle.ks_expr.specs.Eval.{same_bytes}
use Rattle.ks_plan.specs.declared.fault.TopoFault.TheVariants.{UnknownInput}
use Rattle.ks_plan.specs.Drafts.{Topics, Name, OpView, StreamOf, TableOf, FilterOf, MapOf, KeyOf, CountOf, SumOf, WindowedOf, JoinOf, FkJoinOf, NodeView, DraftView}
use Rattle.ks_plan.specs.Plan.{Kind, Known, is_stream, wiring_of, known_of, learn, known_from, known_at, known_nodes, node_number, topic_number, plan_of}
use Rattle.ks_plan.specs.Plan.Kind.{StreamSource, TableSource, StreamFilter, TableFilter, StreamMap, TableMap, KeySelected, StreamAggregate, TableAggregate, Windowed, KeyJoin, ForeignKeyJoin}
use Rattle.ks_plan.specs.Layout.{at, wired_parts, node_parts}
use Rattle.ks_plan.specs.Faults.{Line, first_fitting, first_of, has_name, names_of, names_of_topics, inputs_in, topics_in, unknown_lines, node_table, nodes_fault, size_lines, print_fault}
use Rattle.ks_law_topology.specs.WellFormed.{IsWellFormed}
use Rattle.ks_def_tasks.proofs.Same.{bytes-is}
use Rattle.ks_law_settled.specs.Jobs.{NodesHaveParts}
use Rattle.ks_law_settled.proofs.Printed.{none_of, not_first, of_not, map-append, map_length, number_within}

-- ---- lists that grow at their end
at_first : (xs ys : List ℕ) (i : ℕ) → i < length xs → at (xs ++ ys) i ≡ at xs i
at_first [] ys i lt = absurd (omega (arith, lt))
at_first (x ∷ xs) ys zero lt = refl
at_first (x ∷ xs) ys (suc i) lt = at_first xs ys i (omega (arith, lt))

at_last : (xs : List ℕ) (y : ℕ) → at (xs ++ y ∷ []) (length xs) ≡ y
at_last [] y = refl
at_last (x ∷ xs) y = at_last xs y

pub group_none : (gs : List (List Line)) → first_of gs ≡ None → (i : ℕ) → first_fitting (get_or gs i []) ≡ None
group_none [] e i = refl
group_none (g ∷ gs) e zero = (none_of (first_fitting g) (first_of gs) e).0
group_none (g ∷ gs) e (suc i) = group_none gs (none_of (first_fitting g) (first_of gs) e).1 i

-- ---- numbers of topics
number_most : (ts : Topics) (t : Name) → topic_number ts t ≤ length ts
number_most [] t = omega arith
number_most (x ∷ xs) t = by (is_lt (slice_cmp nat_cmp x.0 t)) (number_most xs t)
  where
    by : (b : Bool) → topic_number xs t ≤ length xs → cond b (suc (topic_number xs t)) (topic_number xs t) ≤ suc (length xs)
    by true e = omega (arith, e)
    by false e = omega (arith, e)

topic_within : (ts : Topics) (t : Name) → has_name (names_of_topics ts) t ≡ true → topic_number ts t < length ts
topic_within [] t e = cc
topic_within (x ∷ xs) t e = by (same_bytes x.0 t) refl e (λ f. topic_within xs t f)
  where
    by : (b : Bool) → same_bytes x.0 t ≡ b → (b || has_name (names_of_topics xs) t) ≡ true → (has_name (names_of_topics xs) t ≡ true → topic_number xs t < length xs) →
        cond (is_lt (slice_cmp nat_cmp x.0 t)) (suc (topic_number xs t)) (topic_number xs t) < suc (length xs)
    by true f e more =
        let is : x.0 ≡ t = bytes-is x.0 t f in
        let none : is_lt (slice_cmp nat_cmp x.0 t) ≡ false = ap (λ y. is_lt (slice_cmp nat_cmp y t)) is ∙ ap is_lt (tied_itself nat_list_cmp_total t) in
        let le = number_most xs t in
        subst (λ b. cond b (suc (topic_number xs t)) (topic_number xs t) < suc (length xs)) (sym none) (omega (arith, le))
    by false f e more = next (is_lt (slice_cmp nat_cmp x.0 t)) (more e)
      where
        next : (c : Bool) → topic_number xs t < length xs → cond c (suc (topic_number xs t)) (topic_number xs t) < suc (length xs)
        next true lt = omega (arith, lt)
        next false lt = omega (arith, lt)

-- ---- partitions of nodes
module _ (counts : List ℕ) where
  abbrev parts : List Known → List ℕ
  parts ks = node_parts counts (map (λ k. k.kind) ks)

  abbrev AllHave : List Known → Type 0
  AllHave ks = (i : ℕ) → i < length ks → 1 ≤ at (parts ks) i

  -- what a node's count is: of its topic, or of a node before it
  abbrev IsHad : List ℕ → Kind → Type 0
  IsHad cs k = (c : ℕ) × (wired_parts counts cs (wiring_of k) ≡ cs ++ c ∷ []) × (1 ≤ c)

  long : (cs : List ℕ) (ks : List Kind) → length (fold (λ cs k. wired_parts counts cs (wiring_of k)) cs ks) ≡ length cs + length ks
  long cs [] = omega arith
  long cs (k ∷ ks) = omega (arith, long (wired_parts counts cs (wiring_of k)) ks, one k)
    where
      more : (c : ℕ) → length (cs ++ c ∷ []) ≡ suc (length cs)
      more c = omega (arith, length-append cs (c ∷ []))

      one : (k : Kind) → length (wired_parts counts cs (wiring_of k)) ≡ suc (length cs)
      one (StreamSource t) = more _
      one (TableSource t) = more _
      one (StreamFilter f x) = more _
      one (TableFilter f x) = more _
      one (StreamMap f s) = more _
      one (TableMap f s) = more _
      one (KeySelected f x) = more _
      one (StreamAggregate f by field through) = more _
      one (TableAggregate f by field) = more _
      one (Windowed f by w through) = more _
      one (KeyJoin l r kind s) = more _
      one (ForeignKeyJoin l r fk kind s) = more _

  one_more : (ks : List Known) (k : Known) → AllHave ks → IsHad (parts ks) k.kind → AllHave (ks ++ k ∷ [])
  one_more ks k h had i lt =
      let grown : parts (ks ++ k ∷ []) ≡ parts ks ++ had.0 ∷ [] =
      ap (node_parts counts) (map-append (λ x. x.kind) ks (k ∷ [])) ∙ fold-append (λ cs k. wired_parts counts cs (wiring_of k)) [] (map (λ x. x.kind) ks) (k.kind ∷ []) ∙ had.1 in
      let size : length (parts ks) ≡ length ks = omega (arith, long [] (map (λ x. x.kind) ks), map_length (λ (x : Known). x.kind) ks) in
      subst (λ (l : List ℕ). 1 ≤ at l i) (sym grown) (⊎_elim
      (λ (less : i < length ks). subst (λ n. 1 ≤ n) (sym (at_first (parts ks) (had.0 ∷ []) i (omega (arith, less, size)))) (h i less))
      (λ (le : length ks ≤ i).
      let is : i ≡ length (parts ks) = omega (arith, le, lt, size, length-append ks (k ∷ [])) in
      subst (λ j. 1 ≤ at (parts ks ++ had.0 ∷ []) j) (sym is) (subst (λ n. 1 ≤ n) (sym (at_last (parts ks) had.0)) had.2))
      (cases_lt i (length ks)))

  of_topic : (cs : List ℕ) (t : ℕ) → 1 ≤ at counts t → IsHad cs (TableSource t)
  of_topic cs t e = (at counts t, refl, e)

  either : (cs : List ℕ) (b : Bool) (x y : Kind) → IsHad cs x → IsHad cs y → IsHad cs (cond b x y)
  either cs true x y f g = f
  either cs false x y f g = g

module _ (d : DraftView) (some : (t : ℕ) → t < length d.topics → 1 ≤ at (plan_of d).counts t) where
  abbrev counts : List ℕ
  counts = (plan_of d).counts

  one_name : (known : List Name) (f : Name) (fs : List Name) → first_fitting (unknown_lines known (f ∷ fs)) ≡ None → (has_name known f ≡ true) × (first_fitting (unknown_lines known fs) ≡ None)
  one_name known f fs e = let both = not_first (not (has_name known f), UnknownInput f) (unknown_lines known fs) e in (of_not _ both.0, both.1)

  module _ (before : List NodeView) (n : NodeView) (fine : first_of (node_table d before n) ≡ None) (have : AllHave counts (known_from d.topics before)) where
    abbrev ks : List Known
    ks = known_from d.topics before

    input_has : (f : Name) → has_name (names_of before) f ≡ true → 1 ≤ at (parts counts ks) (node_number ks f)
    input_has f e = have (node_number ks f) (number_within d before f e)

    topic_has : (t : Name) → has_name (names_of_topics d.topics) t ≡ true → 1 ≤ at counts (topic_number d.topics t)
    topic_has t e = some (topic_number d.topics t) (topic_within d.topics t e)

    this_has : (op : OpView) → first_fitting (unknown_lines (names_of_topics d.topics) (topics_in op)) ≡ None → first_fitting (unknown_lines (names_of before) (inputs_in op)) ≡ None → IsHad counts (parts counts ks) (known_of d.topics ks op).0
    this_has (StreamOf t) e g = (at counts (topic_number d.topics t), refl, topic_has t (one_name (names_of_topics d.topics) t [] e).0)
    this_has (TableOf t) e g = (at counts (topic_number d.topics t), refl, topic_has t (one_name (names_of_topics d.topics) t [] e).0)
    this_has (FilterOf f x) e g =
        let has = input_has f (one_name (names_of before) f [] g).0 in
        either counts (parts counts ks) (is_stream (known_at ks f).kind) (StreamFilter (node_number ks f) x) (TableFilter (node_number ks f) x) (at (parts counts ks) (node_number ks f), refl, has) (at (parts counts ks) (node_number ks f), refl, has)
    this_has (MapOf f s) e g =
        let has = input_has f (one_name (names_of before) f [] g).0 in
        either counts (parts counts ks) (is_stream (known_at ks f).kind) (StreamMap (node_number ks f) s) (TableMap (node_number ks f) s) (at (parts counts ks) (node_number ks f), refl, has) (at (parts counts ks) (node_number ks f), refl, has)
    this_has (KeyOf f k) e g = (at (parts counts ks) (node_number ks f), refl, input_has f (one_name (names_of before) f [] g).0)
    this_has (CountOf f by) e g =
        let has = input_has f (one_name (names_of before) f [] g).0 in
        either counts (parts counts ks) (is_stream (known_at ks f).kind) _ _ (at (parts counts ks) (node_number ks f), refl, has) (at (parts counts ks) (node_number ks f), refl, has)
    this_has (SumOf f by field) e g =
        let has = input_has f (one_name (names_of before) f [] g).0 in
        either counts (parts counts ks) (is_stream (known_at ks f).kind) _ _ (at (parts counts ks) (node_number ks f), refl, has) (at (parts counts ks) (node_number ks f), refl, has)
    this_has (WindowedOf f by size advance grace) e g = (at (parts counts ks) (node_number ks f), refl, input_has f (one_name (names_of before) f [] g).0)
    this_has (JoinOf l r kind s) e g = (at (parts counts ks) (node_number ks l), refl, input_has l (one_name (names_of before) l (r ∷ []) g).0)
    this_has (FkJoinOf l r fk kind s) e g = (at (parts counts ks) (node_number ks l), refl, input_has l (one_name (names_of before) l (r ∷ []) g).0)

    next_has : IsHad counts (parts counts ks) (known_of d.topics ks n.op).0
    next_has = this_has n.op (group_none (node_table d before n) fine 2) (group_none (node_table d before n) fine 3)

  nodes_have : (before rest : List NodeView) → nodes_fault d before rest ≡ None → AllHave counts (known_from d.topics before) → AllHave counts (known_from d.topics (before ++ rest))
  nodes_have before [] e h = subst (λ l. AllHave counts (known_from d.topics l)) (sym (append-nil before)) h
  nodes_have before (n ∷ ns) e h =
      let both = none_of (first_of (node_table d before n)) (nodes_fault d (before ++ n ∷ []) ns) e in
      let ks = known_from d.topics before in
      let k : Known = record { name = n.name; kind = (known_of d.topics ks n.op).0; rekeyed = (known_of d.topics ks n.op).1 } in
      let known : known_from d.topics (before ++ n ∷ []) ≡ ks ++ k ∷ [] = fold-append (learn d.topics) [] before (n ∷ []) in
      let next : AllHave counts (known_from d.topics (before ++ n ∷ [])) = subst (AllHave counts) (sym known) (one_more counts ks k h (next_has before n both.0 h)) in
      subst (λ l. AllHave counts (known_from d.topics l)) (append_assoc before (n ∷ []) ns) (nodes_have (before ++ n ∷ []) ns both.1 next)

  pub have_parts : IsWellFormed d → NodesHaveParts (plan_of d)
  have_parts well n lt =
      let rest = (none_of (first_fitting (size_lines d)) _ well).1 in
      let nodes = (none_of (nodes_fault d [] d.nodes) (print_fault d [] d.print) rest).0 in
      nodes_have [] d.nodes nodes (λ i lt. absurd (omega (arith, lt))) n (omega (arith, lt, map_length (λ (k : Known). k.kind) (known_nodes d)))
