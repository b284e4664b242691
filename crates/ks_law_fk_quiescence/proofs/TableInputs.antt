-- The inputs of tables are tables, in the plan of every well-formed draft.
use Rattle.std.proofs.Common.{◌≡◌, ℕ, zero, suc, Bool, true, false, cond, not, ◌&&◌, List, [], ◌∷◌, ◌++◌, map, get_or, Option, None, Some, refl, sym, ap, ap₂, subst, ◌∙◌, append_assoc, append-nil}
use Rattle.std.specs.Option.{option_or}
use Rattle.std.proofs.lemmas.List.Sums.{fold-append}
use Rattle.ks_plan.specs.declared.fault.TopoFault.TheVariants.{SinkOnly, WrongKind}
use Rattle.ks_plan.specs.Drafts.{Name, OpView, StreamOf, TableOf, FilterOf, MapOf, KeyOf, CountOf, SumOf, WindowedOf, JoinOf, FkJoinOf, NodeView, DraftView}
use Rattle.ks_plan.specs.Plan.{Kind, Known, is_stream, is_windowed, known_of, learn, known_from, known_at, node_number, plan_of, nothing_known}
use Rattle.ks_plan.specs.Plan.Kind.{StreamFilter, TableFilter, StreamMap, TableMap, TableAggregate, KeyJoin, ForeignKeyJoin}
use Rattle.ks_plan.specs.Layout.{no_kind}
use Rattle.ks_plan.specs.Faults.{Line, first_fitting, first_of, inputs_in, node_table, nodes_fault, sink_lines, kind_lines, size_lines, print_fault, parts_fault, wrong_kind, wiring_in}
use Rattle.ks_law_topology.specs.WellFormed.{IsWellFormed}
use Rattle.ks_law_fk_quiescence.specs.AtRest.{is_table}

abbrev pub is_table_at : List Kind → ℕ → Bool
is_table_at ks n = is_table (get_or ks n no_kind)

abbrev pub TableInputs : List Kind → Kind → Type 0
TableInputs ks (TableFilter f x) = is_table_at ks f ≡ true
TableInputs ks (TableMap f s) = is_table_at ks f ≡ true
TableInputs ks (TableAggregate f by field) = is_table_at ks f ≡ true
TableInputs ks (KeyJoin l r kind s) = (is_table_at ks l ≡ true) × (is_table_at ks r ≡ true)
TableInputs ks (ForeignKeyJoin l r fk kind s) = (is_table_at ks l ≡ true) × (is_table_at ks r ≡ true)
TableInputs ks k = Unit {0}

abbrev pub EachInputs : List Kind → List Kind → Type 0
EachInputs before [] = Unit {0}
EachInputs before (k ∷ ks) = TableInputs before k × EachInputs (before ++ k ∷ []) ks

inputs_push : (b xs : List Kind) (k : Kind) → EachInputs b xs → TableInputs (b ++ xs) k → EachInputs b (xs ++ k ∷ [])
inputs_push b [] k h n = (subst (λ l. TableInputs l k) (append-nil b) n, tt)
inputs_push b (x ∷ xs) k h n = (h.0, inputs_push (b ++ x ∷ []) xs k h.1 (subst (λ l. TableInputs l k) (sym (append_assoc b (x ∷ []) xs)) n))

-- ---- lines that don't fit
none_of : {A : Type 0} (x y : Option A) → option_or x y ≡ None → (x ≡ None) × (y ≡ None)
none_of None y e = (refl, e)
none_of (Some x) y e = cc

not_first : (x : Line) (xs : List Line) → first_fitting (x ∷ xs) ≡ None → (x.0 ≡ false) × (first_fitting xs ≡ None)
not_first (true, f) xs e = cc
not_first (false, f) xs e = (refl, e)

group_none : (gs : List (List Line)) → first_of gs ≡ None → (i : ℕ) → first_fitting (get_or gs i []) ≡ None
group_none [] e i = refl
group_none (g ∷ gs) e zero = (none_of (first_fitting g) (first_of gs) e).0
group_none (g ∷ gs) e (suc i) = group_none gs (none_of (first_fitting g) (first_of gs) e).1 i

abbrev kinds_of : List Known → List Kind
kinds_of ks = map (λ k. k.kind) ks

kind_of_known : (ks : List Known) (n : ℕ) → get_or (kinds_of ks) n no_kind ≡ (get_or ks n nothing_known).kind
kind_of_known [] n = refl
kind_of_known (k ∷ ks) zero = refl
kind_of_known (k ∷ ks) (suc n) = kind_of_known ks n

kinds_append : (xs ys : List Known) → kinds_of (xs ++ ys) ≡ kinds_of xs ++ kinds_of ys
kinds_append [] ys = refl
kinds_append (x ∷ xs) ys = ap (λ l. x.kind ∷ l) (kinds_append xs ys)

neither : (k : Kind) → is_stream k ≡ false → is_windowed k ≡ false → is_table k ≡ true
neither k e f = ap₂ (λ b c. not b && not c) e f

module _ (d : DraftView) where
  module _ (before : List NodeView) (n : NodeView) (fine : first_of (node_table d before n) ≡ None) where
    abbrev ks : List Known
    ks = known_from d.topics before

    sinks : first_fitting (sink_lines ks n) ≡ None
    sinks = group_none (node_table d before n) fine 5

    kinds : first_fitting (kind_lines ks n) ≡ None
    kinds = group_none (node_table d before n) fine 6

    table_there : (f : Name) → is_stream (known_at ks f).kind ≡ false → is_windowed (known_at ks f).kind ≡ false → is_table_at (kinds_of ks) (node_number ks f) ≡ true
    table_there f e w = ap is_table (kind_of_known ks (node_number ks f)) ∙ neither (known_at ks f).kind e w

    -- one input
    of_stream : (f : Name) (x y : Kind) → is_windowed (known_at ks f).kind ≡ false → TableInputs (kinds_of ks) x → (is_table_at (kinds_of ks) (node_number ks f) ≡ true → TableInputs (kinds_of ks) y) → TableInputs (kinds_of ks) (cond (is_stream (known_at ks f).kind) x y)
    of_stream f x y w stream table = elim (is_stream (known_at ks f).kind) as (λ b. is_stream (known_at ks f).kind ≡ b → TableInputs (kinds_of ks) (cond b x y)) [
      | true ↦ λ b. stream
      | false ↦ λ b. table (table_there f b w)
    ] refl

    -- two inputs
    of_sides : (l r : Name) → first_fitting (map (λ i. (is_windowed (known_at ks i).kind, SinkOnly n.name)) (l ∷ r ∷ [])) ≡ None → first_fitting (map (λ i. (is_stream (known_at ks i).kind, WrongKind n.name)) (l ∷ r ∷ [])) ≡ None →
        (is_table_at (kinds_of ks) (node_number ks l) ≡ true) × (is_table_at (kinds_of ks) (node_number ks r) ≡ true)
    of_sides l r w s =
        let left = not_first (is_windowed (known_at ks l).kind, SinkOnly n.name) ((is_windowed (known_at ks r).kind, SinkOnly n.name) ∷ []) w in
        let right = not_first (is_windowed (known_at ks r).kind, SinkOnly n.name) [] left.1 in
        let one = not_first (is_stream (known_at ks l).kind, WrongKind n.name) ((is_stream (known_at ks r).kind, WrongKind n.name) ∷ []) s in
        let two = not_first (is_stream (known_at ks r).kind, WrongKind n.name) [] one.1 in
        (table_there l one.0 left.0, table_there r two.0 right.0)

    inputs_of_op : (op : OpView) → first_fitting (map (λ i. (is_windowed (known_at ks i).kind, SinkOnly n.name)) (inputs_in op)) ≡ None → first_fitting (map (λ i. (wrong_kind op (wiring_in ks i), WrongKind n.name)) (inputs_in op)) ≡ None →
        TableInputs (kinds_of ks) (known_of d.topics ks op).0
    inputs_of_op (StreamOf t) w s = tt
    inputs_of_op (TableOf t) w s = tt
    inputs_of_op (FilterOf f x) w s = of_stream f (StreamFilter (node_number ks f) x) (TableFilter (node_number ks f) x) (not_first (is_windowed (known_at ks f).kind, SinkOnly n.name) [] w).0 tt (λ e. e)
    inputs_of_op (MapOf f x) w s = of_stream f (StreamMap (node_number ks f) x) (TableMap (node_number ks f) x) (not_first (is_windowed (known_at ks f).kind, SinkOnly n.name) [] w).0 tt (λ e. e)
    inputs_of_op (KeyOf f k) w s = tt
    inputs_of_op (CountOf f by) w s = of_stream f _ _ (not_first (is_windowed (known_at ks f).kind, SinkOnly n.name) [] w).0 tt (λ e. e)
    inputs_of_op (SumOf f by field) w s = of_stream f _ _ (not_first (is_windowed (known_at ks f).kind, SinkOnly n.name) [] w).0 tt (λ e. e)
    inputs_of_op (WindowedOf f by size advance grace) w s = tt
    inputs_of_op (JoinOf l r kind x) w s = of_sides l r w s
    inputs_of_op (FkJoinOf l r fk kind x) w s = of_sides l r w s

    one_more : EachInputs [] (kinds_of ks) → EachInputs [] (kinds_of (known_from d.topics (before ++ n ∷ [])))
    one_more h =
        let k : Known = record { name = n.name; kind = (known_of d.topics ks n.op).0; rekeyed = (known_of d.topics ks n.op).1 } in
        let known : known_from d.topics (before ++ n ∷ []) ≡ ks ++ k ∷ [] = fold-append (learn d.topics) [] before (n ∷ []) in
        subst (EachInputs []) (sym (ap kinds_of known ∙ kinds_append ks (k ∷ []))) (inputs_push [] (kinds_of ks) k.kind h (inputs_of_op n.op sinks kinds))

  all_inputs : (before rest : List NodeView) → nodes_fault d before rest ≡ None → EachInputs [] (kinds_of (known_from d.topics before)) → EachInputs [] (kinds_of (known_from d.topics (before ++ rest)))
  all_inputs before [] e h = subst (λ l. EachInputs [] (kinds_of (known_from d.topics l))) (sym (append-nil before)) h
  all_inputs before (n ∷ ns) e h =
      let both = none_of (first_of (node_table d before n)) (nodes_fault d (before ++ n ∷ []) ns) e in
      subst (λ l. EachInputs [] (kinds_of (known_from d.topics l))) (append_assoc before (n ∷ []) ns) (all_inputs (before ++ n ∷ []) ns both.1 (one_more before n both.0 h))

  pub table_inputs : IsWellFormed d → EachInputs [] (plan_of d).kinds
  table_inputs e =
      let rest = (none_of (first_fitting (size_lines d)) (parts_fault d) e).1 in
      all_inputs [] d.nodes (none_of (nodes_fault d [] d.nodes) (print_fault d [] d.print) rest).0 tt
