-- The nodes of a built topology are those of its plan, and each printed name is that of one.
use Rattle.std.proofs.Common.{◌≡◌, ℕ, ℤ, pos, negsuc, zero, suc, ◌+◌, ◌≤◌, Bool, true, false, cond, not, List, length, [], ◌∷◌, ◌++◌, map, fold, get_or, Option, Some, None, refl, sym, ap, ap₂, subst, ◌∙◌, arith, append_assoc, append-nil, length-append}
use Rattle.std.specs.Prelude.{◌&&◌, ◌||◌, ◌*ℤ◌, int_le, nat_le, is_some, unwrap_or, option_map, slice_get}
use Rattle.std.specs.Option.{option_or}
use Rattle.std.specs.Ordering.{is_eq, nat_cmp}
use Rattle.std.specs.declared.cmp.Ordering.{Ordering}
use Rattle.std.specs.declared.cmp.Ordering.TheVariants.{Less, Equal, Greater}
use Rattle.std.specs.Cmp.Lexicographic.{slice_cmp}
use Rattle.std.specs.FinMap.{slice_cmp-IsAntisymmetric, nat_cmp-IsAntisymmetric}
use Rattle.std.proofs.lemmas.Bool.{and_parts, and_from, leb-true, le-leb}
use Rattle.std.proofs.lemmas.List.Sums.{fold-append}
use Rattle.ks_expr.specs.Eval.{same_bytes}
use Rattle.ks_plan.specs.declared.node.Node.{Node}
use Rattle.ks_plan.specs.declared.node.Wiring.{Wiring}
use Rattle.ks_plan.specs.Drafts.{Topics, Name, OpView, StreamOf, TableOf, FilterOf, MapOf, KeyOf, CountOf, SumOf, WindowedOf, JoinOf, FkJoinOf, NodeView, DraftView}
use Rattle.ks_plan.specs.Plan.{Plan, Kind, Window, Known, plan_of, known_of, known_from, known_at, known_names, known_nodes, node_number, name_place, learn, is_stream, wiring_of, gives_stream, window_of, natural, or_number}
use Rattle.ks_plan.specs.Plan.Kind.{StreamFilter, TableFilter, StreamMap, TableMap, StreamAggregate, TableAggregate, Windowed}
use Rattle.ks_plan.specs.Layout.{kind_at, no_kind}
use Rattle.ks_plan.specs.Infos.{NodePlace, node_place, built_view, place_in, places_from, node_places}
use Rattle.ks_plan.specs.declared.fault.TopoFault.TheVariants.{UnknownInput, DuplicateName, WrongKind}
use Rattle.ks_plan.specs.Faults.{Line, wiring_in, first_fitting, first_of, has_name, names_of as view_names, node_table, nodes_fault, print_lines, printed_fault, print_fault, parts_fault, size_lines, fault_of, window_lines, is_window, is_time, is_advance, int_or}
use Rattle.ks_query.specs.declared.table.Table.{Table}
use Rattle.ks_query.specs.declared.table.TableRow.{TableRow}
use Rattle.ks_query.specs.Streams.{Input, some_of, with_some}
use Rattle.ks_query.specs.Query.{Answers, query, answer_nodes, answer_node, no_answers}
use Rattle.ks_query.specs.Printed.{rows_at, table_at, job_tables}
use Rattle.ks_oracle.specs.Nodes.{kind_from, node_kind, good, with_by}
use Rattle.ks_oracle.specs.Found.{answer_all}
use Rattle.ks_oracle.specs.Printing.{names_of, rows_for, table_for, table_named}

-- ---- names
equal_is : (o : Ordering) → is_eq o ≡ true → o ≡ Equal
equal_is Less p = absurd cc
equal_is Equal p = refl
equal_is Greater p = absurd cc

name-is : (a b : Name) → same_bytes a b ≡ true → a ≡ b
name-is a b e = slice_cmp-IsAntisymmetric nat_cmp-IsAntisymmetric a b (equal_is (slice_cmp nat_cmp a b) e)

some_is : {A : Type 0} (x y : A) → Some x ≡ Some y → x ≡ y
some_is x y e = cc

-- the node at a name's place has the name
has_it : (ns : List Node) (name : Name) (node : Node) → slice_get ns (name_place (names_of ns) name) ≡ Some node → node.name ≡ name
has_it [] name node e = absurd cc
has_it (m ∷ ns) name node e = by (same_bytes m.name name) refl (has_it ns name node) e
  where
    by : (b : Bool) → same_bytes m.name name ≡ b → (slice_get ns (name_place (names_of ns) name) ≡ Some node → node.name ≡ name) →
        slice_get (m ∷ ns) (cond b 0 (suc (name_place (names_of ns) name))) ≡ Some node → node.name ≡ name
    by true s again g = ap (λ (n : Node). n.name) (sym (some_is m node g)) ∙ name-is m.name name s
    by false s again g = again g

pub named_is : (ns : List Node) (a : Answers) (asked name : Name) (n : ℕ) (node : Node) (rows : List TableRow) → n ≡ name_place (names_of ns) asked → slice_get ns n ≡ Some node →
    name ≡ node.name → rows ≡ rows_for a node.wiring n → Some (record { name = name; rows = rows }) ≡ table_named ns a asked
named_is ns a asked name n node rows at there same is =
    let here : slice_get ns (name_place (names_of ns) asked) ≡ Some node = subst (λ m. slice_get ns m ≡ Some node) at there in
    let own : name ≡ asked = same ∙ has_it ns asked node here in
    ap₂ (λ (x : Name) (y : List TableRow). Some (record { name = x; rows = y })) own (is ∙ ap (rows_for a node.wiring) at)
    ∙ sym (ap (table_for a asked (name_place (names_of ns) asked)) here)

-- ---- no fault, line by line
none_of : {A : Type 0} (x y : Option A) → option_or x y ≡ None → (x ≡ None) × (y ≡ None)
none_of None y e = (refl, e)
none_of (Some x) y e = absurd cc

not_first : (x : Line) (xs : List Line) → first_fitting (x ∷ xs) ≡ None → x.0 ≡ false
not_first (true, f) xs e = absurd cc
not_first (false, f) xs e = refl

group_none : (gs : List (List Line)) → first_of gs ≡ None → (i : ℕ) → first_fitting (get_or gs i []) ≡ None
group_none [] e i = refl
group_none (g ∷ gs) e zero = (none_of (first_fitting g) (first_of gs) e).0
group_none (g ∷ gs) e (suc i) = group_none gs (none_of (first_fitting g) (first_of gs) e).1 i

not_false : (b : Bool) → not b ≡ false → b ≡ true
not_false true e = refl
not_false false e = absurd cc

-- ---- windows
up : (a b : ℤ) → int_le a b ≡ true → natural a ≤ natural b
up (pos m) (pos n) e = leb-true m n e
up (pos m) (negsuc n) e = absurd cc
up (negsuc m) (pos n) e = omega arith
up (negsuc m) (negsuc n) e = omega arith

or_is : (advance : Option ℤ) (size : ℤ) → natural (int_or advance size) ≡ or_number advance (natural size)
or_is None size = refl
or_is (Some z) size = refl

good_window : (size : ℤ) (advance grace : Option ℤ) → is_window size (int_or advance size) (int_or grace (pos 86400000)) ≡ true → good (window_of size advance grace) ≡ Some (window_of size advance grace)
good_window size advance grace e =
    let last = (and_parts (is_time size && is_time (int_or grace (pos 86400000))) (is_advance size (int_or advance size)) e).1 in
    let two = (and_parts (int_le (pos 1) (int_or advance size) && int_le (int_or advance size) size) (int_le size (pos 1000 *ℤ int_or advance size)) last).0 in
    let both = and_parts (int_le (pos 1) (int_or advance size)) (int_le (int_or advance size) size) two in
    let some : 1 ≤ or_number advance (natural size) = subst (λ n. 1 ≤ n) (or_is advance size) (up (pos 1) (int_or advance size) both.0) in
    let most : or_number advance (natural size) ≤ natural size = subst (λ n. n ≤ natural size) (or_is advance size) (up (int_or advance size) size both.1) in
    ap (λ b. cond b (Some (window_of size advance grace)) None) (and_from (nat_le 1 (or_number advance (natural size))) (nat_le (or_number advance (natural size)) (natural size)) (le-leb _ _ some) (le-leb _ _ most))

-- ---- a node's kind
abbrev WindowFits : OpView → Type 0
WindowFits (WindowedOf f by size advance grace) = is_window size (int_or advance size) (int_or grace (pos 86400000)) ≡ true
WindowFits _ = Unit {0}

either : (b : Bool) (op : OpView) (x y : Kind) → kind_from op (wiring_of x) ≡ Some x → kind_from op (wiring_of y) ≡ Some y → kind_from op (wiring_of (cond b x y)) ≡ Some (cond b x y)
either true op x y f g = f
either false op x y f g = g

kind_is : (ts : Topics) (ks : List Known) (op : OpView) → WindowFits op → kind_from op (wiring_of (known_of ts ks op).0) ≡ Some (known_of ts ks op).0
kind_is ts ks (StreamOf t) h = refl
kind_is ts ks (TableOf t) h = refl
kind_is ts ks (FilterOf f x) h = either (is_stream (known_at ks f).kind) (FilterOf f x) (StreamFilter (node_number ks f) x) (TableFilter (node_number ks f) x) refl refl
kind_is ts ks (MapOf f s) h = either (is_stream (known_at ks f).kind) (MapOf f s) (StreamMap (node_number ks f) s) (TableMap (node_number ks f) s) refl refl
kind_is ts ks (KeyOf f k) h = refl
kind_is ts ks (CountOf f by) h = either (is_stream (known_at ks f).kind) (CountOf f by) (StreamAggregate (node_number ks f) by None (is_some by || (known_at ks f).rekeyed)) (TableAggregate (node_number ks f) (unwrap_or by []) None) refl refl
kind_is ts ks (SumOf f by field) h = either (is_stream (known_at ks f).kind) (SumOf f by field) (StreamAggregate (node_number ks f) by (Some field) (is_some by || (known_at ks f).rekeyed)) (TableAggregate (node_number ks f) (unwrap_or by []) (Some field)) refl refl
kind_is ts ks (WindowedOf f by size advance grace) h =
    ap (λ (w : Option Window). option_map (λ (g : Option Name × Window). Windowed (node_number ks f) g.0 g.1 (is_some by || (known_at ks f).rekeyed)) (option_map (with_by by) w)) (good_window size advance grace h)
kind_is ts ks (JoinOf l r kind s) h = refl
kind_is ts ks (FkJoinOf l r fk kind s) h = refl

-- ---- the kinds of a plan, one after another
abbrev kinds_of : List Known → List Kind
kinds_of ks = map (λ (k : Known). k.kind) ks

abbrev rest_kinds : Topics → List Known → List NodeView → List Kind
rest_kinds ts ks [] = []
rest_kinds ts ks (n ∷ ns) = (known_of ts ks n.op).0 ∷ rest_kinds ts (learn ts ks n) ns

kinds-push : (ks : List Known) (k : Known) → kinds_of (ks ++ k ∷ []) ≡ kinds_of ks ++ k.kind ∷ []
kinds-push [] k = refl
kinds-push (x ∷ ks) k = ap (λ (l : List Kind). x.kind ∷ l) (kinds-push ks k)

all_kinds : (ts : Topics) (ks : List Known) (ns : List NodeView) → kinds_of (fold (learn ts) ks ns) ≡ kinds_of ks ++ rest_kinds ts ks ns
all_kinds ts ks [] = sym (append-nil (kinds_of ks))
all_kinds ts ks (n ∷ ns) =
    all_kinds ts (learn ts ks n) ns
    ∙ (ap (λ (l : List Kind). l ++ rest_kinds ts (learn ts ks n) ns) (kinds-push ks (record { name = n.name; kind = (known_of ts ks n.op).0; rekeyed = (known_of ts ks n.op).1 }))
    ∙ append_assoc (kinds_of ks) ((known_of ts ks n.op).0 ∷ []) (rest_kinds ts (learn ts ks n) ns))

get_end : (xs : List Kind) (x : Kind) (ys : List Kind) → get_or (xs ++ x ∷ ys) (length xs) no_kind ≡ x
get_end [] x ys = refl
get_end (y ∷ xs) x ys = get_end xs x ys

length_known : (ts : Topics) (ks : List Known) (ns : List NodeView) → length (kinds_of (fold (learn ts) ks ns)) ≡ length (kinds_of ks) + length ns
length_known ts ks [] = omega arith
length_known ts ks (n ∷ ns) =
    let more = length_known ts (learn ts ks n) ns in
    let one = ap (λ (l : List Kind). length l) (kinds-push ks (record { name = n.name; kind = (known_of ts ks n.op).0; rekeyed = (known_of ts ks n.op).1 })) in
    omega (arith, more, one, length-append (kinds_of ks) ((known_of ts ks n.op).0 ∷ []))

module _ (d : DraftView) where
  abbrev p : Plan
  p = plan_of d

  -- the kind of the node behind these
  kind_here : (before : List NodeView) (n : NodeView) (after : List NodeView) → d.nodes ≡ before ++ n ∷ after → kind_at p (length before) ≡ (known_of d.topics (known_from d.topics before) n.op).0
  kind_here before n after e =
      let ts = d.topics in
      let split : kinds_of (known_from ts d.nodes) ≡ kinds_of (known_from ts before) ++ rest_kinds ts (known_from ts before) (n ∷ after) =
      ap (λ (ns : List NodeView). kinds_of (known_from ts ns)) e ∙ (ap kinds_of (fold-append (learn ts) [] before (n ∷ after)) ∙ all_kinds ts (known_from ts before) (n ∷ after)) in
      let long : length before ≡ length (kinds_of (known_from ts before)) = omega (arith, length_known ts [] before) in
      ap₂ (λ (l : List Kind) (i : ℕ). get_or l i no_kind) split long ∙ get_end (kinds_of (known_from ts before)) (known_of ts (known_from ts before) n.op).0 (rest_kinds ts (learn ts (known_from ts before) n) after)

  window_fits : (before : List NodeView) (n : NodeView) → first_of (node_table d before n) ≡ None → WindowFits n.op
  window_fits before n e = by n.op (group_none (node_table d before n) e 8)
    where
      by : (op : OpView) → first_fitting (window_lines n.name op) ≡ None → WindowFits op
      by (StreamOf t) h = tt
      by (TableOf t) h = tt
      by (FilterOf f x) h = tt
      by (MapOf f s) h = tt
      by (KeyOf f k) h = tt
      by (CountOf f b) h = tt
      by (SumOf f b field) h = tt
      by (WindowedOf f b size advance grace) h = not_false _ (not_first _ [] h)
      by (JoinOf l r kind s) h = tt
      by (FkJoinOf l r fk kind s) h = tt

  head_is : (x y : NodePlace) (xs ys : List NodePlace) → x ∷ xs ≡ y ∷ ys → (x ≡ y) × (xs ≡ ys)
  head_is x y xs ys e = (cc, cc)

  kinds_are : (before : List NodeView) (ns : List Node) → d.nodes ≡ before ++ map built_view ns → map node_place ns ≡ places_from (place_in p) (length before) (map built_view ns) →
      nodes_fault d before (map built_view ns) ≡ None → map node_kind ns ≡ map (λ (k : Kind). Some k) (rest_kinds d.topics (known_from d.topics before) (map built_view ns))
  kinds_are before [] e places faults = refl
  kinds_are before (n ∷ ns) e places faults =
      let v = built_view n in
      let after = map built_view ns in
      let none = none_of (first_of (node_table d before v)) (nodes_fault d (before ++ v ∷ []) after) faults in
      let both = head_is (node_place n) (place_in p (length before)) (map node_place ns) (places_from (place_in p) (suc (length before)) after) places in
      let wiring : n.wiring ≡ wiring_of (known_of d.topics (known_from d.topics before) v.op).0 = ap (λ (x : NodePlace). x.wiring) both.0 ∙ ap wiring_of (kind_here before v after e) in
      let kind : node_kind n ≡ Some (known_of d.topics (known_from d.topics before) v.op).0 = ap (kind_from v.op) wiring ∙ kind_is d.topics (known_from d.topics before) v.op (window_fits before v none.0) in
      let long : length (before ++ v ∷ []) ≡ suc (length before) = omega (arith, length-append before (v ∷ [])) in
      let known : known_from d.topics (before ++ v ∷ []) ≡ learn d.topics (known_from d.topics before) v = fold-append (learn d.topics) [] before (v ∷ []) in
      let more = kinds_are (before ++ v ∷ []) ns (e ∙ sym (append_assoc before (v ∷ []) after)) (both.1 ∙ ap (λ i. places_from (place_in p) i after) (sym long)) none.1 in
      ap₂ (λ (x : Option Kind) (xs : List (Option Kind)). x ∷ xs) kind (more ∙ ap (λ ks. map (λ (k : Kind). Some k) (rest_kinds d.topics ks after)) known)

-- ---- the query, node by node
answers_are : (records : List Input) (a : Answers) (n : ℕ) (ks : List Kind) → answer_all records a n (map (λ (k : Kind). Some k) ks) ≡ answer_nodes records a n ks
answers_are records a n [] = refl
answers_are records a n (k ∷ ks) = answers_are records (answer_node records a n k) (suc n) ks

-- ---- printed names
wiring_at : (p : Plan) (ns : List Node) (m i : ℕ) (xs : List NodeView) (node : Node) → map node_place ns ≡ places_from (place_in p) m xs → slice_get ns i ≡ Some node → node.wiring ≡ wiring_of (kind_at p (m + i))
wiring_at p [] m i xs node e f = absurd cc
wiring_at p (n ∷ ns) m i [] node e f = absurd cc
wiring_at p (n ∷ ns) m zero (x ∷ xs) node e f =
    let head : node_place n ≡ place_in p m = cc in
    ap (λ (k : Node). k.wiring) (sym (some_is n node f)) ∙ (ap (λ (y : NodePlace). y.wiring) head ∙ ap (λ (j : ℕ). wiring_of (kind_at p j)) (omega arith))
wiring_at p (n ∷ ns) m (suc i) (x ∷ xs) node e f =
    let tail : map node_place ns ≡ places_from (place_in p) (suc m) xs = cc in
    wiring_at p ns (suc m) i xs node tail f ∙ ap (λ (j : ℕ). wiring_of (kind_at p j)) (omega arith)

view_name : (ns : List Node) → names_of ns ≡ view_names (map built_view ns)
view_name [] = refl
view_name (n ∷ ns) = ap (λ (l : List Name). n.name ∷ l) (view_name ns)

names-push : (ks : List Known) (k : Known) → known_names (ks ++ k ∷ []) ≡ known_names ks ++ k.name ∷ []
names-push [] k = refl
names-push (x ∷ ks) k = ap (λ (l : List Name). x.name ∷ l) (names-push ks k)

all_names : (ts : Topics) (ks : List Known) (ns : List NodeView) → known_names (fold (learn ts) ks ns) ≡ known_names ks ++ view_names ns
all_names ts ks [] = sym (append-nil (known_names ks))
all_names ts ks (n ∷ ns) =
    all_names ts (learn ts ks n) ns
    ∙ (ap (λ (l : List Name). l ++ view_names ns) (names-push ks (record { name = n.name; kind = (known_of ts ks n.op).0; rekeyed = (known_of ts ks n.op).1 }))
    ∙ append_assoc (known_names ks) (n.name ∷ []) (view_names ns))

there_is : (ns : List Node) (name : Name) → has_name (names_of ns) name ≡ true → (node : Node) × (slice_get ns (name_place (names_of ns) name) ≡ Some node)
there_is [] name e = absurd cc
there_is (n ∷ ns) name e = by (same_bytes n.name name) e (there_is ns name)
  where
    by : (b : Bool) → (b || has_name (names_of ns) name) ≡ true → (has_name (names_of ns) name ≡ true → (node : Node) × (slice_get ns (name_place (names_of ns) name) ≡ Some node)) →
        (node : Node) × (slice_get (n ∷ ns) (cond b 0 (suc (name_place (names_of ns) name))) ≡ Some node)
    by true e again = (n, refl)
    by false e again = again e

module _ (d : DraftView) (nodes : List Node) (places : map node_place nodes ≡ node_places d) (views : map built_view nodes ≡ d.nodes) (a : Answers) where
  one_table : (name : Name) → has_name (view_names d.nodes) name ≡ true → table_named nodes a name ≡ Some (table_at d a name)
  one_table name known =
      let names : names_of nodes ≡ view_names d.nodes = view_name nodes ∙ ap view_names views in
      let x = there_is nodes name (ap (λ (l : List Name). has_name l name) names ∙ known) in
      let n = name_place (names_of nodes) name in
      let number : n ≡ node_number (known_nodes d) name = ap (λ (l : List Name). name_place l name) (names ∙ sym (all_names d.topics [] d.nodes)) in
      let wiring : x.0.wiring ≡ wiring_of (kind_at (plan_of d) n) = wiring_at (plan_of d) nodes 0 n d.nodes x.0 places x.1 ∙ ap (λ (j : ℕ). wiring_of (kind_at (plan_of d) j)) (omega arith) in
      ap (table_for a name n) x.1
      ∙ (ap (λ (w : Wiring). Some (record { name = name; rows = rows_for a w n })) wiring
      ∙ ap (λ (j : ℕ). Some (record { name = name; rows = rows_at (plan_of d) a j })) number)

  all_tables : (before ps : List Name) → printed_fault d.topics d.nodes before ps ≡ None → some_of (table_named nodes a) ps ≡ map (table_at d a) ps
  all_tables before [] e = refl
  all_tables before (name ∷ ps) e =
      let both = none_of (first_fitting (print_lines d.topics d.nodes before name)) (printed_fault d.topics d.nodes (before ++ name ∷ []) ps) e in
      let others : List Line = (has_name before name, DuplicateName name) ∷ (gives_stream (wiring_in (known_from d.topics d.nodes) name), WrongKind name) ∷ [] in
      let known : has_name (view_names d.nodes) name ≡ true = not_false (has_name (view_names d.nodes) name) (not_first (not (has_name (view_names d.nodes) name), UnknownInput name) others both.0) in
      ap₂ (λ (o : Option Table) (ts : List Table). with_some o ts) (one_table name known) (all_tables (before ++ name ∷ []) ps both.1)

pub whole : (d : DraftView) (nodes : List Node) (records : List Input) (a : Answers) → map node_place nodes ≡ node_places d → map built_view nodes ≡ d.nodes → fault_of d ≡ None →
    a ≡ answer_all records no_answers 0 (map node_kind nodes) → some_of (table_named nodes a) d.print ≡ job_tables d records
whole d nodes records a places views faults is =
    let parts = (none_of (first_fitting (size_lines d)) (parts_fault d) faults).1 in
    let two = none_of (nodes_fault d [] d.nodes) (print_fault d [] d.print) parts in
    let own : map node_place nodes ≡ places_from (place_in (plan_of d)) 0 (map built_view nodes) = places ∙ ap (places_from (place_in (plan_of d)) 0) (sym views) in
    let kinds : map node_kind nodes ≡ map (λ (k : Kind). Some k) (rest_kinds d.topics [] (map built_view nodes)) = kinds_are d [] nodes (sym views) own (ap (nodes_fault d []) views ∙ two.0) in
    let same : rest_kinds d.topics [] (map built_view nodes) ≡ (plan_of d).kinds = ap (rest_kinds d.topics []) views ∙ sym (all_kinds d.topics [] d.nodes) in
    let asked : a ≡ query (plan_of d) records =
    is ∙ (ap (answer_all records no_answers 0) (kinds ∙ ap (λ (ks : List Kind). map (λ (k : Kind). Some k) ks) same) ∙ answers_are records no_answers 0 (plan_of d).kinds) in
    all_tables d nodes places views a [] d.print two.1 ∙ ap (λ (x : Answers). map (table_at d x) d.print) asked
