-- Of each node of a topology: its changelog, and the left side of a join on a foreign key.
use Rattle.std.proofs.Common.{◌≡◌, ℕ, zero, suc, ◌+◌, ◌<◌, ◌≤◌, Bool, true, false, not, cond, ◌&&◌, List, [], ◌∷◌, ◌++◌, length, map, drop, get_or, slice_get, Option, Some, None, refl, sym, ap, ap₂, subst, ◌∙◌, arith, add-one, append_assoc}
use Rattle.std.specs.Prelude.{slice_index, option_map}
use Rattle.std.specs.Option.{option_or}
use Rattle.std.proofs.lemmas.Bool.{and_parts, true≢false}
use Rattle.std.proofs.lemmas.List.{length-map}
use Rattle.std.proofs.lemmas.Option.{slice_get_within, get_or_from_slice_get}
use Rattle.ks_record.specs.Records.{Record as Rec}
use Rattle.ks_expr.specs.declared.terms.JoinKind.{JoinKind}
use Rattle.ks_expr.specs.Terms.{Set}
use Rattle.ks_expr.specs.Eval.{Row}
use Rattle.ks_expr.specs.declared.terms.Fk.{Fk}
use Rattle.ks_plan.specs.declared.node.Node.{Node}
use Rattle.ks_plan.specs.declared.node.Topic.TheVariants.{Changelog}
use Rattle.ks_plan.specs.Drafts.{Name, NodeView, DraftView, op_view}
use Rattle.ks_plan.specs.Plan.{Plan, Kind, wiring_of, is_stream, is_windowed, plan_of}
use Rattle.ks_plan.specs.Plan.Kind.{StreamSource, TableSource, StreamFilter, TableFilter, StreamMap, TableMap, KeySelected, StreamAggregate, TableAggregate, Windowed, KeyJoin, ForeignKeyJoin}
use Rattle.ks_plan.specs.Layout.{up_to, topics_of, number_of, parts_of, parts_of_topic, kind_at, no_kind}
use Rattle.ks_plan.specs.Infos.{NodePlace, node_place, place_in, built_view, name_at}
use Rattle.ks_history.specs.State.{State, Setup, IsPart}
use Rattle.ks_history.specs.Reads.{decided_records}
use Rattle.ks_law_topology.proofs.Fits.{each_at, node_stands}
use Rattle.ks_law_topology.proofs.WellFormed.{well_formed_fits}
use Rattle.ks_law_fk_quiescence.proofs.TableInputs.{is_table_at, TableInputs, EachInputs, table_inputs}
use Rattle.ks_law_settled.specs.Folded as folded
use Rattle.ks_law_settled.specs.Collision.{OffsetPair, NodePair, row_by, same_keys, rows_collide, collide, earlier, pair_at, first_from, first_in, in_parts, of_node, of_nodes, first_pair}
use Rattle.ks_settle.specs.Rows as rows
use Rattle.ks_settle.specs.Rows.{part_in}
use Rattle.ks_settle.specs.declared.rows.StoredForm.{StoredForm}
use Rattle.ks_settle.proofs.Named.{Shows, kind_reads, log_found, kinds_all, get_over, place_there, get_mapped}
use Rattle.ks_settle_report.specs.Hashed.{kind_as, pair_of}
use Rattle.ks_settle_report.specs.declared.pairs.Collision.{Collision}
use Rattle.ks_settle_report.proofs.SpelledRows as spelled
use Rattle.ks_settle_report.specs.Partitions.{first_of}
use Rattle.ks_settle_report.specs.Joins.{left_in, IsAt, HasChangelog, named, join_pair}
use Rattle.ks_settle_report.specs.declared.joins.JoinCollision.{JoinCollision}

-- ---- kinds whose rows are read alike have the same collisions
module _ (hash : Row → ℕ) (a b : Kind) (same : (bytes : List ℕ) → folded.row_from a bytes ≡ folded.row_from b bytes) where
  rows_same : (o : Option (List ℕ)) → row_by a o ≡ row_by b o
  rows_same None = refl
  rows_same (Some bytes) = same bytes

  collide_same : (x y : Rec) → collide hash a x y ≡ collide hash b x y
  collide_same x y = ap₂ (λ (v w : Option Row). same_keys x.key y.key && rows_collide hash v w) (rows_same x.value) (rows_same y.value)

  earlier_same : (r : Rec) (xs : List (ℕ × Rec)) → earlier hash a r xs ≡ earlier hash b r xs
  earlier_same r [] = refl
  earlier_same r (x ∷ xs) = ap₂ (λ c o. cond c (Some x.0) o) (collide_same x.1 r) (earlier_same r xs)

  from_same : (before xs : List (ℕ × Rec)) → first_from hash a before xs ≡ first_from hash b before xs
  from_same before [] = refl
  from_same before (x ∷ xs) = ap₂ (λ o p. option_or (pair_at x o) p) (earlier_same x.1 before) (from_same (before ++ x ∷ []) xs)

  -- so have a changelog's partitions
  parts_same : (p : Plan) (s : State) (l topic : ℕ) (parts : List ℕ) → kind_at p l ≡ b → topic ≡ number_of p (Changelog l) → first_of hash a s topic parts ≡ in_parts hash p s l parts
  parts_same p s l topic [] is number = refl
  parts_same p s l topic (part ∷ parts) is number =
      ap₂ option_or
      (from_same [] (decided_records s (part_in topic part))
      ∙ ap₂ (λ (k : Kind) (t : ℕ). first_in hash k (decided_records s (part_in t part))) (sym is) number)
      (parts_same p s l topic parts is number)

-- ---- the node at a place
pub inside : (d : DraftView) (nodes : List Node) (i : ℕ) → Shows d nodes → i < length (plan_of d).kinds → i < length nodes
inside d nodes i shows lt =
    let many : length nodes ≡ length d.nodes = sym (length-map nodes built_view) ∙ ap length shows.drafts in
    omega (arith, lt, many, kinds_all d)

pub outside : (d : DraftView) (nodes : List Node) (i : ℕ) → Shows d nodes → i < length nodes → i < length (plan_of d).kinds
outside d nodes i shows lt =
    let many : length nodes ≡ length d.nodes = sym (length-map nodes built_view) ∙ ap length shows.drafts in
    omega (arith, lt, many, kinds_all d)

pub is_at : (d : DraftView) (nodes : List Node) (i : ℕ) (node : Node) → Shows d nodes → i < length (plan_of d).kinds → node ≡ get_or nodes i node → IsAt d i node
is_at d nodes i node shows lt at =
    let within : i < length d.nodes = omega (arith, lt, kinds_all d) in
    let zero_on : 0 + i ≡ i = omega arith in
    let at_place : get_or (map node_place nodes) i (node_place node) ≡ node_place node = get_mapped node_place nodes i node ∙ ap node_place (sym at) in
    record {
      place = sym at_place ∙ ap (λ l. get_or l i (node_place node)) shows.places ∙ place_there (place_in (plan_of d)) 0 i d.nodes (node_place node) within ∙ ap (place_in (plan_of d)) zero_on;
      draft = ap (λ l. get_or l i (built_view node)) (sym shows.drafts) ∙ get_mapped built_view nodes i node ∙ ap built_view (sym at);
      within = within;
      well_formed = shows.well_formed;
    }

named_at : (xs : List NodeView) (i : ℕ) (x : NodeView) → i < length xs → get_or (map (λ (v : NodeView). v.name) xs) i [] ≡ (get_or xs i x).name
named_at [] i x lt = absurd (omega (arith, lt))
named_at (y ∷ ys) zero x lt = refl
named_at (y ∷ ys) (suc i) x lt = named_at ys i x (omega (arith, lt))

same_some : {A : Type 0} {x y : A} → Some x ≡ Some y → x ≡ y
same_some e = cc

module _ (d : DraftView) (i : ℕ) (node : Node) (at : IsAt d i node) where
  pub name_is : node.name ≡ name_at d i
  name_is = ap (λ (v : NodeView). v.name) (sym at.draft) ∙ sym (named_at d.nodes i (built_view node) at.within)

  parts_are : node.parts ≡ parts_of (plan_of d) i
  parts_are = ap (λ (x : NodePlace). x.parts) at.place

  pub has_store : HasChangelog (plan_of d) i → node.store ≡ Some (number_of (plan_of d) (Changelog i))
  has_store has = ap (λ (x : NodePlace). x.store) at.place ∙ ap (λ b. cond b None (Some (number_of (plan_of d) (Changelog i)))) has.table

  module _ (has : HasChangelog (plan_of d) i) (topic : ℕ) (store : node.store ≡ Some topic) where
    number : topic ≡ number_of (plan_of d) (Changelog i)
    number = same_some (sym store ∙ has_store has)

    there : slice_get (topics_of (plan_of d)) topic ≡ Some (Changelog i)
    there = ap (slice_get (topics_of (plan_of d))) number ∙ log_found (plan_of d) i has.within has.table

    pub is_part : (setup : Setup) → setup.counts ≡ map (parts_of_topic (plan_of d)) (topics_of (plan_of d)) → (part : ℕ) → part + 1 ≤ node.parts → IsPart setup (part_in topic part)
    is_part setup counts part lt =
        let below : topic < length (topics_of (plan_of d)) = slice_get_within (topics_of (plan_of d)) topic (Changelog i) there in
        let count : slice_index (map (parts_of_topic (plan_of d)) (topics_of (plan_of d))) topic ≡ node.parts =
        get_or_from_slice_get (map (parts_of_topic (plan_of d)) (topics_of (plan_of d))) topic (parts_of_topic (plan_of d) (Changelog i)) 0 (get_over (parts_of_topic (plan_of d)) (topics_of (plan_of d)) topic (Changelog i) there) ∙ sym parts_are in
        record {
          topic = omega (arith, below, ap length counts, length-map (topics_of (plan_of d)) (parts_of_topic (plan_of d)));
          part = omega (arith, lt, count, ap (λ l. slice_index l topic) counts);
        }

    pub first_is : (hash : Row → ℕ) (s : State) (shown : StoredForm) → ((bytes : List ℕ) → rows.row_by (rows.op_as shown) bytes ≡ rows.row_by (op_view node.op) bytes) →
        first_of hash (kind_as shown) s topic (up_to node.parts) ≡ in_parts hash (plan_of d) s i (up_to (parts_of (plan_of d) i))
    first_is hash s shown by_op =
        parts_same hash (kind_as shown) (kind_at (plan_of d) i)
        (λ bytes. spelled.kind_reads shown bytes ∙ by_op bytes ∙ sym (kind_reads d i (built_view node) bytes at.within ∙ ap (λ (x : NodeView). rows.row_by x.op bytes) at.draft))
        (plan_of d) s i topic (up_to node.parts) refl number
        ∙ ap (λ c. in_parts hash (plan_of d) s i (up_to c)) parts_are

-- ---- joins on a foreign key
record IsJoin (k : Kind) (l : ℕ) : Type 0 where
  right : ℕ
  fk : Fk
  kind : JoinKind
  set : Set
  is : k ≡ ForeignKeyJoin l right fk kind set

is_join : (k : Kind) (l : ℕ) → left_in (wiring_of k) ≡ Some l → IsJoin k l
is_join (StreamSource t) l e = cc
is_join (TableSource t) l e = cc
is_join (StreamFilter f x) l e = cc
is_join (TableFilter f x) l e = cc
is_join (StreamMap f s) l e = cc
is_join (TableMap f s) l e = cc
is_join (KeySelected f x) l e = cc
is_join (StreamAggregate f by field through) l e = cc
is_join (TableAggregate f by field) l e = cc
is_join (Windowed f by w through) l e = cc
is_join (KeyJoin m r kind s) l e = cc
is_join (ForeignKeyJoin m r fk kind s) l e = record { right = r; fk = fk; kind = kind; set = s; is = ap (λ j. ForeignKeyJoin j r fk kind s) (same_some e) }

none_without : (hash : Row → ℕ) (p : Plan) (s : State) (n : ℕ) (k : Kind) → left_in (wiring_of k) ≡ None → of_node hash p s n k ≡ None
none_without hash p s n (StreamSource t) e = refl
none_without hash p s n (TableSource t) e = refl
none_without hash p s n (StreamFilter f x) e = refl
none_without hash p s n (TableFilter f x) e = refl
none_without hash p s n (StreamMap f x) e = refl
none_without hash p s n (TableMap f x) e = refl
none_without hash p s n (KeySelected f x) e = refl
none_without hash p s n (StreamAggregate f by field through) e = refl
none_without hash p s n (TableAggregate f by field) e = refl
none_without hash p s n (Windowed f by w through) e = refl
none_without hash p s n (KeyJoin l r kind x) e = refl
none_without hash p s n (ForeignKeyJoin l r fk kind x) e = cc

kind_there : (ks : List Kind) (i : ℕ) → i < length ks → slice_get ks i ≡ Some (get_or ks i no_kind)
kind_there [] i lt = absurd (omega (arith, lt))
kind_there (k ∷ ks) zero lt = refl
kind_there (k ∷ ks) (suc i) lt = kind_there ks i (omega (arith, lt))

table_before : (xs ys : List Kind) (l : ℕ) → is_table_at xs l ≡ true → is_table_at (xs ++ ys) l ≡ true
table_before [] ys l e = absurd (true≢false (sym e))
table_before (x ∷ xs) ys zero e = e
table_before (x ∷ xs) ys (suc l) e = table_before xs ys l e

left_among : (before ks : List Kind) → EachInputs before ks → (n l r : ℕ) (fk : Fk) (kind : JoinKind) (set : Set) → slice_get ks n ≡ Some (ForeignKeyJoin l r fk kind set) → is_table_at (before ++ ks) l ≡ true
left_among before [] h n l r fk kind set e = cc
left_among before (k ∷ ks) h zero l r fk kind set e =
    let is : k ≡ ForeignKeyJoin l r fk kind set = same_some e in
    let left : is_table_at before l ≡ true = (subst (TableInputs before) is h.0).0 in
    table_before before (k ∷ ks) l left
left_among before (k ∷ ks) h (suc n) l r fk kind set e = subst (λ xs. is_table_at xs l ≡ true) (append_assoc before (k ∷ []) ks) (left_among (before ++ k ∷ []) ks h.1 n l r fk kind set e)

abbrev numbered : ℕ → OffsetPair → NodePair
numbered n pair = record { node = n; pair = pair }

abbrev with_name : Name → OffsetPair → Name × OffsetPair
with_name name pair = (name, pair)

turned : (d : DraftView) (i : ℕ) (o : Option OffsetPair) → option_map (with_name (name_at d i)) o ≡ option_map (named d) (option_map (numbered i) o)
turned d i None = refl
turned d i (Some pair) = refl

of_not : (b : Bool) → not b ≡ true → b ≡ false
of_not false e = refl
of_not true e = cc

module _ (d : DraftView) (i : ℕ) (within : i < length (plan_of d).kinds) (node : Node) (at : IsAt d i node) where
  wired : node.wiring ≡ wiring_of (kind_at (plan_of d) i)
  wired = ap (λ (x : NodePlace). x.wiring) at.place

  pub left_has : (l : ℕ) → Some l ≡ left_in node.wiring → HasChangelog (plan_of d) l
  left_has l left =
      let join : IsJoin (kind_at (plan_of d) i) l = is_join (kind_at (plan_of d) i) l (sym (left ∙ ap left_in wired)) in
      let here : slice_get (plan_of d).kinds i ≡ Some (ForeignKeyJoin l join.right join.fk join.kind join.set) = kind_there (plan_of d).kinds i within ∙ ap (λ (x : Kind). Some x) join.is in
      let fits = each_at (plan_of d) 0 (plan_of d).kinds i (ForeignKeyJoin l join.right join.fk join.kind join.set) (well_formed_fits d at.well_formed) (node_stands (plan_of d) i (ForeignKeyJoin l join.right join.fk join.kind join.set) here) in
      record {
        within = omega (arith, within, fits.0.before);
        table = of_not (is_stream (kind_at (plan_of d) l)) (and_parts (not (is_stream (kind_at (plan_of d) l))) (not (is_windowed (kind_at (plan_of d) l))) (left_among [] (plan_of d).kinds (table_inputs d at.well_formed) i l join.right join.fk join.kind join.set here)).0;
      }

  module _ (hash : Row → ℕ) (s : State) where
    pub no_join : None ≡ left_in node.wiring → None ≡ option_map (named d) (of_node hash (plan_of d) s i (kind_at (plan_of d) i))
    no_join left = sym (ap (option_map (named d)) (none_without hash (plan_of d) s i (kind_at (plan_of d) i) (sym (left ∙ ap left_in wired))))

    found_in : (l : ℕ) → Some l ≡ left_in node.wiring → (o : Option OffsetPair) → o ≡ in_parts hash (plan_of d) s l (up_to (parts_of (plan_of d) l)) →
        option_map (with_name (name_at d i)) o ≡ option_map (named d) (of_node hash (plan_of d) s i (kind_at (plan_of d) i))
    found_in l left o is =
        let join : IsJoin (kind_at (plan_of d) i) l = is_join (kind_at (plan_of d) i) l (sym (left ∙ ap left_in wired)) in
        turned d i o
        ∙ ap (λ (x : Option OffsetPair). option_map (named d) (option_map (numbered i) x)) is
        ∙ ap (λ (k : Kind). option_map (named d) (of_node hash (plan_of d) s i k)) (sym join.is)

    pub none_found : (l : ℕ) → Some l ≡ left_in node.wiring → None ≡ in_parts hash (plan_of d) s l (up_to (parts_of (plan_of d) l)) → None ≡ option_map (named d) (of_node hash (plan_of d) s i (kind_at (plan_of d) i))
    none_found l left is = found_in l left None is

    pub one_found : (l : ℕ) → Some l ≡ left_in node.wiring → (name : Name) (c : Collision) → name ≡ node.name → Some (pair_of c) ≡ in_parts hash (plan_of d) s l (up_to (parts_of (plan_of d) l)) →
        Some (with_name name (pair_of c)) ≡ option_map (named d) (of_node hash (plan_of d) s i (kind_at (plan_of d) i))
    one_found l left name c same is = ap (λ (x : Name). Some (with_name x (pair_of c))) (same ∙ name_is d i node at) ∙ found_in l left (Some (pair_of c)) is

-- ---- over the nodes
module _ (hash : Row → ℕ) (p : Plan) (s : State) where
  from_here : (n i : ℕ) (ks : List Kind) → i < length ks → of_nodes hash p s n (drop i ks) ≡ option_or (of_node hash p s n (get_or ks i no_kind)) (of_nodes hash p s (suc n) (drop (suc i) ks))
  from_here n i [] lt = absurd (omega (arith, lt))
  from_here n zero (k ∷ ks) lt = refl
  from_here n (suc i) (k ∷ ks) lt = from_here n i ks (omega (arith, lt))

  none_left : (n i : ℕ) (ks : List Kind) → length ks ≤ i → of_nodes hash p s n (drop i ks) ≡ None
  none_left n zero [] le = refl
  none_left n (suc i) [] le = refl
  none_left n zero (k ∷ ks) le = absurd (omega (arith, le))
  none_left n (suc i) (k ∷ ks) le = none_left n i ks (omega (arith, le))

-- what the nodes from this one on have is the whole answer
abbrev pub IsLeft : (Row → ℕ) → DraftView → State → ℕ → Type 0
IsLeft hash d s i = of_nodes hash (plan_of d) s i (drop i (plan_of d).kinds) ≡ first_pair hash (plan_of d) s

some_first : (g : NodePair → Name × OffsetPair) (a rest all : Option NodePair) (x : Name × OffsetPair) → Some x ≡ option_map g a → option_or a rest ≡ all → Some x ≡ option_map g all
some_first g (Some y) rest all x e h = e ∙ ap (option_map g) h
some_first g None rest all x e h = cc

none_first : (g : NodePair → Name × OffsetPair) (a rest all : Option NodePair) → None ≡ option_map g a → option_or a rest ≡ all → rest ≡ all
none_first g None rest all e h = h
none_first g (Some y) rest all e h = cc

module _ (hash : Row → ℕ) (d : DraftView) (s : State) (i : ℕ) (nodes : List Node) (shows : Shows d nodes) (left : IsLeft hash d s i) where
  abbrev rest : Option NodePair
  rest = of_nodes hash (plan_of d) s (suc i) (drop (suc i) (plan_of d).kinds)

  split : i < length nodes → option_or (of_node hash (plan_of d) s i (kind_at (plan_of d) i)) rest ≡ first_pair hash (plan_of d) s
  split lt = sym (from_here hash (plan_of d) s i i (plan_of d).kinds (outside d nodes i shows lt)) ∙ left

  pub found_now : i < length nodes → (x : JoinCollision) → Some (join_pair x) ≡ option_map (named d) (of_node hash (plan_of d) s i (kind_at (plan_of d) i)) → Some (join_pair x) ≡ option_map (named d) (first_pair hash (plan_of d) s)
  found_now lt x e = some_first (named d) (of_node hash (plan_of d) s i (kind_at (plan_of d) i)) rest (first_pair hash (plan_of d) s) (join_pair x) e (split lt)

  pub not_now : i < length nodes → None ≡ option_map (named d) (of_node hash (plan_of d) s i (kind_at (plan_of d) i)) → IsLeft hash d s (i + 1)
  not_now lt e = subst (IsLeft hash d s) (sym (add-one i)) (none_first (named d) (of_node hash (plan_of d) s i (kind_at (plan_of d) i)) rest (first_pair hash (plan_of d) s) e (split lt))

  pub never : length nodes ≤ i → None ≡ option_map (named d) (first_pair hash (plan_of d) s)
  never le =
      let many : length nodes ≡ length d.nodes = sym (length-map nodes built_view) ∙ ap length shows.drafts in
      ap (option_map (named d)) (sym (none_left hash (plan_of d) s i i (plan_of d).kinds (omega (arith, le, many, kinds_all d))) ∙ left)
