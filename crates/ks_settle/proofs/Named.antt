-- A printed name: its node, where the node's rows are kept, and how they are read.
use Rattle.std.proofs.Common.{◌≡◌, ℕ, zero, suc, ◌+◌, ◌<◌, Bool, true, false, not, cond, ◌||◌, List, [], ◌∷◌, ◌++◌, length, map, get_or, slice_get, fold, Option, Some, None, refl, sym, ap, subst, ◌∙◌, arith, length-append, ◌⊎◌, inl, inr}
use Rattle.std.specs.Prelude.{option_map, ◌==◌, nat_eq}
use Rattle.std.specs.List.{filter}
use Rattle.std.proofs.Common.{eq-eqb}
use Rattle.ks_history.specs.Machine.{has_topic}
use Rattle.ks_plan.specs.Infos.{changelog_numbers}
use Rattle.ks_plan.specs.Layout.{reads as topic_reads, sub_of}
use Rattle.std.specs.Cmp.Lexicographic.{pointwise, texts_ties, same_text}
use Rattle.std.proofs.lemmas.Bool.{true≢false}
use Rattle.std.proofs.lemmas.List.{length-map, get_or_append_left, get_or_push}
use Rattle.std.proofs.lemmas.Option.{slice_get_within, get_or_from_slice_get}
use Rattle.ks_row.specs.Reading.{row_from}
use Rattle.ks_wire.specs.Reading.{agg_from}
use Rattle.ks_wire.specs.declared.values.Agg.{Agg}
use Rattle.ks_expr.specs.Eval.{Row, same_bytes}
use Rattle.ks_plan.specs.Drafts.{Topics, Name, NodeView, DraftView, OpView, StreamOf, TableOf, FilterOf, MapOf, KeyOf, CountOf, SumOf, WindowedOf, JoinOf, FkJoinOf}
use Rattle.ks_plan.specs.declared.node.Node.{Node}
use Rattle.ks_plan.specs.declared.node.Wiring.{Wiring}
use Rattle.ks_plan.specs.declared.node.Wiring.TheVariants as wired
use Rattle.ks_plan.specs.declared.node.Topic.{Topic}
use Rattle.ks_plan.specs.declared.node.Topic.TheVariants.{Changelog}
use Rattle.ks_plan.specs.Plan.{Plan, Kind, Known, wiring_of, gives_stream, is_stream, is_windowed, known_of, learn, known_nodes, known_at, known_names, node_number, name_place, nothing_known, plan_of}
use Rattle.ks_plan.specs.Plan.Kind.{StreamFilter, TableFilter, StreamMap, TableMap, StreamAggregate, TableAggregate}
use Rattle.ks_plan.specs.Layout.{same_topic, topics_of, place_of, number_of, parts_of, parts_of_topic, kind_at, no_kind, by_node, input_topics, through_topics, changelogs_of, wired_changelogs}
use Rattle.ks_plan.specs.Infos.{NodePlace, node_place, node_places, place_in, places_from, built_view}
use Rattle.ks_plan.specs.Faults.{fault_of, has_name, names_of}
use Rattle.ks_topo_layout.proofs.Resolving.{known_names_from}
use Rattle.ks_topo.proofs.Lines.{no_line}
use Rattle.ks_query.specs.Aggregates.{agg_row}
use Rattle.ks_def_tasks.specs.Messages.{shown}
use Rattle.ks_def_tasks.specs.Messages.Stored.{OfRow, OfAgg}
use Rattle.ks_def_tasks.proofs.Names.{topic-is, topic_itself}
use Rattle.ks_law_settled.specs.Folded as folded
use Rattle.ks_settle.specs.Rows.{row_by, node_named, counts_windows, IsKept, IsPrinted}

-- ---- how a node's rows are read
plain : (o : Option Row) → option_map shown (option_map OfRow o) ≡ o
plain None = refl
plain (Some r) = refl

total : (count : Bool) (o : Option Agg) → option_map shown (option_map (OfAgg count) o) ≡ option_map (agg_row count) o
total count None = refl
total count (Some a) = refl

reads : (ts : Topics) (ks : List Known) (op : OpView) (bytes : List ℕ) → folded.row_from (known_of ts ks op).0 bytes ≡ row_by op bytes
reads ts ks (StreamOf t) bytes = plain (row_from bytes)
reads ts ks (TableOf t) bytes = plain (row_from bytes)
reads ts ks (FilterOf f p) bytes = by (is_stream (known_at ks f).kind)
  where
    by : (b : Bool) → folded.row_from (cond b (StreamFilter (node_number ks f) p) (TableFilter (node_number ks f) p)) bytes ≡ row_from bytes
    by true = plain (row_from bytes)
    by false = plain (row_from bytes)
reads ts ks (MapOf f s) bytes = by (is_stream (known_at ks f).kind)
  where
    by : (b : Bool) → folded.row_from (cond b (StreamMap (node_number ks f) s) (TableMap (node_number ks f) s)) bytes ≡ row_from bytes
    by true = plain (row_from bytes)
    by false = plain (row_from bytes)
reads ts ks (KeyOf f k) bytes = plain (row_from bytes)
reads ts ks (CountOf f g) bytes = by (is_stream (known_at ks f).kind) _ _
  where
    by : (b : Bool) (through : Bool) (group : Name) → folded.row_from (cond b (StreamAggregate (node_number ks f) g None through) (TableAggregate (node_number ks f) group None)) bytes ≡ option_map (agg_row true) (agg_from bytes)
    by true through group = total true (agg_from bytes)
    by false through group = total true (agg_from bytes)
reads ts ks (SumOf f g field) bytes = by (is_stream (known_at ks f).kind) _ _
  where
    by : (b : Bool) (through : Bool) (group : Name) → folded.row_from (cond b (StreamAggregate (node_number ks f) g (Some field) through) (TableAggregate (node_number ks f) group (Some field))) bytes ≡ option_map (agg_row false) (agg_from bytes)
    by true through group = total false (agg_from bytes)
    by false through group = total false (agg_from bytes)
reads ts ks (WindowedOf f g size advance grace) bytes = plain (row_from bytes)
reads ts ks (JoinOf l r kind s) bytes = plain (row_from bytes)
reads ts ks (FkJoinOf l r fk kind s) bytes = plain (row_from bytes)

counts : (ts : Topics) (ks : List Known) (op : OpView) → is_windowed (known_of ts ks op).0 ≡ counts_windows op
counts ts ks (StreamOf t) = refl
counts ts ks (TableOf t) = refl
counts ts ks (FilterOf f p) = by (is_stream (known_at ks f).kind)
  where
    by : (b : Bool) → is_windowed (cond b (StreamFilter (node_number ks f) p) (TableFilter (node_number ks f) p)) ≡ false
    by true = refl
    by false = refl
counts ts ks (MapOf f s) = by (is_stream (known_at ks f).kind)
  where
    by : (b : Bool) → is_windowed (cond b (StreamMap (node_number ks f) s) (TableMap (node_number ks f) s)) ≡ false
    by true = refl
    by false = refl
counts ts ks (KeyOf f k) = refl
counts ts ks (CountOf f g) = by (is_stream (known_at ks f).kind) _ _
  where
    by : (b : Bool) (through : Bool) (group : Name) → is_windowed (cond b (StreamAggregate (node_number ks f) g None through) (TableAggregate (node_number ks f) group None)) ≡ false
    by true through group = refl
    by false through group = refl
counts ts ks (SumOf f g field) = by (is_stream (known_at ks f).kind) _ _
  where
    by : (b : Bool) (through : Bool) (group : Name) → is_windowed (cond b (StreamAggregate (node_number ks f) g (Some field) through) (TableAggregate (node_number ks f) group (Some field))) ≡ false
    by true through group = refl
    by false through group = refl
counts ts ks (WindowedOf f g size advance grace) = refl
counts ts ks (JoinOf l r kind s) = refl
counts ts ks (FkJoinOf l r fk kind s) = refl

-- ---- what is known of a node
learnt : Topics → List Known → NodeView → Known
learnt ts ks n = record { name = n.name; kind = (known_of ts ks n.op).0; rekeyed = (known_of ts ks n.op).1 }

longer : (ts : Topics) (ks : List Known) (n : NodeView) → length (learn ts ks n) ≡ length ks + 1
longer ts ks n = length-append ks _

stays : (ts : Topics) (ks : List Known) (ns : List NodeView) (j : ℕ) → j < length ks → get_or (fold (learn ts) ks ns) j nothing_known ≡ get_or ks j nothing_known
stays ts ks [] j h = refl
stays ts ks (n ∷ ns) j h = stays ts (learn ts ks n) ns j (omega (arith, longer ts ks n)) ∙ get_or_append_left ks _ nothing_known j h

kind_there : (ts : Topics) (ks : List Known) (ns : List NodeView) (i : ℕ) (x : NodeView) → i < length ns →
    (before : List Known) × ((get_or (fold (learn ts) ks ns) (length ks + i) nothing_known).kind ≡ (known_of ts before (get_or ns i x).op).0)
kind_there ts ks [] i x h = absurd (omega (arith, h))
kind_there ts ks (n ∷ ns) zero x h =
    let at : get_or (learn ts ks n) (length ks + 0) nothing_known ≡ record { name = n.name; kind = (known_of ts ks n.op).0; rekeyed = (known_of ts ks n.op).1 } = get_or_push ks _ nothing_known (length ks + 0) (omega arith) in
    (ks, ap (λ k. k.kind) (stays ts (learn ts ks n) ns (length ks + 0) (omega (arith, longer ts ks n)) ∙ at))
kind_there ts ks (n ∷ ns) (suc i) x h =
    let more = kind_there ts (learn ts ks n) ns i x (omega (arith, h)) in
    let place : length ks + suc i ≡ length (learn ts ks n) + i = omega (arith, longer ts ks n) in
    (more.0, ap (λ j. (get_or (fold (learn ts) (learn ts ks n) ns) j nothing_known).kind) place ∙ more.1)

kind_in : (ks : List Known) (n : ℕ) → get_or (map (λ k. k.kind) ks) n no_kind ≡ (get_or ks n nothing_known).kind
kind_in [] n = refl
kind_in (k ∷ ks) zero = refl
kind_in (k ∷ ks) (suc n) = kind_in ks n

pub kind_reads : (d : DraftView) (i : ℕ) (x : NodeView) (bytes : List ℕ) → i < length d.nodes → folded.row_from (kind_at (plan_of d) i) bytes ≡ row_by (get_or d.nodes i x).op bytes
kind_reads d i x bytes h =
    let there = kind_there d.topics [] d.nodes i x h in
    let place : i ≡ length {A = Known} [] + i = omega arith in
    ap (λ k. folded.row_from k bytes) (kind_in (known_nodes d) i ∙ ap (λ j. (get_or (known_nodes d) j nothing_known).kind) place ∙ there.1) ∙ reads d.topics there.0 (get_or d.nodes i x).op bytes

pub kind_counts : (d : DraftView) (i : ℕ) (x : NodeView) → i < length d.nodes → is_windowed (kind_at (plan_of d) i) ≡ counts_windows (get_or d.nodes i x).op
kind_counts d i x h =
    let there = kind_there d.topics [] d.nodes i x h in
    let place : i ≡ length {A = Known} [] + i = omega arith in
    ap is_windowed (kind_in (known_nodes d) i ∙ ap (λ j. (get_or (known_nodes d) j nothing_known).kind) place ∙ there.1) ∙ counts d.topics there.0 (get_or d.nodes i x).op

-- ---- the first node of a name
abbrev names_in : List Node → List Name
names_in ns = map (λ n. n.name) ns

record NodeAt (nodes : List Node) (name : Name) (node : Node) : Type 0 where
  pub within : name_place (names_in nodes) name < length nodes
  is : (d : Node) → get_or nodes (name_place (names_in nodes) name) d ≡ node
  pub named : node.name ≡ name

node_at : (nodes : List Node) (name : Name) (node : Node) → node_named nodes name ≡ Some node → NodeAt nodes name node
node_at [] name node e = cc
node_at (n ∷ ns) name node e = by (pointwise ◌==◌ n.name name) refl e (λ h. node_at ns name node h)
  where
    by : (b : Bool) → pointwise ◌==◌ n.name name ≡ b → cond b (Some n) (node_named ns name) ≡ Some node → (node_named ns name ≡ Some node → NodeAt ns name node) → NodeAt (n ∷ ns) name node
    by true t e more =
        let same : same_bytes n.name name ≡ true = sym (texts_ties n.name name) ∙ t in
        let place : name_place (names_in (n ∷ ns)) name ≡ 0 = ap (λ b. cond b 0 (suc (name_place (names_in ns) name))) same in
        let is : n ≡ node = cc in
        record {
          within = omega (arith, place);
          is = λ d. ap (λ k. get_or (n ∷ ns) k d) place ∙ is;
          named = ap (λ (x : Node). x.name) (sym is) ∙ same_text n.name name (sym t);
        }
    by false t e more =
        let m = more e in
        let other : same_bytes n.name name ≡ false = sym (texts_ties n.name name) ∙ t in
        let place : name_place (names_in (n ∷ ns)) name ≡ suc (name_place (names_in ns) name) = ap (λ b. cond b 0 (suc (name_place (names_in ns) name))) other in
        record {
          within = omega (arith, place, m.within);
          is = λ d. ap (λ k. get_or (n ∷ ns) k d) place ∙ m.is d;
          named = m.named;
        }

pub node_nowhere : (nodes : List Node) (name : Name) → node_named nodes name ≡ None → name_place (names_in nodes) name ≡ length nodes
node_nowhere [] name e = refl
node_nowhere (n ∷ ns) name e = by (pointwise ◌==◌ n.name name) refl e (λ f. node_nowhere ns name f)
  where
    by : (b : Bool) → pointwise ◌==◌ n.name name ≡ b → cond b (Some n) (node_named ns name) ≡ None → (node_named ns name ≡ None → name_place (names_in ns) name ≡ length ns) → name_place (names_in (n ∷ ns)) name ≡ length (n ∷ ns)
    by true t e more = absurd (cc)
    by false t e more =
        let other : same_bytes n.name name ≡ false = sym (texts_ties n.name name) ∙ t in
        ap (λ b. cond b 0 (suc (name_place (names_in ns) name))) other ∙ ap suc (more e)

node_there : (nodes : List Node) (name : Name) → has_name (names_in nodes) name ≡ true → node_named nodes name ≡ None → ⊥
node_there [] name h e = true≢false (sym h)
node_there (n ∷ ns) name h e = by (pointwise ◌==◌ n.name name) refl e (λ g f. node_there ns name g f)
  where
    by : (b : Bool) → pointwise ◌==◌ n.name name ≡ b → cond b (Some n) (node_named ns name) ≡ None → (has_name (names_in ns) name ≡ true → node_named ns name ≡ None → ⊥) → ⊥
    by true t e more = absurd (cc)
    by false t e more =
        let other : same_bytes n.name name ≡ false = sym (texts_ties n.name name) ∙ t in
        more (sym (ap (λ b. b || has_name (names_in ns) name) other) ∙ h) e

-- ---- where its changelog stands
-- a topic among others
In : Topic → List Topic → Type 0
In t [] = ⊥
In t (u ∷ us) = (same_topic u t ≡ true) ⊎ In t us

in_left : (t : Topic) (xs ys : List Topic) → In t xs → In t (xs ++ ys)
unfolding In
in_left t [] ys h = absurd h
in_left t (x ∷ xs) ys (inl h) = inl h
in_left t (x ∷ xs) ys (inr h) = inr (in_left t xs ys h)

in_right : (t : Topic) (xs ys : List Topic) → In t ys → In t (xs ++ ys)
unfolding In
in_right t [] ys h = h
in_right t (x ∷ xs) ys h = inr (in_right t xs ys h)

found : (t : Topic) (us : List Topic) → In t us → slice_get us (place_of us t) ≡ Some t
unfolding In
found t [] h = absurd h
found t (u ∷ us) h = by (same_topic u t) refl h (λ g. found t us g)
  where
    by : (b : Bool) → same_topic u t ≡ b → (same_topic u t ≡ true) ⊎ In t us → (In t us → slice_get us (place_of us t) ≡ Some t) → slice_get (u ∷ us) (cond b 0 (suc (place_of us t))) ≡ Some t
    by true e h more = ap (λ (v : Topic). Some v) (topic-is u t e)
    by false e (inl g) more = absurd (true≢false (sym g ∙ e))
    by false e (inr g) more = more g

own_log : (n : ℕ) (w : Wiring) → gives_stream w ≡ false → In (Changelog n) (wired_changelogs n w)
unfolding In
own_log n (wired.StreamSource t) h = absurd (true≢false h)
own_log n (wired.TableSource t) h = inl (topic_itself (Changelog n))
own_log n (wired.StreamFilter f) h = absurd (true≢false h)
own_log n (wired.TableFilter f) h = inl (topic_itself (Changelog n))
own_log n (wired.StreamMap f) h = absurd (true≢false h)
own_log n (wired.TableMap f) h = inl (topic_itself (Changelog n))
own_log n (wired.KeySelected f) h = absurd (true≢false h)
own_log n (wired.StreamAggregate f through) h = inl (topic_itself (Changelog n))
own_log n (wired.TableAggregate f) h = inl (topic_itself (Changelog n))
own_log n (wired.Windowed f through) h = inl (topic_itself (Changelog n))
own_log n (wired.KeyJoin l r) h = inl (topic_itself (Changelog n))
own_log n (wired.ForeignKeyJoin l r) h = inl (topic_itself (Changelog n))

log_in : (m i : ℕ) (ks : List Kind) (d : Kind) → i < length ks → is_stream (get_or ks i d) ≡ false → In (Changelog (m + i)) (by_node changelogs_of m ks)
log_in m i [] d lt h = absurd (omega (arith, lt))
log_in m zero (k ∷ ks) d lt h = in_left (Changelog (m + 0)) (changelogs_of m k) (by_node changelogs_of (suc m) ks) (let e : m ≡ m + 0 = omega arith in subst (λ j. In (Changelog j) (changelogs_of m k)) e (own_log m (wiring_of k) h))
log_in m (suc i) (k ∷ ks) d lt h = in_right (Changelog (m + suc i)) (changelogs_of m k) (by_node changelogs_of (suc m) ks) (let e : suc m + i ≡ m + suc i = omega arith in subst (λ j. In (Changelog j) (by_node changelogs_of (suc m) ks)) e (log_in (suc m) i ks d (omega (arith, lt)) h))

pub log_found : (p : Plan) (n : ℕ) → n < length p.kinds → is_stream (kind_at p n) ≡ false → slice_get (topics_of p) (number_of p (Changelog n)) ≡ Some (Changelog n)
log_found p n lt h =
    let e : 0 + n ≡ n = omega arith in
    found (Changelog n) (topics_of p) (in_right (Changelog n) (input_topics p ++ by_node through_topics 0 p.kinds) (by_node changelogs_of 0 p.kinds) (subst (λ j. In (Changelog j) (by_node changelogs_of 0 p.kinds)) e (log_in 0 n p.kinds no_kind lt h)))

-- a topic of a list that passes is among the numbers of those that pass
numbered_in : (f : Topic → ℕ) (g : Topic → Bool) (t : Topic) (us : List Topic) → g t ≡ true → In t us → has_topic (f t) (map f (filter g us)) ≡ true
unfolding In
numbered_in f g t [] e h = absurd h
numbered_in f g t (u ∷ us) e (inl h) =
    let same : u ≡ t = topic-is u t h in
    ap (λ b. has_topic (f t) (map f (cond b (u ∷ filter g us) (filter g us)))) (ap g same ∙ e)
    ∙ ap (λ b. b || has_topic (f t) (map f (filter g us))) (eq-eqb (f t) (f u) (ap f (sym same)))
numbered_in f g t (u ∷ us) e (inr h) = by (g u) (numbered_in f g t us e h)
  where
    by : (b : Bool) → has_topic (f t) (map f (filter g us)) ≡ true → has_topic (f t) (map f (cond b (u ∷ filter g us) (filter g us))) ≡ true
    by true m = or (f t == f u) m
      where
        or : (c : Bool) → has_topic (f t) (map f (filter g us)) ≡ true → c || has_topic (f t) (map f (filter g us)) ≡ true
        or true n = refl
        or false n = n
    by false m = m

-- the changelog of a node is among those of its subtopology
pub own_number : (p : Plan) (n : ℕ) → n < length p.kinds → is_stream (kind_at p n) ≡ false → has_topic (number_of p (Changelog n)) (changelog_numbers p (sub_of p n)) ≡ true
own_number p n lt h =
    let e : 0 + n ≡ n = omega arith in
    numbered_in (number_of p) (λ t. nat_eq (topic_reads p t) (sub_of p n)) (Changelog n) (by_node changelogs_of 0 p.kinds) (eq-eqb (sub_of p n) (sub_of p n) refl)
    (subst (λ j. In (Changelog j) (by_node changelogs_of 0 p.kinds)) e (log_in 0 n p.kinds no_kind lt h))

pub get_over : {A B : Type 0} (f : A → B) (xs : List A) (n : ℕ) (x : A) → slice_get xs n ≡ Some x → slice_get (map f xs) n ≡ Some (f x)
get_over f [] n x e = absurd (cc)
get_over f (y ∷ xs) zero x e = let same : y ≡ x = cc in ap (λ z. Some (f z)) same
get_over f (y ∷ xs) (suc n) x e = get_over f xs n x e

-- ---- all together
pub place_there : (f : ℕ → NodePlace) (m i : ℕ) (xs : List NodeView) (d : NodePlace) → i < length xs → get_or (places_from f m xs) i d ≡ f (m + i)
place_there f m i [] d h = absurd (omega (arith, h))
place_there f m zero (x ∷ xs) d h = let e : m ≡ m + 0 = omega arith in ap f e
place_there f m (suc i) (x ∷ xs) d h = place_there f (suc m) i xs d (omega (arith, h)) ∙ (let e : suc m + i ≡ m + suc i = omega arith in ap f e)

pub get_mapped : {A B : Type 0} (f : A → B) (xs : List A) (k : ℕ) (d : A) → get_or (map f xs) k (f d) ≡ f (get_or xs k d)
get_mapped f [] k d = refl
get_mapped f (x ∷ xs) zero d = refl
get_mapped f (x ∷ xs) (suc k) d = get_mapped f xs k d

names_of_built : (ns : List Node) → names_of (map built_view ns) ≡ names_in ns
names_of_built [] = refl
names_of_built (n ∷ ns) = ap (λ l. n.name ∷ l) (names_of_built ns)

-- what a topology shows of its nodes
pub record Shows (d : DraftView) (nodes : List Node) : Type 0 where
  pub places : map node_place nodes ≡ node_places d
  pub drafts : map built_view nodes ≡ d.nodes
  pub well_formed : fault_of d ≡ None

pub record IsThere (d : DraftView) (nodes : List Node) (name : Name) (node : Node) : Type 0 where
  pub number : node_number (known_nodes d) name ≡ name_place (names_in nodes) name
  pub within : name_place (names_in nodes) name < length d.nodes
  pub place : node_place node ≡ place_in (plan_of d) (name_place (names_in nodes) name)
  pub draft : get_or d.nodes (name_place (names_in nodes) name) (built_view node) ≡ built_view node
  pub named : node.name ≡ name

pub there : (d : DraftView) (nodes : List Node) (name : Name) (node : Node) → Shows d nodes → node_named nodes name ≡ Some node → IsThere d nodes name node
there d nodes name node shows e =
    let a : NodeAt nodes name node = node_at nodes name node e in
    let n = name_place (names_in nodes) name in
    let many : length nodes ≡ length d.nodes = sym (length-map nodes built_view) ∙ ap length shows.drafts in
    let inside : n < length d.nodes = omega (arith, a.within, many) in
    let same_names : known_names (known_nodes d) ≡ names_in nodes = known_names_from d.topics d.nodes ∙ ap names_of (sym shows.drafts) ∙ names_of_built nodes in
    let at_place : get_or (map node_place nodes) n (node_place node) ≡ node_place node = get_mapped node_place nodes n node ∙ ap node_place (a.is node) in
    let zero_on : 0 + n ≡ n = omega arith in
    record {
      number = ap (λ l. name_place l name) same_names;
      within = inside;
      place = sym at_place ∙ ap (λ l. get_or l n (node_place node)) shows.places ∙ place_there (place_in (plan_of d)) 0 n d.nodes (node_place node) inside ∙ ap (place_in (plan_of d)) zero_on;
      draft = ap (λ l. get_or l n (built_view node)) (sym shows.drafts) ∙ get_mapped built_view nodes n node ∙ ap built_view (a.is node);
      named = a.named;
    }

pub number_nowhere : (d : DraftView) (nodes : List Node) (name : Name) → Shows d nodes → node_named nodes name ≡ None → node_number (known_nodes d) name ≡ length d.nodes
number_nowhere d nodes name shows e =
    let many : length nodes ≡ length d.nodes = sym (length-map nodes built_view) ∙ ap length shows.drafts in
    let same_names : known_names (known_nodes d) ≡ names_in nodes = known_names_from d.topics d.nodes ∙ ap names_of (sym shows.drafts) ∙ names_of_built nodes in
    ap (λ l. name_place l name) same_names ∙ node_nowhere nodes name e ∙ many

-- a kind for each node
pub kinds_all : (d : DraftView) → length (plan_of d).kinds ≡ length d.nodes
kinds_all d = length-map (known_nodes d) (λ k. k.kind) ∙ sym (length-map (known_nodes d) (λ k. k.name)) ∙ ap length (known_names_from d.topics d.nodes) ∙ length-map d.nodes (λ n. n.name)

pub no_node : (d : DraftView) (nodes : List Node) (name : Name) → Shows d nodes → IsPrinted d name → node_named nodes name ≡ None → ⊥
no_node d nodes name shows printed e =
    let lines = (no_line d shows.well_formed).print printed.before name printed.after printed.is in
    node_there nodes name (by (has_name (names_of d.nodes) name) refl lines.0) e
  where
    by : (b : Bool) → has_name (names_of d.nodes) name ≡ b → not b ≡ false → has_name (names_in nodes) name ≡ true
    by true t h = ap (λ l. has_name l name) (sym (names_of_built nodes) ∙ ap names_of shows.drafts) ∙ t
    by false t h = absurd (true≢false h)

not_stream : (d : DraftView) (name : Name) → fault_of d ≡ None → IsPrinted d name → is_stream (kind_at (plan_of d) (node_number (known_nodes d) name)) ≡ false
not_stream d name well printed =
    let lines = (no_line d well).print printed.before name printed.after printed.is in
    ap is_stream (kind_in (known_nodes d) (node_number (known_nodes d) name)) ∙ lines.1.1.0

stored : (b : Bool) (n : ℕ) → b ≡ false → cond b None (Some n) ≡ Some n
stored b n e = ap (λ c. cond c None (Some n)) e

pub has_store : (d : DraftView) (nodes : List Node) (name : Name) (node : Node) → Shows d nodes → IsPrinted d name → node_named nodes name ≡ Some node → node.store ≡ Some (number_of (plan_of d) (Changelog (node_number (known_nodes d) name)))
has_store d nodes name node shows printed e =
    let t : IsThere d nodes name node = there d nodes name node shows e in
    let n = node_number (known_nodes d) name in
    ap (λ (x : NodePlace). x.store) (t.place ∙ ap (place_in (plan_of d)) (sym t.number)) ∙ stored (is_stream (kind_at (plan_of d) n)) (number_of (plan_of d) (Changelog n)) (not_stream d name shows.well_formed printed)

pub is_kept : (d : DraftView) (nodes : List Node) (name : Name) (node : Node) (topic : ℕ) → Shows d nodes → IsPrinted d name → node_named nodes name ≡ Some node → node.store ≡ Some topic → IsKept d name node topic
is_kept d nodes name node topic shows printed e s =
    let t : IsThere d nodes name node = there d nodes name node shows e in
    let p = plan_of d in
    let n = node_number (known_nodes d) name in
    let stream : is_stream (kind_at p n) ≡ false = not_stream d name shows.well_formed printed in
    let number : topic ≡ number_of p (Changelog n) = let h = has_store d nodes name node shows printed e in cc in
    let parts : node.parts ≡ parts_of p n = ap (λ (x : NodePlace). x.parts) (t.place ∙ ap (place_in p) (sym t.number)) in
    let kinds : length p.kinds ≡ length d.nodes = kinds_all d in
    let at : slice_get (topics_of p) (number_of p (Changelog n)) ≡ Some (Changelog n) = log_found p n (omega (arith, t.within, t.number, kinds)) stream in
    let at_topic : slice_get (topics_of p) topic ≡ Some (Changelog n) = ap (slice_get (topics_of p)) number ∙ at in
    let inside : topic < length (topics_of p) = slice_get_within (topics_of p) topic (Changelog n) at_topic in
    record {
      named = t.named;
      number = number;
      parts = parts;
      op = λ bytes. ap (λ k. folded.row_from (kind_at p k) bytes) t.number ∙ kind_reads d (name_place (names_in nodes) name) (built_view node) bytes t.within ∙ ap (λ (x : NodeView). row_by x.op bytes) t.draft;
      windowed = ap (λ k. is_windowed (kind_at p k)) t.number ∙ kind_counts d (name_place (names_in nodes) name) (built_view node) t.within ∙ ap (λ (x : NodeView). counts_windows x.op) t.draft;
      within = omega (arith, inside);
      count = get_or_from_slice_get (map (parts_of_topic p) (topics_of p)) topic (parts_of_topic p (Changelog n)) 0 (get_over (parts_of_topic p) (topics_of p) topic (Changelog n) at_topic) ∙ sym parts;
    }
