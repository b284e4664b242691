-- The faults of a draft, in the order in which they are told: a table of lines, each with whether it fits and its fault.
use Rattle.std.specs.Prelude.{ℕ, ℤ, pos, List, [], ◌∷◌, ◌++◌, length, map, Option, Some, None, Bool, true, false, ◌&&◌, ◌||◌, not, fold, cond, nat_eq, nat_lt, int_lt, int_le, ◌*ℤ◌, is_none, codes}
use Rattle.std.specs.List.{flat_map}
use Rattle.std.specs.Option.{option_or}
use Rattle.ks_expr.specs.Eval.{same_bytes}
use Rattle.ks_plan.specs.declared.fault.TopoFault.{TopoFault}
use Rattle.ks_plan.specs.declared.fault.TopoFault.TheVariants.{UnknownInput, WrongKind, DuplicateName, NotCopartitioned, TooMany, BadWindow, SinkOnly}
use Rattle.ks_plan.specs.declared.node.Wiring.{Wiring}
use Rattle.ks_plan.specs.declared.draft.TopicDraft.{TopicDraft}
use Rattle.ks_plan.specs.Drafts.{Name, Topics, OpView, StreamOf, TableOf, FilterOf, MapOf, KeyOf, CountOf, SumOf, WindowedOf, JoinOf, FkJoinOf, NodeView, DraftView}
use Rattle.ks_plan.specs.Plan.{Known, wiring_of, gives_stream, gives_windows, known_of, known_from, known_at, node_number, with_topic, befores_in, plan_of}
use Rattle.ks_plan.specs.Layout.{node_parts, at, node_origins, origin_at, stated_for}
use Rattle.ks_plan.specs.Infos.{internal_names}

-- whether it fits, and the fault
abbrev pub Line : Type 0
Line = Bool × TopoFault

abbrev pub first_fitting : List Line → Option TopoFault
first_fitting [] = None
first_fitting (x ∷ xs) = cond x.0 (Some x.1) (first_fitting xs)

abbrev pub first_of : List (List Line) → Option TopoFault
first_of [] = None
first_of (g ∷ gs) = option_or (first_fitting g) (first_of gs)

abbrev pub one_line : Bool → TopoFault → List Line
one_line b f = (b, f) ∷ []

-- ---- names
abbrev pub has_name : List Name → Name → Bool
has_name [] n = false
has_name (m ∷ ms) n = same_bytes m n || has_name ms n

abbrev pub names_of : List NodeView → List Name
names_of ns = map (λ n. n.name) ns

abbrev pub names_of_topics : Topics → List Name
names_of_topics ts = map (λ (x : Name × TopicDraft). x.0) ts

abbrev pub topic_names : DraftView → List Name
topic_names d = names_of_topics d.topics

-- a line for each name that is not known
abbrev pub unknown_lines : List Name → List Name → List Line
unknown_lines known ns = map (λ n. (not (has_name known n), UnknownInput n)) ns

-- a line for each name that is
abbrev pub taken_lines : List Name → List Name → List Line
taken_lines known ns = map (λ n. (has_name known n, DuplicateName n)) ns

-- ---- what an operation reads
abbrev pub inputs_in : OpView → List Name
inputs_in (StreamOf t) = []
inputs_in (TableOf t) = []
inputs_in (FilterOf f p) = f ∷ []
inputs_in (MapOf f s) = f ∷ []
inputs_in (KeyOf f k) = f ∷ []
inputs_in (CountOf f by) = f ∷ []
inputs_in (SumOf f by field) = f ∷ []
inputs_in (WindowedOf f by size advance grace) = f ∷ []
inputs_in (JoinOf l r kind s) = l ∷ r ∷ []
inputs_in (FkJoinOf l r fk kind s) = l ∷ r ∷ []

abbrev pub topics_in : OpView → List Name
topics_in (StreamOf t) = t ∷ []
topics_in (TableOf t) = t ∷ []
topics_in _ = []

-- the topics of sources
abbrev pub sources_of : List NodeView → List Name
sources_of ns = flat_map (λ n. topics_in n.op) ns

abbrev pub set_length : OpView → ℕ
set_length (MapOf f s) = length s
set_length (JoinOf l r kind s) = length s
set_length (FkJoinOf l r fk kind s) = length s
set_length _ = 0

-- ---- kinds
-- a select_key and a windowed count take a stream alone, joins tables alone, and a count or sum of a table has a group
abbrev pub wrong_kind : OpView → Wiring → Bool
wrong_kind (KeyOf f k) i = not (gives_stream i)
wrong_kind (WindowedOf f by size advance grace) i = not (gives_stream i)
wrong_kind (CountOf f by) i = is_none by && not (gives_stream i)
wrong_kind (SumOf f by field) i = is_none by && not (gives_stream i)
wrong_kind (JoinOf l r kind s) i = gives_stream i
wrong_kind (FkJoinOf l r fk kind s) i = gives_stream i
wrong_kind _ i = false

-- what these nodes' namesake is
abbrev pub wiring_in : List Known → Name → Wiring
wiring_in ks n = wiring_of (known_at ks n).kind

abbrev pub sinks_among : List Known → Name → List Name → List Line
sinks_among ks n is = map (λ i. (gives_windows (wiring_in ks i), SinkOnly n)) is

abbrev pub sink_lines : List Known → NodeView → List Line
sink_lines ks n = sinks_among ks n.name (inputs_in n.op)

abbrev pub kinds_among : List Known → NodeView → List Name → List Line
kinds_among ks n is = map (λ i. (wrong_kind n.op (wiring_in ks i), WrongKind n.name)) is

abbrev pub kind_lines : List Known → NodeView → List Line
kind_lines ks n = kinds_among ks n (inputs_in n.op)

-- ---- partitions
abbrev pub same_before : Option Name → Option Name → Bool
same_before None None = true
same_before (Some a) (Some b) = same_bytes a b
same_before None (Some b) = false
same_before (Some a) None = false

-- the texts that are stated for the topics, by number
abbrev pub befores_of : Topics → List (Option Name)
befores_of ts = befores_in (fold with_topic [] ts)

abbrev pub stated_at : Topics → List (Option ℕ) → ℕ → Option Name
stated_at ts origins n = stated_for (befores_of ts) (origin_at origins n)

-- the partition counts and the origins of the nodes are given
abbrev pub are_apart : Topics → List ℕ → List (Option ℕ) → ℕ → ℕ → Bool
are_apart ts parts origins l r = not (nat_eq (at parts l) (at parts r) && same_before (stated_at ts origins l) (stated_at ts origins r))

abbrev pub sides_among : Topics → List ℕ → List (Option ℕ) → List Known → OpView → List Line
sides_among ts parts origins ks (JoinOf l r kind s) = one_line (are_apart ts parts origins (node_number ks l) (node_number ks r)) (NotCopartitioned l r)
sides_among ts parts origins ks _ = []

-- the partition count of these nodes' namesake
abbrev pub parts_in : List ℕ → List Known → Name → ℕ
parts_in counts ks n = at (node_parts counts (map (λ k. k.kind) ks)) (node_number ks n)

abbrev pub side_lines : Topics → List ℕ → List Known → OpView → List Line
side_lines ts counts ks op = sides_among ts (node_parts counts (map (λ k. k.kind) ks)) (node_origins (map (λ k. k.kind) ks)) ks op

-- ---- windows
-- from 0 to the greatest time
unfoldable pub is_time : ℤ → Bool
is_time span = int_le (pos 0) span && int_le span (pos 9007199254740992)

abbrev pub is_advance : ℤ → ℤ → Bool
is_advance size advance = int_le (pos 1) advance && int_le advance size && int_le size (pos 1000 *ℤ advance)

abbrev pub int_or : Option ℤ → ℤ → ℤ
int_or None z = z
int_or (Some y) z = y

-- 1 <= advance <= size <= 1000 * advance, grace >= 0, and none of them past the greatest time
abbrev pub is_window : ℤ → ℤ → ℤ → Bool
is_window size advance grace = is_time size && is_time grace && is_advance size advance

-- without an advance it is the size, without a grace a day
abbrev pub window_lines : Name → OpView → List Line
window_lines n (WindowedOf f by size advance grace) = one_line (not (is_window size (int_or advance size) (int_or grace (pos 86400000)))) (BadWindow n)
window_lines n _ = []

-- ---- the table of a node after those before it
-- of an application, topics, and partition counts and origins of the nodes before
abbrev pub node_lines : Name → Topics → List ℕ → List (Option ℕ) → List NodeView → NodeView → List (List Line)
node_lines app ts parts origins before n =
    let ks = known_from ts before in
    one_line (has_name (names_of before) n.name) (DuplicateName n.name)
    ∷ one_line (nat_lt 64 (set_length n.op)) (TooMany (codes "fields") 64)
    ∷ unknown_lines (names_of_topics ts) (topics_in n.op)
    ∷ unknown_lines (names_of before) (inputs_in n.op)
    ∷ taken_lines (sources_of before) (topics_in n.op)
    ∷ sink_lines ks n
    ∷ kind_lines ks n
    ∷ sides_among ts parts origins ks n.op
    ∷ window_lines n.name n.op
    ∷ taken_lines (names_of_topics ts) (internal_names app n.name (wiring_of (known_of ts ks n.op).0))
    ∷ []

-- the partition counts of these nodes
abbrev pub parts_before : DraftView → List NodeView → List ℕ
parts_before d before = node_parts (plan_of d).counts (map (λ k. k.kind) (known_from d.topics before))

abbrev pub origins_before : DraftView → List NodeView → List (Option ℕ)
origins_before d before = node_origins (map (λ k. k.kind) (known_from d.topics before))

abbrev pub node_table : DraftView → List NodeView → NodeView → List (List Line)
node_table d before n = node_lines d.app d.topics (parts_before d before) (origins_before d before) before n

abbrev pub nodes_fault : DraftView → List NodeView → List NodeView → Option TopoFault
nodes_fault d before [] = None
nodes_fault d before (n ∷ ns) = option_or (first_of (node_table d before n)) (nodes_fault d (before ++ n ∷ []) ns)

-- ---- the table of a printed name after those before it
abbrev pub print_lines : Topics → List NodeView → List Name → Name → List Line
print_lines ts ns before n =
    (not (has_name (names_of ns) n), UnknownInput n)
    ∷ (has_name before n, DuplicateName n)
    ∷ (gives_stream (wiring_in (known_from ts ns) n), WrongKind n)
    ∷ []

abbrev pub printed_fault : Topics → List NodeView → List Name → List Name → Option TopoFault
printed_fault ts ns before [] = None
printed_fault ts ns before (n ∷ ps) = option_or (first_fitting (print_lines ts ns before n)) (printed_fault ts ns (before ++ n ∷ []) ps)

abbrev pub print_fault : DraftView → List Name → List Name → Option TopoFault
print_fault d before ps = printed_fault d.topics d.nodes before ps

-- ---- the whole
abbrev pub is_past : ℤ → Bool
is_past z = int_lt (pos 64) z

abbrev pub any_past : Topics → Bool
any_past [] = false
any_past (x ∷ xs) = is_past x.1.parts || any_past xs

abbrev pub size_lines : DraftView → List Line
size_lines d =
    (nat_lt 64 (length d.topics), TooMany (codes "topics") 64)
    ∷ (any_past d.topics, TooMany (codes "partitions") 64)
    ∷ (nat_lt 64 (length d.nodes), TooMany (codes "nodes") 64)
    ∷ []

abbrev pub parts_fault : DraftView → Option TopoFault
parts_fault d = option_or (nodes_fault d [] d.nodes) (print_fault d [] d.print)

-- the first fault: of sizes, of the nodes one by one, of the printed names one by one; a draft without one is well formed
abbrev pub fault_of : DraftView → Option TopoFault
fault_of d = option_or (first_fitting (size_lines d)) (parts_fault d)
