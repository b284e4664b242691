-- A draft with its names resolved: nodes name one another, and their topics, by number.
use Rattle.std.specs.Prelude.{ℕ, ℤ, suc, List, [], ◌∷◌, ◌++◌, map, get_or, Option, Some, None, Bool, true, false, ◌||◌, fold, cond, unwrap_or, pos, negsuc, is_some}
use Rattle.std.specs.Ordering.{nat_cmp, is_lt}
use Rattle.std.specs.Cmp.Lexicographic.{slice_cmp}
use Rattle.ks_expr.specs.declared.terms.JoinKind.{JoinKind}
use Rattle.ks_expr.specs.Terms.{Test, Set}
use Rattle.ks_expr.specs.declared.terms.Fk.{Fk}
use Rattle.ks_expr.specs.Eval.{same_bytes}
use Rattle.ks_plan.specs.declared.draft.TopicDraft.{TopicDraft}
use Rattle.ks_plan.specs.declared.node.Wiring.{Wiring}
use Rattle.ks_plan.specs.declared.node.Wiring.TheVariants as wired
use Rattle.ks_plan.specs.Drafts.{Name, Topics, OpView, StreamOf, TableOf, FilterOf, MapOf, KeyOf, CountOf, SumOf, WindowedOf, JoinOf, FkJoinOf, NodeView, DraftView}

pub record Window : Type 0 where
  pub size : ℕ
  pub advance : ℕ
  pub grace : ℕ

-- what a node is; its inputs and its topic by number
pub data Kind : Type 0 where
  StreamSource : ℕ → Kind
  TableSource : ℕ → Kind
  StreamFilter : ℕ → Test → Kind
  TableFilter : ℕ → Test → Kind
  StreamMap : ℕ → Set → Kind
  TableMap : ℕ → Set → Kind
  KeySelected : ℕ → Name → Kind
  -- input, by, field (none: a count), whether through a repartition topic
  StreamAggregate : ℕ → Option Name → Option Name → Bool → Kind
  TableAggregate : ℕ → Name → Option Name → Kind
  Windowed : ℕ → Option Name → Window → Bool → Kind
  KeyJoin : ℕ → ℕ → JoinKind → Set → Kind
  ForeignKeyJoin : ℕ → ℕ → Fk → JoinKind → Set → Kind

pub record Plan : Type 0 where
  pub kinds : List Kind
  -- the partition counts of the input topics, by number
  pub counts : List ℕ
  -- the texts before which the front parts of their keys end, where such are stated
  pub befores : List (Option Name)
  pub print : List ℕ

-- what it is and what it reads, without what it computes
abbrev pub wiring_of : Kind → Wiring
wiring_of (StreamSource t) = wired.StreamSource t
wiring_of (TableSource t) = wired.TableSource t
wiring_of (StreamFilter f p) = wired.StreamFilter f
wiring_of (TableFilter f p) = wired.TableFilter f
wiring_of (StreamMap f s) = wired.StreamMap f
wiring_of (TableMap f s) = wired.TableMap f
wiring_of (KeySelected f k) = wired.KeySelected f
wiring_of (StreamAggregate f by field through) = wired.StreamAggregate f through
wiring_of (TableAggregate f by field) = wired.TableAggregate f
wiring_of (Windowed f by w through) = wired.Windowed f through
wiring_of (KeyJoin l r kind s) = wired.KeyJoin l r
wiring_of (ForeignKeyJoin l r fk kind s) = wired.ForeignKeyJoin l r

-- ---- kinds of nodes
abbrev pub gives_stream : Wiring → Bool
gives_stream (wired.StreamSource t) = true
gives_stream (wired.StreamFilter f) = true
gives_stream (wired.StreamMap f) = true
gives_stream (wired.KeySelected f) = true
gives_stream _ = false

abbrev pub gives_windows : Wiring → Bool
gives_windows (wired.Windowed f through) = true
gives_windows _ = false

-- a stream; all others but windowed counts are tables
abbrev pub is_stream : Kind → Bool
is_stream k = gives_stream (wiring_of k)

abbrev pub is_windowed : Kind → Bool
is_windowed k = gives_windows (wiring_of k)

-- ---- names
-- a node that was resolved: its name, what it is, whether a select_key stands between it and its source
pub record Known : Type 0 where
  pub name : Name
  pub kind : Kind
  pub rekeyed : Bool

abbrev pub nothing_known : Known
nothing_known = record { name = []; kind = StreamSource 0; rekeyed = false }

-- the place of a name among the nodes; past all where none has it
abbrev pub name_place : List Name → Name → ℕ
name_place [] n = 0
name_place (m ∷ ms) n = cond (same_bytes m n) 0 (suc (name_place ms n))

abbrev pub known_names : List Known → List Name
known_names ks = map (λ k. k.name) ks

abbrev pub node_number : List Known → Name → ℕ
node_number ks n = name_place (known_names ks) n

abbrev pub known_at : List Known → Name → Known
known_at ks n = get_or ks (node_number ks n) nothing_known

-- topics are numbered by name bytes
abbrev pub topic_number : Topics → Name → ℕ
topic_number [] t = 0
topic_number (x ∷ xs) t = cond (is_lt (slice_cmp nat_cmp x.0 t)) (suc (topic_number xs t)) (topic_number xs t)

-- a number as a count; below 0 it is none
abbrev pub natural : ℤ → ℕ
natural (pos n) = n
natural (negsuc n) = 0

abbrev pub or_number : Option ℤ → ℕ → ℕ
or_number None d = d
or_number (Some z) d = natural z

-- a day, in milliseconds
abbrev pub usual_grace : ℕ
usual_grace = 86400000

-- without an advance it is the size
abbrev pub window_of : ℤ → Option ℤ → Option ℤ → Window
window_of size advance grace = record { size = natural size; advance = or_number advance (natural size); grace = or_number grace usual_grace }

-- whether an aggregate over the stream x goes through a repartition topic: it has a group, or a select_key stands between x and its
-- source
abbrev pub goes_through : Option Name → Known → Bool
goes_through by x = is_some by || x.rekeyed

-- a filter, a map and a count or sum over x, the node numbered f: of a stream where x is one, else of a table
abbrev pub filter_of : Known → ℕ → Test → Kind
filter_of x f test = cond (is_stream x.kind) (StreamFilter f test) (TableFilter f test)

abbrev pub map_of : Known → ℕ → Set → Kind
map_of x f set = cond (is_stream x.kind) (StreamMap f set) (TableMap f set)

abbrev pub aggregate_of : Known → ℕ → Option Name → Option Name → Kind
aggregate_of x f by field = cond (is_stream x.kind) (StreamAggregate f by field (goes_through by x)) (TableAggregate f (unwrap_or by []) field)

-- what an operation is after these nodes, and whether its items' keys are not those of its source
abbrev pub known_of : Topics → List Known → OpView → (Kind × Bool)
known_of ts ks (StreamOf t) = (StreamSource (topic_number ts t), false)
known_of ts ks (TableOf t) = (TableSource (topic_number ts t), false)
known_of ts ks (FilterOf f p) = (filter_of (known_at ks f) (node_number ks f) p, (known_at ks f).rekeyed)
known_of ts ks (MapOf f s) = (map_of (known_at ks f) (node_number ks f) s, (known_at ks f).rekeyed)
known_of ts ks (KeyOf f k) = (KeySelected (node_number ks f) k, true)
known_of ts ks (CountOf f by) = (aggregate_of (known_at ks f) (node_number ks f) by None, false)
known_of ts ks (SumOf f by field) = (aggregate_of (known_at ks f) (node_number ks f) by (Some field), false)
known_of ts ks (WindowedOf f by size advance grace) = (Windowed (node_number ks f) by (window_of size advance grace) (goes_through by (known_at ks f)), false)
known_of ts ks (JoinOf l r kind s) = (KeyJoin (node_number ks l) (node_number ks r) kind s, false)
known_of ts ks (FkJoinOf l r fk kind s) = (ForeignKeyJoin (node_number ks l) (node_number ks r) fk kind s, false)

abbrev pub learn : Topics → List Known → NodeView → List Known
learn ts ks node = let k = known_of ts ks node.op in ks ++ record { name = node.name; kind = k.0; rekeyed = k.1 } ∷ []

abbrev pub known_from : Topics → List NodeView → List Known
known_from ts ns = fold (learn ts) [] ns

abbrev pub known_nodes : DraftView → List Known
known_nodes d = known_from d.topics d.nodes

-- the topics, in order of names
abbrev pub with_topic : Topics → (Name × TopicDraft) → Topics
with_topic [] x = x ∷ []
with_topic (y ∷ ys) x = cond (is_lt (slice_cmp nat_cmp x.0 y.0)) (x ∷ y ∷ ys) (y ∷ with_topic ys x)

abbrev pub sorted_topics : DraftView → Topics
sorted_topics d = fold with_topic [] d.topics

-- the texts that are stated for topics
abbrev pub befores_in : Topics → List (Option Name)
befores_in ts = map (λ (x : Name × TopicDraft). x.1.before) ts

abbrev pub plan_of : DraftView → Plan
plan_of d =
    let ks = known_nodes d in
    record {
      kinds = map (λ k. k.kind) ks;
      counts = map (λ (x : Name × TopicDraft). natural x.1.parts) (sorted_topics d);
      befores = befores_in (sorted_topics d);
      print = map (node_number ks) d.print;
    }
