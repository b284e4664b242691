-- Drafts of topologies without the boxes of their expressions: a box has its place in memory in it.
use Rattle.std.specs.Prelude.{ℕ, ℤ, List, map, Option}
use Rattle.ks_expr.specs.declared.terms.JoinKind.{JoinKind}
use Rattle.ks_expr.specs.Terms.{Test, Set, test_of, set_of}
use Rattle.ks_expr.specs.declared.terms.Fk.{Fk}
use Rattle.ks_plan.specs.declared.draft.Op.{Op}
use Rattle.ks_plan.specs.declared.draft.Op.TheVariants.{Stream, Table, Filter, MapValues, SelectKey, Count, Sum, WindowedCount, Join, FkJoin}
use Rattle.ks_plan.specs.declared.draft.NodeDraft.{NodeDraft}
use Rattle.ks_plan.specs.declared.draft.TopicDraft.{TopicDraft}
use Rattle.ks_plan.specs.declared.draft.Draft.{Draft}

abbrev pub Name : Type 0
Name = List ℕ

-- the input topics of a draft, with how the keys of each are spread
abbrev pub Topics : Type 0
Topics = List (Name × TopicDraft)

-- what a node does; its inputs and its topic by name
pub data OpView : Type 0 where
  StreamOf : Name → OpView
  TableOf : Name → OpView
  FilterOf : Name → Test → OpView
  MapOf : Name → Set → OpView
  KeyOf : Name → Name → OpView
  -- input, by
  CountOf : Name → Option Name → OpView
  -- input, by, field
  SumOf : Name → Option Name → Name → OpView
  -- input, by, size, advance, grace
  WindowedOf : Name → Option Name → ℤ → Option ℤ → Option ℤ → OpView
  JoinOf : Name → Name → JoinKind → Set → OpView
  -- left, right, foreign key
  FkJoinOf : Name → Name → Fk → JoinKind → Set → OpView

pub record NodeView : Type 0 where
  pub name : Name
  pub op : OpView

pub record DraftView : Type 0 where
  pub app : Name
  pub topics : Topics
  pub nodes : List NodeView
  pub print : List Name

abbrev pub op_view : Op → OpView
op_view (Stream topic) = StreamOf topic
op_view (Table topic) = TableOf topic
op_view (Filter from test) = FilterOf from (test_of test)
op_view (MapValues from set) = MapOf from (set_of set)
op_view (SelectKey from key) = KeyOf from key
op_view (Count from by) = CountOf from by
op_view (Sum from by field) = SumOf from by field
op_view (WindowedCount from by size advance grace) = WindowedOf from by size advance grace
op_view (Join left right kind set) = JoinOf left right kind (set_of set)
op_view (FkJoin left right fk kind set) = FkJoinOf left right fk kind (set_of set)

abbrev pub node_view : NodeDraft → NodeView
node_view n = record { name = n.name; op = op_view n.op }

abbrev pub nodes_view : List NodeDraft → List NodeView
nodes_view ns = map node_view ns

abbrev pub draft_view : Draft → DraftView
draft_view d = record { app = d.app; topics = d.topics; nodes = nodes_view d.nodes; print = d.print }
