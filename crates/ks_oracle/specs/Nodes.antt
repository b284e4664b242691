-- What a built node computes, from its operation and its wiring: the node's kind in the plan.
use Rattle.std.specs.Prelude.{[], Option, Some, None, option_map, unwrap_or, cond, ◌&&◌, nat_le}
use Rattle.ks_expr.specs.declared.terms.JoinKind.{JoinKind}
use Rattle.ks_expr.specs.declared.terms.Fk.{Fk}
use Rattle.ks_expr.specs.Terms.{Test, Set}
use Rattle.ks_plan.specs.declared.node.Wiring.{Wiring}
use Rattle.ks_plan.specs.declared.node.Wiring.TheVariants as wired
use Rattle.ks_plan.specs.declared.node.Node.{Node}
use Rattle.ks_plan.specs.Drafts.{Name, OpView, FilterOf, MapOf, KeyOf, CountOf, SumOf, WindowedOf, JoinOf, FkJoinOf, op_view}
use Rattle.ks_plan.specs.Plan.{Kind, Window, window_of}
use Rattle.ks_plan.specs.Plan.Kind.{StreamSource, TableSource, StreamFilter, TableFilter, StreamMap, TableMap, KeySelected, StreamAggregate, TableAggregate, Windowed, KeyJoin, ForeignKeyJoin}

-- ---- the parts of an operation, where it has them
abbrev pub test_in : OpView → Option Test
test_in (FilterOf from test) = Some test
test_in _ = None

abbrev pub set_in : OpView → Option Set
set_in (MapOf from set) = Some set
set_in _ = None

abbrev pub key_in : OpView → Option Name
key_in (KeyOf from key) = Some key
key_in _ = None

-- the group and the field of an aggregate; a count has no field
abbrev pub group_in : OpView → Option (Option Name × Option Name)
group_in (CountOf from by) = Some (by, None)
group_in (SumOf from by field) = Some (by, Some field)
group_in _ = None

-- a window whose advance is at least 1 and at most its size
abbrev pub good : Window → Option Window
good w = cond (nat_le 1 w.advance && nat_le w.advance w.size) (Some w) None

abbrev pub with_by : Option Name → Window → (Option Name × Window)
with_by by w = (by, w)

abbrev pub window_in : OpView → Option (Option Name × Window)
window_in (WindowedOf from by size advance grace) = option_map (with_by by) (good (window_of size advance grace))
window_in _ = None

abbrev pub join_in : OpView → Option (JoinKind × Set)
join_in (JoinOf l r kind set) = Some (kind, set)
join_in _ = None

abbrev pub foreign_in : OpView → Option (Fk × (JoinKind × Set))
foreign_in (FkJoinOf l r fk kind set) = Some (fk, (kind, set))
foreign_in _ = None

-- ---- none where the wiring is not one of the operation: of no built node
abbrev pub kind_from : OpView → Wiring → Option Kind
kind_from op (wired.StreamSource t) = Some (StreamSource t)
kind_from op (wired.TableSource t) = Some (TableSource t)
kind_from op (wired.StreamFilter f) = option_map (StreamFilter f) (test_in op)
kind_from op (wired.TableFilter f) = option_map (TableFilter f) (test_in op)
kind_from op (wired.StreamMap f) = option_map (StreamMap f) (set_in op)
kind_from op (wired.TableMap f) = option_map (TableMap f) (set_in op)
kind_from op (wired.KeySelected f) = option_map (KeySelected f) (key_in op)
kind_from op (wired.StreamAggregate f through) = option_map (λ g. StreamAggregate f g.0 g.1 through) (group_in op)
kind_from op (wired.TableAggregate f) = option_map (λ g. TableAggregate f (unwrap_or g.0 []) g.1) (group_in op)
kind_from op (wired.Windowed f through) = option_map (λ g. Windowed f g.0 g.1 through) (window_in op)
kind_from op (wired.KeyJoin l r) = option_map (λ j. KeyJoin l r j.0 j.1) (join_in op)
kind_from op (wired.ForeignKeyJoin l r) = option_map (λ j. ForeignKeyJoin l r j.0 j.1.0 j.1.1) (foreign_in op)

abbrev pub node_kind : Node → Option Kind
node_kind n = kind_from (op_view n.op) n.wiring
