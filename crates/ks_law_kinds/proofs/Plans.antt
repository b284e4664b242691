-- The plan of a draft has the draft's projections.
use Rattle.std.proofs.Common.{Bool, true, false, cond, List, [], ◌∷◌, ◌++◌, map, fold, Some, None}
use Rattle.std.specs.Prelude.{◌||◌, is_some, unwrap_or}
use Rattle.std.specs.List.{AllByRecursion}
use Rattle.ks_plan.specs.Drafts.{Topics, OpView, StreamOf, TableOf, FilterOf, MapOf, KeyOf, CountOf, SumOf, WindowedOf, JoinOf, FkJoinOf, NodeView}
use Rattle.ks_plan.specs.Plan.{Kind, Known, known_of, known_at, node_number, learn, is_stream}
use Rattle.ks_plan.specs.Plan.Kind.{StreamFilter, TableFilter, StreamMap, TableMap, StreamAggregate, TableAggregate}
use Rattle.ks_law_kinds.specs.Fitting.{FitsKind, FitsOp, PlansFit}

either : (b : Bool) (x y : Kind) → FitsKind x → FitsKind y → FitsKind (cond b x y)
either true x y f g = f
either false x y f g = g

known_fits : (ts : Topics) (ks : List Known) (op : OpView) → FitsOp op → FitsKind (known_of ts ks op).0
known_fits ts ks (StreamOf t) h = tt
known_fits ts ks (TableOf t) h = tt
known_fits ts ks (FilterOf f x) h = either (is_stream (known_at ks f).kind) (StreamFilter (node_number ks f) x) (TableFilter (node_number ks f) x) tt tt
known_fits ts ks (MapOf f s) h = either (is_stream (known_at ks f).kind) (StreamMap (node_number ks f) s) (TableMap (node_number ks f) s) h h
known_fits ts ks (KeyOf f k) h = tt
known_fits ts ks (CountOf f by) h = either (is_stream (known_at ks f).kind) (StreamAggregate (node_number ks f) by None (is_some by || (known_at ks f).rekeyed)) (TableAggregate (node_number ks f) (unwrap_or by []) None) tt tt
known_fits ts ks (SumOf f by field) h = either (is_stream (known_at ks f).kind) (StreamAggregate (node_number ks f) by (Some field) (is_some by || (known_at ks f).rekeyed)) (TableAggregate (node_number ks f) (unwrap_or by []) (Some field)) tt tt
known_fits ts ks (WindowedOf f by size advance grace) h = tt
known_fits ts ks (JoinOf l r kind s) h = h
known_fits ts ks (FkJoinOf l r fk kind s) h = h

last_fits : (ks : List Known) (k : Known) → AllByRecursion FitsKind (map (λ (x : Known). x.kind) ks) → FitsKind k.kind → AllByRecursion FitsKind (map (λ (x : Known). x.kind) (ks ++ k ∷ []))
last_fits [] k h f = (f, tt)
last_fits (x ∷ ks) k h f = (h.0, last_fits ks k h.1 f)

all_known : (ts : Topics) (ks : List Known) (ns : List NodeView) → AllByRecursion (λ (n : NodeView). FitsOp n.op) ns → AllByRecursion FitsKind (map (λ (x : Known). x.kind) ks) →
    AllByRecursion FitsKind (map (λ (x : Known). x.kind) (fold (learn ts) ks ns))
all_known ts ks [] h f = f
all_known ts ks (n ∷ ns) h f = all_known ts (learn ts ks n) ns h.1
    (last_fits ks (record { name = n.name; kind = (known_of ts ks n.op).0; rekeyed = (known_of ts ks n.op).1 }) f (known_fits ts ks n.op h.0))

pub plans_fit : PlansFit
plans_fit d h = all_known d.topics [] d.nodes h tt
