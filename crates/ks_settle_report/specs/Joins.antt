-- The first hash collision of a topology's joins on a foreign key, with the name of the join. KIP-213: such a join compares the rows of
-- its left side by their hashes.
use Rattle.std.specs.Prelude.{◌≡◌, ℕ, ◌<◌, false, length, get_or, Option, Some, None}
use Rattle.ks_plan.specs.declared.node.Node.{Node}
use Rattle.ks_plan.specs.declared.node.Wiring.{Wiring}
use Rattle.ks_plan.specs.declared.node.Wiring.TheVariants as wired
use Rattle.ks_plan.specs.Drafts.{Name, DraftView}
use Rattle.ks_plan.specs.Plan.{Plan, plan_of, is_stream}
use Rattle.ks_plan.specs.Layout.{kind_at}
use Rattle.ks_plan.specs.Infos.{node_place, place_in, built_view, name_at}
use Rattle.ks_plan.specs.Faults.{fault_of}
use Rattle.ks_law_settled.specs.Collision.{OffsetPair, NodePair}
use Rattle.ks_settle_report.specs.Hashed.{pair_of}
use Rattle.ks_settle_report.specs.declared.joins.JoinCollision.{JoinCollision}

-- the left side of a join on a foreign key
abbrev pub left_in : Wiring → Option ℕ
left_in (wired.ForeignKeyJoin l r) = Some l
left_in _ = None

-- the node of a well-formed topology at a place
pub record IsAt (d : DraftView) (i : ℕ) (node : Node) : Type 0 where
  pub well_formed : fault_of d ≡ None
  pub within : i < length d.nodes
  pub place : node_place node ≡ place_in (plan_of d) i
  pub draft : get_or d.nodes i (built_view node) ≡ built_view node

-- a node of a plan that keeps a store: all but streams do
pub record HasChangelog (p : Plan) (n : ℕ) : Type 0 where
  pub within : n < length p.kinds
  pub table : is_stream (kind_at p n) ≡ false

-- with the name of the join in place of its number
abbrev pub named : DraftView → NodePair → Name × OffsetPair
named d c = (name_at d c.node, c.pair)

abbrev pub join_pair : JoinCollision → Name × OffsetPair
join_pair c = (c.node, pair_of c.records)
