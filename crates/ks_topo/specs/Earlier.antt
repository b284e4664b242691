-- What stands before a node while a draft is judged.
use Rattle.std.specs.Prelude.{◌≡◌, ◌≤◌, ℕ, List, [], ◌∷◌, length, fold, Option, None}
use Rattle.ks_plan.specs.declared.draft.Draft.{Draft}
use Rattle.ks_plan.specs.declared.draft.NodeDraft.{NodeDraft}
use Rattle.ks_plan.specs.declared.fault.TopoFault.{TopoFault}
use Rattle.ks_topo_layout.specs.declared.resolve.Resolved.{Resolved}
use Rattle.ks_topo.specs.declared.check.Earlier.{Earlier}
use Rattle.ks_plan.specs.Drafts.{Topics, nodes_view, node_view, op_view}
use Rattle.ks_plan.specs.Faults.{first_of, node_lines}
use Rattle.ks_plan.specs.Plan.{Known, known_from, with_topic}
use Rattle.ks_topo_layout.specs.Resolve.{resolved_from, resolved_op}

abbrev pub known_of : Earlier → List Known
known_of e = known_from e.topics.now (nodes_view e.nodes.now)

-- the resolved nodes are these nodes, which are not many
pub record IsEarlier (e : Earlier) : Type 0 where
  pub known : e.known.now ≡ resolved_from e.topics.now (nodes_view e.nodes.now)
  pub few : length e.nodes.now ≤ 64
  pub topics : length e.topics.now ≤ 64
  pub sorted : e.sorted.now ≡ fold with_topic [] e.topics.now

-- the first fault of the first of these nodes after those before it, whose partition counts are given
abbrev pub fault_at : Draft → List ℕ → List (Option ℕ) → List NodeDraft → List NodeDraft → Option TopoFault
fault_at d parts origins before [] = None
fault_at d parts origins before (x ∷ xs) = first_of (node_lines d.app d.topics parts origins (nodes_view before) (node_view x))

-- this is what the first of these nodes is
abbrev pub IsNode : Topics → List NodeDraft → List NodeDraft → Resolved → Type 0
IsNode ts before [] r = ⊥
IsNode ts before (x ∷ xs) r = r ≡ resolved_op ts (nodes_view before) (op_view x.op)
