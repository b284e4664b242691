-- In every journal of a topology each decided record has a key and a value of its kind.
use Rattle.std.specs.Prelude.{ℕ, Bool, true, false, ◌&&◌, List, [], ◌∷◌, Option, Some, None}
use Rattle.std.specs.List.{AllByRecursion}
use Rattle.ks_record.specs.declared.record.PartId.{PartId}
use Rattle.ks_record.specs.declared.record.TaskId.{TaskId}
use Rattle.ks_def_runs.specs.FinMap as fin
use Rattle.ks_def_runs.specs.Bytes.{Store}
use Rattle.ks_record.specs.Texts.{IsName}
use Rattle.ks_expr.specs.declared.terms.Fk.{Fk}
use Rattle.ks_expr.specs.declared.terms.Fk.TheVariants.{Before}
use Rattle.ks_plan.specs.Drafts.{OpView, MapOf, JoinOf, FkJoinOf, NodeView, DraftView}
use Rattle.ks_plan.specs.Plan.{Plan, Kind, plan_of}
use Rattle.ks_plan.specs.Plan.Kind.{StreamMap, TableMap, KeyJoin, ForeignKeyJoin}
use Rattle.ks_plan.specs.declared.node.Topic.{Topic}
use Rattle.ks_plan.specs.Layout.{topic_at}
use Rattle.ks_def_tasks.specs.Messages.{Rules}
use Rattle.ks_history.specs.declared.journal.Entry.{Entry}
use Rattle.ks_history.specs.Partition.{recs}
use Rattle.ks_history.specs.Faithful.{decided, folds}
use Rattle.ks_history.specs.History.{at, IsHistory}
use Rattle.ks_history.specs.Replay.{produced}
use Rattle.ks_law_exactly_once.specs.Keeping.{FitIn, AreHeld}
use Rattle.ks_law_topology.specs.Spelled.{FitsSet}
use Rattle.ks_law_topology.specs.Work.{FitsRules, HaveFewParts, setup_of}
use Rattle.ks_law_kinds.specs.OfKind.{is_of_topic, is_of_kind, is_given, is_timed}

-- ---- topologies whose projections have names and constants that can be spelled, and whose foreign keys are keys
abbrev pub FitsFk : Fk → Type 0
FitsFk (Before s) = IsName s
FitsFk _ = Unit {0}

abbrev pub FitsKind : Kind → Type 0
FitsKind (StreamMap f set) = FitsSet set
FitsKind (TableMap f set) = FitsSet set
FitsKind (KeyJoin l r kind set) = FitsSet set
FitsKind (ForeignKeyJoin l r fk kind set) = FitsSet set × FitsFk fk
FitsKind _ = Unit {0}

abbrev pub FitsPlan : Plan → Type 0
FitsPlan p = AllByRecursion FitsKind p.kinds

abbrev pub FitsOp : OpView → Type 0
FitsOp (MapOf from set) = FitsSet set
FitsOp (JoinOf left right kind set) = FitsSet set
FitsOp (FkJoinOf left right fk kind set) = FitsSet set × FitsFk fk
FitsOp _ = Unit {0}

abbrev pub FitsDraft : DraftView → Type 0
FitsDraft d = AllByRecursion (λ (n : NodeView). FitsOp n.op) d.nodes

abbrev pub PlansFit : Type 0
PlansFit = (d : DraftView) → FitsDraft d → FitsPlan (plan_of d)

-- ---- stores, by the partition of their changelog: each pair is such as a record of it; a topic beyond those of the plan has none
abbrev pub is_pair_of : Plan → Option Topic → List ℕ × List ℕ → Bool
is_pair_of p None pair = false
is_pair_of p (Some topic) pair = is_of_topic p topic (Some pair.0) (Some pair.1)

abbrev pub are_pairs_of : Plan → Option Topic → List (List ℕ × List ℕ) → Bool
are_pairs_of p topic [] = true
are_pairs_of p topic (pair ∷ pairs) = is_pair_of p topic pair && are_pairs_of p topic pairs

abbrev pub holds_kind : Plan → PartId → Store → Bool
holds_kind p q store = are_pairs_of p (topic_at p q.topic) (fin.entries store)

-- ---- the law
-- what is told of a legal, faithful journal whose produced records are such as a job may produce
pub record TellsKinds (rules : Rules) (p : Plan) (journal : List Entry) : Type 0 where
  -- every decided record has a key and a value of its kind, and a time in range
  pub kinds : (q : PartId) → FitIn (is_of_kind p) q (recs (decided (at (setup_of rules p) journal) q))
  pub times : (q : PartId) → FitIn is_timed q (recs (decided (at (setup_of rules p) journal) q))
  -- and so have the pairs of the folds of the changelogs
  pub stores : (t : TaskId) → AreHeld (holds_kind p) t (folds (setup_of rules p) (at (setup_of rules p) journal) t)

abbrev pub DecidedAreOfKind : Type 0
DecidedAreOfKind = (rules : Rules) (p : Plan) (journal : List Entry) → FitsRules rules → FitsPlan p → HaveFewParts p → IsHistory (setup_of rules p) journal →
    ((q : PartId) → FitIn is_given q (produced journal q)) → TellsKinds rules p journal
