-- Which nodes are in one subtopology: those connected by edges with no internal topic between.
-- Kafka Streams developer guide, "Stream partitions and tasks": a sub-topology is a set of
-- processors that are transitively connected as parent and child or by state stores; different
-- ones exchange data through topics. A store belongs to one node here, and a node that reads
-- another's store, a join by key, has an edge to that node. The numbers are this runtime's own.
use Rattle.std.specs.Prelude.{◌≡◌, ℕ, suc, ◌<◌, ◌≤◌, length, None, false, ◌⊎◌}
use Rattle.ks_plan.specs.Drafts.{DraftView}
use Rattle.ks_plan.specs.Plan.{Plan, Kind, plan_of}
use Rattle.ks_plan.specs.Plan.Kind.{StreamSource, TableSource, StreamFilter, TableFilter, StreamMap, TableMap, KeySelected, StreamAggregate, TableAggregate, Windowed, KeyJoin, ForeignKeyJoin}
use Rattle.ks_plan.specs.Faults.{fault_of}
use Rattle.ks_plan.specs.Layout.{at, kind_at, labels, sub_of, sub_count}

-- a node of this kind reads node m with no topic between. A source reads a topic; an aggregate may
-- be behind a repartition topic, one of a table always is; the right side of a foreign-key join is
-- behind the topics of subscriptions and responses
abbrev pub ReadsDirectly : Kind → ℕ → Type 0
ReadsDirectly (StreamSource t) m = ⊥
ReadsDirectly (TableSource t) m = ⊥
ReadsDirectly (StreamFilter f test) m = m ≡ f
ReadsDirectly (TableFilter f test) m = m ≡ f
ReadsDirectly (StreamMap f set) m = m ≡ f
ReadsDirectly (TableMap f set) m = m ≡ f
ReadsDirectly (KeySelected f key) m = m ≡ f
ReadsDirectly (StreamAggregate f by field through) m = (through ≡ false) × (m ≡ f)
ReadsDirectly (TableAggregate f by field) m = ⊥
ReadsDirectly (Windowed f by window through) m = (through ≡ false) × (m ≡ f)
ReadsDirectly (KeyJoin l r kind set) m = (m ≡ l) ⊎ (m ≡ r)
ReadsDirectly (ForeignKeyJoin l r key kind set) m = m ≡ l

-- an edge from node n to node m
abbrev pub LiesWith : Plan → ℕ → ℕ → Type 0
LiesWith p n m = ReadsDirectly (kind_at p n) m

-- there is a way along edges, forwards and back
pub data Connected (p : Plan) : ℕ → ℕ → Type 0 where
  Itself : (n : ℕ) → Connected p n n
  Edge : (n m : ℕ) → LiesWith p n m → Connected p n m
  Back : (n m : ℕ) → Connected p n m → Connected p m n
  Chain : (n m o : ℕ) → Connected p n m → Connected p m o → Connected p n o

-- ---- the plans of which the laws speak
-- an edge leads to a node that is numbered before
abbrev pub InputsComeFirst : Plan → Type 0
InputsComeFirst p = (n m : ℕ) → LiesWith p n m → m < n

-- so it is in the plan of every draft without a fault
abbrev pub WellFormedInputsComeFirst : Type 0
WellFormedInputsComeFirst = (d : DraftView) → fault_of d ≡ None → InputsComeFirst (plan_of d)

-- ---- one subtopology
-- nodes in one subtopology are connected
abbrev pub SameSubtopologyIsConnected : Type 0
SameSubtopologyIsConnected = (p : Plan) → InputsComeFirst p →
    (n m : ℕ) → n < length p.kinds → m < length p.kinds →
    sub_of p n ≡ sub_of p m → Connected p n m

-- connected nodes are in one subtopology
abbrev pub ConnectedIsSameSubtopology : Type 0
ConnectedIsSameSubtopology = (p : Plan) → InputsComeFirst p →
    (n m : ℕ) → Connected p n m → sub_of p n ≡ sub_of p m

-- ---- their numbers
-- f is the first node that n is connected with
pub record IsFirstOf (p : Plan) (n f : ℕ) : Type 0 where
  pub connected : Connected p n f
  pub least : (m : ℕ) → Connected p n m → f ≤ m

-- a node that begins a subtopology: none before it is connected with it
abbrev pub IsFirst : Plan → ℕ → Type 0
IsFirst p n = IsFirstOf p n n

-- of the nodes below n, c begin a subtopology
pub data HasFirsts (p : Plan) : ℕ → ℕ → Type 0 where
  NoNodes : HasFirsts p 0 0
  OneMore : (n c : ℕ) → HasFirsts p n c → IsFirst p n → HasFirsts p (suc n) (suc c)
  AsMany : (n c : ℕ) → HasFirsts p n c → (IsFirst p n → ⊥) → HasFirsts p (suc n) c

-- a node's label is the first node that it is connected with
abbrev pub LabelsAreFirstNodes : Type 0
LabelsAreFirstNodes = (p : Plan) → InputsComeFirst p →
    (n : ℕ) → n < length p.kinds → IsFirstOf p n (at (labels p) n)

-- the number of a node's subtopology is how many subtopologies begin before its own
abbrev pub SubtopologiesAreNumberedByFirstNodes : Type 0
SubtopologiesAreNumberedByFirstNodes = (p : Plan) → InputsComeFirst p →
    (n f : ℕ) → n < length p.kinds → IsFirstOf p n f → HasFirsts p f (sub_of p n)

-- a plan has as many subtopologies as nodes that begin one
abbrev pub SubtopologiesAreCounted : Type 0
SubtopologiesAreCounted = (p : Plan) → InputsComeFirst p →
    HasFirsts p (length p.kinds) (sub_count p)

-- each node lies in one of them
abbrev pub NodesLieInSubtopologies : Type 0
NodesLieInSubtopologies = (p : Plan) → InputsComeFirst p →
    (n : ℕ) → n < length p.kinds → sub_of p n < sub_count p

-- and in each of them lies a node
abbrev pub SubtopologiesHaveNodes : Type 0
SubtopologiesHaveNodes = (p : Plan) → InputsComeFirst p →
    (s : ℕ) → s < sub_count p → (n : ℕ) × (n < length p.kinds) × (sub_of p n ≡ s)
