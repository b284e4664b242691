-- The nodes that the records of a topic can reach. Of any other node a step passes no item on, leaves the value, sends nothing and tells the
-- changelogs nothing.
use Rattle.std.specs.Prelude.{◌≡◌, ℕ, suc, ◌==◌, ◌||◌, ◌&&◌, Bool, true, false, List, [], ◌∷◌, ◌++◌, nat_le, slice_get, Option, Some, None, if◌then◌else◌}
use Rattle.ks_query.specs.Streams.{StreamItem}
use Rattle.ks_plan.specs.declared.node.Topic.{Topic}
use Rattle.ks_plan.specs.declared.node.Topic.TheVariants.{Input, Repartition, Subscriptions, Responses}
use Rattle.ks_plan.specs.Layout.{same_topic}
use Rattle.ks_plan.specs.Plan.{Kind}
use Rattle.ks_plan.specs.Plan.Kind.{StreamSource, TableSource, StreamFilter, TableFilter, StreamMap, TableMap, KeySelected, StreamAggregate, TableAggregate, Windowed, KeyJoin, ForeignKeyJoin}
use Rattle.ks_def_tasks.specs.Messages.{Store, Rules}
use Rattle.ks_query.specs.Query.{with_number}
use Rattle.ks_def_tasks.specs.Step.{Arrival, Values, items_from, value_at, values_from, sends_at, changes_at, counted_at}
use Rattle.ks_task_nodes.specs.Nodes.{TaskNode, kinds_in}

abbrev pub is_among : ℕ → List ℕ → Bool
is_among n [] = false
is_among n (m ∷ ms) = (n == m) || is_among n ms

-- a topic between the parts of a node
abbrev pub is_named : Topic → ℕ → Bool
is_named (Repartition m) n = m == n
is_named (Subscriptions m) n = m == n
is_named (Responses m) n = m == n
is_named _ n = false

-- a node that this one reads is among these, or doesn't stand before it
abbrev pub is_fed : ℕ → ℕ → List ℕ → Bool
is_fed n from live = is_among from live || nat_le n from

-- by a node that it reads, or its input topic
abbrev pub is_reached_by : ℕ → Kind → Topic → List ℕ → Bool
is_reached_by n (StreamSource own) topic live = same_topic topic (Input own)
is_reached_by n (TableSource own) topic live = same_topic topic (Input own)
is_reached_by n (StreamFilter f test) topic live = is_fed n f live
is_reached_by n (TableFilter f test) topic live = is_fed n f live
is_reached_by n (StreamMap f set) topic live = is_fed n f live
is_reached_by n (TableMap f set) topic live = is_fed n f live
is_reached_by n (KeySelected f field) topic live = is_fed n f live
is_reached_by n (StreamAggregate f by field through) topic live = is_fed n f live
is_reached_by n (TableAggregate f by field) topic live = is_fed n f live
is_reached_by n (Windowed f by window through) topic live = is_fed n f live
is_reached_by n (KeyJoin l r how set) topic live = is_fed n l live || is_fed n r live
is_reached_by n (ForeignKeyJoin l r fk how set) topic live = is_fed n l live || is_fed n r live

abbrev pub is_reached : Topic → ℕ → Kind → List ℕ → Bool
is_reached topic n kind live = is_named topic n || is_reached_by n kind topic live

abbrev pub with_reached : Bool → List ℕ → ℕ → List ℕ
with_reached reached live n = if reached then live ++ n ∷ [] else live

-- after those of the nodes before these
abbrev pub live_in : Topic → List ℕ → List TaskNode → List ℕ
live_in topic live [] = live
live_in topic live (node ∷ nodes) = live_in topic (with_reached (is_reached topic node.topics.number node.kind live) live node.topics.number) nodes

-- each node stands at its number
abbrev pub are_numbered : ℕ → List TaskNode → Bool
are_numbered n [] = true
are_numbered n (node ∷ nodes) = (n == node.topics.number) && are_numbered (suc n) nodes

-- ---- what a step makes that goes through these alone
abbrev pub of_node : {A : Type 0} → (TaskNode → List A) → Option TaskNode → List A
of_node f None = []
of_node f (Some node) = f node

-- of the nodes with these numbers, among all
abbrev pub at_numbers : {A : Type 0} → (TaskNode → List A) → List TaskNode → List ℕ → List A
at_numbers f all [] = []
at_numbers f all (n ∷ ns) = of_node f (slice_get all n) ++ at_numbers f all ns

abbrev pub valued_by : Rules → Arrival → (ℕ → Option StreamItem) → Values → Values → Option TaskNode → Values
valued_by rules a items olds news None = news
valued_by rules a items olds news (Some node) = with_number news node.topics.number (value_at rules a items olds news node.topics.number node.kind)

-- they act in their order
abbrev pub values_at_numbers : Rules → Arrival → (ℕ → Option StreamItem) → Values → List TaskNode → Values → List ℕ → Values
values_at_numbers rules a items olds all news [] = news
values_at_numbers rules a items olds all news (n ∷ ns) = values_at_numbers rules a items olds all (valued_by rules a items olds news (slice_get all n)) ns

-- ---- of any other node there is no item, and the value stays
abbrev pub NoItems : List ℕ → (ℕ → Option StreamItem) → Type 0
NoItems live items = (f : ℕ) → is_among f live ≡ false → items f ≡ None

abbrev pub SameValues : List ℕ → Values → Values → Type 0
SameValues live olds news = (f : ℕ) → is_among f live ≡ false → news f ≡ olds f

-- ---- the law
pub record Stays (rules : Rules) (a : Arrival) (items : ℕ → Option StreamItem) (st : Store) (olds news : Values) (n : ℕ) (kind : Kind) : Type 0 where
  pub item : items n ≡ None
  pub value : news n ≡ olds n
  pub sends : sends_at rules a items st olds news n kind ≡ []
  pub changes : changes_at a items st olds news n kind ≡ []
  pub late : (counted_at a items st n kind).late ≡ 0

abbrev pub OutOfReachStays : Type 0
OutOfReachStays = (rules : Rules) (a : Arrival) (st : Store) (olds : Values) (nodes : List TaskNode) → are_numbered 0 nodes ≡ true →
    (n : ℕ) (node : TaskNode) → slice_get nodes n ≡ Some node → is_among n (live_in a.topic [] nodes) ≡ false →
    let items = items_from a (λ m. None) 0 (kinds_in nodes) in
    Stays rules a items st olds (values_from rules a items olds olds 0 (kinds_in nodes)) n node.kind
