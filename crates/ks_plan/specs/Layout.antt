-- Where the parts of nodes lie: subtopologies, topics with their numbers, tasks.
use Rattle.std.specs.Prelude.{ℕ, zero, suc, ◌+◌, min, max, List, [], ◌∷◌, ◌++◌, length, map, get_or, slice_get, Option, Some, None, option_and_then, Bool, true, false, ◌||◌, fold, cond, nat_eq}
use Rattle.std.specs.List.{filter, flat_map}
use Rattle.ks_record.specs.declared.record.TaskId.{TaskId}
use Rattle.ks_plan.specs.declared.node.Topic.{Topic}
use Rattle.ks_plan.specs.declared.node.Topic.TheVariants.{Input, Repartition, Subscriptions, Responses, Changelog, HashChangelog}
use Rattle.ks_plan.specs.declared.node.Spread.{Spread}
use Rattle.ks_plan.specs.declared.node.Wiring.{Wiring}
use Rattle.ks_plan.specs.declared.node.Wiring.TheVariants as wired
use Rattle.ks_plan.specs.Drafts.{Name}
use Rattle.ks_plan.specs.Plan.{Plan, Kind, wiring_of, gives_stream}
use Rattle.ks_plan.specs.Plan.Kind.{StreamSource}

abbrev pub same_topic : Topic → Topic → Bool
same_topic (Input a) (Input b) = nat_eq a b
same_topic (Repartition a) (Repartition b) = nat_eq a b
same_topic (Subscriptions a) (Subscriptions b) = nat_eq a b
same_topic (Responses a) (Responses b) = nat_eq a b
same_topic (Changelog a) (Changelog b) = nat_eq a b
same_topic (HashChangelog a) (HashChangelog b) = nat_eq a b
same_topic _ _ = false

abbrev pub at : List ℕ → ℕ → ℕ
at ls n = get_or ls n 0

-- the numbers below this one
abbrev pub up_to : ℕ → List ℕ
up_to zero = []
up_to (suc n) = up_to n ++ n ∷ []

-- ---- subtopologies: each node's label is the number of the first node that it is connected with
abbrev pub relabel : ℕ → ℕ → List ℕ → List ℕ
relabel a b ls = map (λ l. cond (nat_eq l b) a l) ls

abbrev pub join_labels : List ℕ → ℕ → ℕ → List ℕ
join_labels ls l r = relabel (min l r) (max l r) ls ++ min l r ∷ []

-- a node behind a repartition topic begins a subtopology; one without lies with its input, a foreign-key join with its left side;
-- a join by key makes one subtopology of those of its sides
abbrev pub wired_label : List ℕ → Wiring → List ℕ
wired_label ls (wired.StreamSource t) = ls ++ length ls ∷ []
wired_label ls (wired.TableSource t) = ls ++ length ls ∷ []
wired_label ls (wired.StreamFilter f) = ls ++ at ls f ∷ []
wired_label ls (wired.TableFilter f) = ls ++ at ls f ∷ []
wired_label ls (wired.StreamMap f) = ls ++ at ls f ∷ []
wired_label ls (wired.TableMap f) = ls ++ at ls f ∷ []
wired_label ls (wired.KeySelected f) = ls ++ at ls f ∷ []
wired_label ls (wired.StreamAggregate f through) = ls ++ cond through (length ls) (at ls f) ∷ []
wired_label ls (wired.TableAggregate f) = ls ++ length ls ∷ []
wired_label ls (wired.Windowed f through) = ls ++ cond through (length ls) (at ls f) ∷ []
wired_label ls (wired.KeyJoin l r) = join_labels ls (at ls l) (at ls r)
wired_label ls (wired.ForeignKeyJoin l r) = ls ++ at ls l ∷ []

abbrev pub label_next : List ℕ → Kind → List ℕ
label_next ls k = wired_label ls (wiring_of k)

abbrev pub labels : Plan → List ℕ
labels p = fold label_next [] p.kinds

-- how many of the first n nodes are the first of their subtopology
abbrev pub firsts : List ℕ → ℕ → ℕ
firsts ls zero = 0
firsts ls (suc n) = firsts ls n + cond (nat_eq (at ls n) n) 1 0

-- the subtopology in which a node lies: they are numbered by their first nodes
abbrev pub sub_of : Plan → ℕ → ℕ
sub_of p n = firsts (labels p) (at (labels p) n)

abbrev pub sub_count : Plan → ℕ
sub_count p = firsts (labels p) (length p.kinds)

-- ---- partition counts of nodes: that of its topic, of its input, or of its left side
abbrev pub wired_parts : List ℕ → List ℕ → Wiring → List ℕ
wired_parts counts cs (wired.StreamSource t) = cs ++ at counts t ∷ []
wired_parts counts cs (wired.TableSource t) = cs ++ at counts t ∷ []
wired_parts counts cs (wired.StreamFilter f) = cs ++ at cs f ∷ []
wired_parts counts cs (wired.TableFilter f) = cs ++ at cs f ∷ []
wired_parts counts cs (wired.StreamMap f) = cs ++ at cs f ∷ []
wired_parts counts cs (wired.TableMap f) = cs ++ at cs f ∷ []
wired_parts counts cs (wired.KeySelected f) = cs ++ at cs f ∷ []
wired_parts counts cs (wired.StreamAggregate f through) = cs ++ at cs f ∷ []
wired_parts counts cs (wired.TableAggregate f) = cs ++ at cs f ∷ []
wired_parts counts cs (wired.Windowed f through) = cs ++ at cs f ∷ []
wired_parts counts cs (wired.KeyJoin l r) = cs ++ at cs l ∷ []
wired_parts counts cs (wired.ForeignKeyJoin l r) = cs ++ at cs l ∷ []

-- those of nodes, after these input topics
abbrev pub node_parts : List ℕ → List Kind → List ℕ
node_parts counts ks = fold (λ cs k. wired_parts counts cs (wiring_of k)) [] ks

abbrev pub parts_of : Plan → ℕ → ℕ
parts_of p n = at (node_parts p.counts p.kinds) n

-- ---- the input topic as whose keys a node's are spread: that of its topic, of its input, or of its left side; none behind a
-- repartition topic, whose keys are spread as a whole
abbrev pub origin_at : List (Option ℕ) → ℕ → Option ℕ
origin_at os n = get_or os n None

abbrev pub wired_origin : List (Option ℕ) → Wiring → Option ℕ
wired_origin os (wired.StreamSource t) = Some t
wired_origin os (wired.TableSource t) = Some t
wired_origin os (wired.StreamFilter f) = origin_at os f
wired_origin os (wired.TableFilter f) = origin_at os f
wired_origin os (wired.StreamMap f) = origin_at os f
wired_origin os (wired.TableMap f) = origin_at os f
wired_origin os (wired.KeySelected f) = origin_at os f
wired_origin os (wired.StreamAggregate f through) = cond through None (origin_at os f)
wired_origin os (wired.TableAggregate f) = None
wired_origin os (wired.Windowed f through) = cond through None (origin_at os f)
wired_origin os (wired.KeyJoin l r) = origin_at os l
wired_origin os (wired.ForeignKeyJoin l r) = origin_at os l

abbrev pub with_origin : List (Option ℕ) → Wiring → List (Option ℕ)
with_origin os w = os ++ wired_origin os w ∷ []

abbrev pub node_origins : List Kind → List (Option ℕ)
node_origins ks = fold (λ os k. with_origin os (wiring_of k)) [] ks

abbrev pub before_at : List (Option Name) → ℕ → Option Name
before_at bs t = get_or bs t None

-- the text that is stated for the topic of an origin
abbrev pub stated_for : List (Option Name) → Option ℕ → Option Name
stated_for bs o = option_and_then (before_at bs) o

abbrev pub before_of : Plan → ℕ → Option Name
before_of p n = stated_for p.befores (origin_at (node_origins p.kinds) n)

-- how keys are spread: over how many partitions, and by which front part, if not as a whole
abbrev pub spread_of : Plan → ℕ → Spread
spread_of p n = record { parts = parts_of p n; before = before_of p n }

abbrev pub no_kind : Kind
no_kind = StreamSource 0

abbrev pub kind_at : Plan → ℕ → Kind
kind_at p n = get_or p.kinds n no_kind

-- the right side of a foreign-key join
abbrev pub wired_right : Wiring → ℕ
wired_right (wired.ForeignKeyJoin l r) = r
wired_right _ = 0

abbrev pub right_of : Kind → ℕ
right_of k = wired_right (wiring_of k)

-- ---- topics
-- the topic of a source
abbrev pub wired_reads : ℕ → Wiring → Bool
wired_reads t (wired.StreamSource u) = nat_eq u t
wired_reads t (wired.TableSource u) = nat_eq u t
wired_reads t _ = false

-- the internal topics of a node that its own parts read
abbrev pub wired_through : ℕ → Wiring → List Topic
wired_through n (wired.StreamAggregate f through) = cond through (Repartition n ∷ []) []
wired_through n (wired.TableAggregate f) = Repartition n ∷ []
wired_through n (wired.Windowed f through) = cond through (Repartition n ∷ []) []
wired_through n (wired.ForeignKeyJoin l r) = Subscriptions n ∷ Responses n ∷ []
wired_through n _ = []

-- the changelogs of its stores
abbrev pub wired_changelogs : ℕ → Wiring → List Topic
wired_changelogs n (wired.ForeignKeyJoin l r) = Changelog n ∷ HashChangelog n ∷ []
wired_changelogs n w = cond (gives_stream w) [] (Changelog n ∷ [])

abbrev pub through_topics : ℕ → Kind → List Topic
through_topics n k = wired_through n (wiring_of k)

abbrev pub changelogs_of : ℕ → Kind → List Topic
changelogs_of n k = wired_changelogs n (wiring_of k)

-- over the nodes with their numbers
abbrev pub by_node : {K : Type 0} → (ℕ → K → List Topic) → ℕ → List K → List Topic
by_node f n [] = []
by_node f n (k ∷ ks) = f n k ++ by_node f (suc n) ks

abbrev pub input_topics : Plan → List Topic
input_topics p = map Input (up_to (length p.counts))

-- by number: inputs by name, then the topics between nodes, then the changelogs, both by node
abbrev pub topics_of : Plan → List Topic
topics_of p = input_topics p ++ by_node through_topics 0 p.kinds ++ by_node changelogs_of 0 p.kinds

-- a topic's number is its place in this list
abbrev pub place_of : List Topic → Topic → ℕ
place_of [] t = 0
place_of (u ∷ us) t = cond (same_topic u t) 0 (suc (place_of us t))

abbrev pub number_of : Plan → Topic → ℕ
number_of p t = place_of (topics_of p) t

abbrev pub topic_at : Plan → ℕ → Option Topic
topic_at p n = slice_get (topics_of p) n

abbrev pub parts_of_topic : Plan → Topic → ℕ
parts_of_topic p (Input t) = at p.counts t
parts_of_topic p (Repartition n) = parts_of p n
parts_of_topic p (Subscriptions n) = parts_of p (right_of (kind_at p n))
parts_of_topic p (Responses n) = parts_of p n
parts_of_topic p (Changelog n) = parts_of p n
parts_of_topic p (HashChangelog n) = parts_of p (right_of (kind_at p n))

-- a topic between nodes is spread as the node that it feeds: subscriptions as the rows of the right side, responses as those of the left
-- one; a repartition topic by the whole key, since its node has no origin
abbrev pub before_of_topic : Plan → Topic → Option Name
before_of_topic p (Input t) = before_at p.befores t
before_of_topic p (Repartition n) = before_of p n
before_of_topic p (Subscriptions n) = before_of p (right_of (kind_at p n))
before_of_topic p (Responses n) = before_of p n
before_of_topic p (Changelog n) = before_of p n
before_of_topic p (HashChangelog n) = before_of p (right_of (kind_at p n))

abbrev pub spread_of_topic : Plan → Topic → Spread
spread_of_topic p t = record { parts = parts_of_topic p t; before = before_of_topic p t }

-- ---- who reads what
abbrev pub is_source_of : ℕ → Kind → Bool
is_source_of t k = wired_reads t (wiring_of k)

abbrev pub any_source_of : ℕ → List Kind → Bool
any_source_of t [] = false
any_source_of t (k ∷ ks) = is_source_of t k || any_source_of t ks

abbrev pub is_read : Plan → ℕ → Bool
is_read p t = any_source_of t p.kinds

-- the first source of a topic among nodes that are numbered from this one
abbrev pub first_source_of : ℕ → ℕ → List Kind → ℕ
first_source_of t n [] = n
first_source_of t n (k ∷ ks) = cond (is_source_of t k) n (first_source_of t (suc n) ks)

abbrev pub source_of : Plan → ℕ → ℕ
source_of p t = first_source_of t 0 p.kinds

-- the subtopology that reads a topic, or writes a changelog; a topic that nobody reads has one beyond all
abbrev pub reads : Plan → Topic → ℕ
reads p (Input t) = cond (is_read p t) (sub_of p (source_of p t)) (sub_count p)
reads p (Repartition n) = sub_of p n
reads p (Subscriptions n) = sub_of p (right_of (kind_at p n))
reads p (Responses n) = sub_of p n
reads p (Changelog n) = sub_of p n
reads p (HashChangelog n) = sub_of p (right_of (kind_at p n))

-- the drain order is by number: without changelogs, and without inputs that nobody reads
abbrev pub is_drained : Plan → Topic → Bool
is_drained p (Input t) = is_read p t
is_drained p _ = true

abbrev pub drain_order : Plan → List Topic
drain_order p = filter (is_drained p) (input_topics p ++ by_node through_topics 0 p.kinds)

-- of a subtopology; both rise by number
abbrev pub inputs : Plan → ℕ → List Topic
inputs p sub = filter (λ t. nat_eq (reads p t) sub) (drain_order p)

abbrev pub changelogs : Plan → ℕ → List Topic
changelogs p sub = filter (λ t. nat_eq (reads p t) sub) (by_node changelogs_of 0 p.kinds)

-- ---- tasks
-- the first of these nodes with this subtopology
abbrev pub first_in : ℕ → List ℕ → ℕ
first_in sub [] = 0
first_in sub (s ∷ ss) = cond (nat_eq s sub) 0 (suc (first_in sub ss))

-- the subtopologies of all nodes
abbrev pub subs : Plan → List ℕ
subs p = map (sub_of p) (up_to (length p.kinds))

-- a subtopology has as many tasks as its first node has partitions, and so has each of its nodes
abbrev pub sub_parts : Plan → ℕ → ℕ
sub_parts p sub = parts_of p (first_in sub (subs p))

abbrev pub tasks_in : Plan → ℕ → List TaskId
tasks_in p sub = map (λ part. record { sub = sub; part = part }) (up_to (sub_parts p sub))

-- by subtopology, then by partition
abbrev pub tasks : Plan → List TaskId
tasks p = flat_map (tasks_in p) (up_to (sub_count p))
