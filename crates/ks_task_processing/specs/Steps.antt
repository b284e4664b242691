-- One whole step of a task over the bytes of its stores, in the machine's own words, by the nodes as the task runs them.
use Rattle.std.specs.Prelude.{not, ℕ, ◌+◌, ◌==◌, Bool, cond, nat_lt, List, [], ◌∷◌, ◌++◌, map, Option, Some, None, option_map, slice_get, if◌then◌else◌}
use Rattle.std.specs.List.{flat_map}
use Rattle.ks_row.specs.Reading.{◌>>=◌}
use Rattle.ks_record.specs.Records.{Record as Rec}
use Rattle.ks_record.specs.declared.record.PartId.{PartId}
use Rattle.ks_def_runs.specs.FinMap as fin
use Rattle.ks_hash.specs.Partition.{part_of_key}
use Rattle.ks_wire.specs.Values.{SubscriptionValue}
use Rattle.ks_wire.specs.Spelling.{subscription_key, subscription_bytes, subscriber_bytes}
use Rattle.ks_wire.specs.Reading.{subscriber_from}
use Rattle.ks_wire.specs.declared.values.Subscriber.{Subscriber}
use Rattle.ks_expr.specs.declared.terms.Fk.{Fk}
use Rattle.ks_expr.specs.Keys.{spread_part}
use Rattle.ks_expr.specs.Eval.{Row}
use Rattle.ks_plan.specs.Plan.{Kind}
use Rattle.ks_plan.specs.Plan.Kind.{StreamAggregate, TableAggregate, Windowed, ForeignKeyJoin}
use Rattle.ks_plan.specs.declared.node.Topic.{Topic}
use Rattle.ks_plan.specs.declared.node.Topic.TheVariants.{Subscriptions}
use Rattle.ks_query.specs.Streams.{Key, StreamItem}
use Rattle.ks_def_tasks.specs.Messages.{shown, Message, Rules, same_option, same_row, same_subscriber}
use Rattle.ks_def_tasks.specs.Messages.Message.{Asked, KeptHash}
use Rattle.ks_def_tasks.specs.Foreign.{subscriptions, subscribed, answer_to, answer_all}
use Rattle.ks_def_tasks.specs.Step.To.{ByKey, Named}
use Rattle.ks_def_tasks.specs.Step.{Arrival, Values, To, Sent, arrived, send_subscriptions, send_responses, answer_of, step_key, row_in, regroup, regroup_rows, item_into, value_changes}
use Rattle.ks_def_tasks.specs.Bytes.{ByteStores, rec_of}
use Rattle.ks_def_lookups.specs.Kept.{kept_under}
use Rattle.ks_def_lookups.specs.Windows.{CountedBytes}
use Rattle.ks_def_lookups.specs.Lists.{item_in, all_items, value_in}
use Rattle.ks_def_lookups.specs.Counts.{nothing_counted, counted_item}
use Rattle.ks_task_nodes.specs.Nodes.{TaskNode, kinds_in}
use Rattle.ks_task_nodes.specs.Reach.{NoItems, SameValues}
use Rattle.ks_task_values.specs.Changes.{in_list}
use Rattle.ks_task_values.specs.declared.taken.Step.{Step}
use Rattle.ks_task_values.specs.Values.{old_list, new_list}

-- of any node that the step doesn't go through there is no item, and the value stays
pub record IsQuiet (s : Step) (items : ℕ → Option StreamItem) (olds news : Values) : Type 0 where
  pub none : NoItems s.live.now items
  pub same : SameValues s.live.now olds news

-- ---- what is sent, and what is written into changelogs
-- of 0 partitions there is none to choose
abbrev pub part_in : Key → ℕ → ℕ
part_in key n = if n == 0 then 0 else part_of_key key n

-- the subscribers that a join on a foreign key keeps under a key
abbrev pub kept_at : ByteStores → TaskNode → Key → List (Key × Subscriber)
kept_at stores node b = cond node.topics.has_right (kept_under b (stores node.topics.hash_changelog)) []

-- the partition that a join's subscriptions name, where they name one
abbrev pub named_by : TaskNode → ℕ → Option ℕ
named_by node part = cond node.names_partition (Some part) None

abbrev pub is_other_row : Option Row → Option Row → Bool
is_other_row old new = not (same_option same_row old new)

abbrev pub left_sends : Rules → ℕ → TaskNode → Fk → Key → Option Row → Option Row → List Sent
left_sends rules part node fk k old new = cond (is_other_row old new) (send_subscriptions node.topics.number k (subscriptions rules.hash fk k (named_by node part) old new)) []

abbrev pub right_sends : ByteStores → TaskNode → Key → Option Row → Option Row → List Sent
right_sends stores node k old new = cond (is_other_row old new) (send_responses node.topics.number (answer_all new (kept_at stores node k))) []

abbrev pub join_here : Rules → ByteStores → ℕ → TaskNode → Fk → ℕ → ℕ → Values → Values → Option Key → List Sent
join_here rules stores part node fk l r olds news None = []
join_here rules stores part node fk l r olds news (Some k) =
    left_sends rules part node fk k (row_in olds l) (row_in news l) ++ right_sends stores node k (row_in olds r) (row_in news r)

abbrev pub answer_here : List TaskNode → ByteStores → ℕ → ℕ → Option Message → List Sent
answer_here nodes stores n r (Some (Asked b k q)) = send_responses n (answer_of k q.part (answer_to q (option_map shown (in_list (old_list stores (Some b) nodes) r))))
answer_here nodes stores n r _ = []

abbrev pub sends_of : Rules → List TaskNode → ByteStores → ℕ → Arrival → (ℕ → Option StreamItem) → Values → Values → TaskNode → Kind → List Sent
sends_of rules nodes stores part a items olds news node (StreamAggregate f by field through) = cond through (regroup by node.topics.number (items f)) []
sends_of rules nodes stores part a items olds news node (Windowed f by w through) = cond through (regroup by node.topics.number (items f)) []
sends_of rules nodes stores part a items olds news node (TableAggregate f by field) = regroup_rows by field node.topics.number (row_in olds f) (row_in news f)
sends_of rules nodes stores part a items olds news node (ForeignKeyJoin l r fk kind set) =
    join_here rules stores part node fk l r olds news (step_key a.item.message) ++ answer_here nodes stores node.topics.number r (arrived a (Subscriptions node.topics.number))
sends_of rules nodes stores part a items olds news node _ = []

-- the places of what is sent: of a group, by the whole key; of a foreign key, as the right side's keys are spread
abbrev pub grouped_at : TaskNode → Key → PartId
grouped_at node g = record { topic = node.topics.repartition; part = part_in (spread_part None g) node.topics.partitions }

abbrev pub asked_at : TaskNode → Key → PartId
asked_at node b = record { topic = node.topics.subscriptions; part = part_in (spread_part node.right_before b) node.topics.right_partitions }

-- of a response to a left key: the partition that was named, where the topic has it; where none was named, by the whole key
abbrev pub answered_part : TaskNode → Key → Option ℕ → Option ℕ
answered_part node k None = Some (part_in (spread_part None k) node.topics.partitions)
answered_part node k (Some i) = cond (nat_lt i node.topics.partitions) (Some i) None

abbrev pub answered_at : TaskNode → Key → Option ℕ → Option PartId
answered_at node k named = option_map (λ i. record { topic = node.topics.responses; part = i }) (answered_part node k named)

abbrev pub place_by : TaskNode → Topic → Key → To → Option PartId
place_by node t k (Named named) = answered_at node k named
place_by node (Subscriptions n) k ByKey = Some (asked_at node k)
place_by node _ k ByKey = Some (grouped_at node k)

abbrev pub sent_at : ℕ → Message → Option PartId → List (PartId × Rec)
sent_at time m None = []
sent_at time m (Some at) = (at, rec_of (record { message = m; time = time })) ∷ []

abbrev pub sent_by : TaskNode → ℕ → Sent → List (PartId × Rec)
sent_by node time x = sent_at time x.message (place_by node x.topic x.key x.to)

-- a subscription as it is written
abbrev pub asked_by : TaskNode → ℕ → Key × SubscriptionValue → PartId × Rec
asked_by node time x = (asked_at node x.0, record { key = Some x.0; value = Some (subscription_bytes x.1); ts = time })

abbrev pub sends_by : Rules → List TaskNode → ByteStores → ℕ → Arrival → (ℕ → Option StreamItem) → Values → Values → TaskNode → List (PartId × Rec)
sends_by rules nodes stores part a items olds news node = flat_map (sent_by node a.item.time) (sends_of rules nodes stores part a items olds news node node.kind)

-- of these nodes, among all
abbrev pub all_sends : Rules → List TaskNode → ByteStores → ℕ → Arrival → (ℕ → Option StreamItem) → Values → Values → List TaskNode → List (PartId × Rec)
all_sends rules all stores part a items olds news [] = []
all_sends rules all stores part a items olds news (node ∷ nodes) = sends_by rules all stores part a items olds news node ++ all_sends rules all stores part a items olds news nodes

abbrev pub told_by : TaskNode → ℕ → ℕ → Message → PartId × Rec
told_by node part time m = (record { topic = node.topics.changelog; part = part }, rec_of (record { message = m; time = time }))

abbrev pub change_by : ℕ → Arrival → Values → Values → TaskNode → List (PartId × Rec)
change_by part a olds news node = map (told_by node part a.item.time) (value_changes (step_key a.item.message) (olds node.topics.number) (news node.topics.number))

-- of a windowed count that the task keeps
abbrev pub counts_by : ByteStores → Arrival → (ℕ → Option StreamItem) → TaskNode → Kind → CountedBytes
counts_by stores a items node (Windowed f by w through) = cond node.topics.is_own (counted_item w (stores node.topics.changelog) (item_into a items node.topics.number f through)) (nothing_counted (stores node.topics.changelog))
counts_by stores a items node _ = nothing_counted (stores node.topics.changelog)

abbrev pub counts_at : ByteStores → Arrival → (ℕ → Option StreamItem) → TaskNode → CountedBytes
counts_at stores a items node = counts_by stores a items node node.kind

abbrev pub at_part : ℕ → ℕ → Rec → PartId × Rec
at_part log part r = (record { topic = log; part = part }, r)

-- the subscriber at a subscription's key
abbrev pub subscriber_under : ByteStores → TaskNode → List ℕ → Option Subscriber
subscriber_under stores node key = cond node.topics.has_right (fin.get (stores node.topics.hash_changelog) key >>= subscriber_from) None

-- at a foreign key and a left key
abbrev pub subscriber_found : ByteStores → TaskNode → Key → Key → Option Subscriber
subscriber_found stores node b k = subscriber_under stores node (subscription_key b k)

abbrev pub hash_here : ByteStores → TaskNode → Option Message → List Message
hash_here stores node (Some (Asked b k q)) = cond (same_option same_subscriber (subscriber_found stores node b k) (subscribed q)) [] (KeptHash b k (subscribed q) ∷ [])
hash_here stores node _ = []

abbrev pub hash_told : TaskNode → ℕ → ℕ → Message → PartId × Rec
hash_told node part time m = (record { topic = node.topics.hash_changelog; part = part }, rec_of (record { message = m; time = time }))

-- a subscriber as it is written at a subscription's key
abbrev pub kept_told : TaskNode → ℕ → ℕ → List ℕ → Option Subscriber → PartId × Rec
kept_told node part time key s = (record { topic = node.topics.hash_changelog; part = part }, record { key = Some key; value = option_map subscriber_bytes s; ts = time })

abbrev pub hashed_by : ℕ → ByteStores → Arrival → TaskNode → List (PartId × Rec)
hashed_by part stores a node = map (hash_told node part a.item.time) (hash_here stores node (arrived a (Subscriptions node.topics.number)))

abbrev pub recs_by : ℕ → ByteStores → Arrival → (ℕ → Option StreamItem) → Values → Values → TaskNode → List (PartId × Rec)
recs_by part stores a items olds news node = change_by part a olds news node ++ map (at_part node.topics.changelog part) (counts_at stores a items node).recs ++ hashed_by part stores a node

abbrev pub all_recs : ℕ → ByteStores → Arrival → (ℕ → Option StreamItem) → Values → Values → List TaskNode → List (PartId × Rec)
all_recs part stores a items olds news [] = []
all_recs part stores a items olds news (node ∷ nodes) = recs_by part stores a items olds news node ++ all_recs part stores a items olds news nodes

abbrev pub late_of : ByteStores → Arrival → (ℕ → Option StreamItem) → List TaskNode → ℕ
late_of stores a items [] = 0
late_of stores a items (node ∷ nodes) = (counts_at stores a items node).late + late_of stores a items nodes

-- of the nodes with these numbers, among all
abbrev pub late_by : ByteStores → Arrival → (ℕ → Option StreamItem) → Option TaskNode → ℕ
late_by stores a items None = 0
late_by stores a items (Some node) = (counts_at stores a items node).late

abbrev pub late_at_numbers : ByteStores → Arrival → (ℕ → Option StreamItem) → List TaskNode → List ℕ → ℕ
late_at_numbers stores a items all [] = 0
late_at_numbers stores a items all (n ∷ ns) = late_by stores a items (slice_get all n) + late_at_numbers stores a items all ns

-- all that a step makes: sends, then changelog records
abbrev pub made_with : Rules → List TaskNode → ByteStores → ℕ → Arrival → (ℕ → Option StreamItem) → Values → Values → List (PartId × Rec)
made_with rules nodes stores part a items olds news = all_sends rules nodes stores part a items olds news nodes ++ all_recs part stores a items olds news nodes

abbrev pub made_at : Rules → List TaskNode → ByteStores → ℕ → Arrival → (ℕ → Option StreamItem) → Values → Option Key → List (PartId × Rec)
made_at rules nodes stores part a items olds key = made_with rules nodes stores part a items olds (value_in olds (new_list rules a items olds key nodes))

abbrev pub made_of : Rules → List TaskNode → ByteStores → ℕ → Arrival → List (PartId × Rec)
made_of rules nodes stores part a =
    made_at rules nodes stores part a (item_in (all_items a [] (kinds_in nodes))) (in_list (old_list stores (step_key a.item.message) nodes)) (step_key a.item.message)

abbrev pub late_in : List TaskNode → ByteStores → Arrival → ℕ
late_in nodes stores a = late_of stores a (item_in (all_items a [] (kinds_in nodes))) nodes

abbrev pub late_or_none : List TaskNode → ByteStores → Option Arrival → ℕ
late_or_none nodes stores None = 0
late_or_none nodes stores (Some a) = late_in nodes stores a

abbrev pub made_or_none : Rules → List TaskNode → ByteStores → ℕ → Option Arrival → List (PartId × Rec)
made_or_none rules nodes stores part None = []
made_or_none rules nodes stores part (Some a) = made_of rules nodes stores part a
