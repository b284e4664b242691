-- One whole step of a task: what it makes of one record, whatever nodes its subtopology has.
-- All tables of a step change at one key, the record's. Each node has there an old and a new stored value, and an item where it
-- is a stream; what it sends and what it writes into its changelogs are functions of these. The nodes act in list order, each
-- once: a node's new value is made of the new values of the nodes before it.
-- Kafka Streams developer guide, "Stream partitions and tasks": a task takes one record at a time through its whole subtopology.
use Rattle.std.specs.Prelude.{ℕ, suc, ◌+◌, List, [], ◌∷◌, ◌++◌, map, Option, Some, None, Bool, ◌||◌, not, cond, option_map, option_and_then, is_none}
use Rattle.ks_expr.specs.declared.terms.JoinKind.{JoinKind}
use Rattle.ks_expr.specs.declared.terms.Fk.{Fk}
use Rattle.ks_expr.specs.Terms.{Set}
use Rattle.ks_expr.specs.Eval.{Row, same_bytes, holds, project, joined}
use Rattle.ks_query.specs.Streams.{Key}
use Rattle.ks_plan.specs.Plan.{Plan, Kind}
use Rattle.ks_plan.specs.Plan.Kind.{StreamSource, TableSource, StreamFilter, TableFilter, StreamMap, TableMap, KeySelected, StreamAggregate, TableAggregate, Windowed, KeyJoin, ForeignKeyJoin}
use Rattle.ks_plan.specs.declared.node.Topic.{Topic}
use Rattle.ks_plan.specs.Layout.{same_topic, kind_at}
use Rattle.ks_plan.specs.declared.node.Topic.TheVariants.{Input, Repartition, Subscriptions, Responses, Changelog, HashChangelog}
use Rattle.ks_def_runs.specs.FinMap as map
use Rattle.ks_def_runs.specs.FinMap.{FinMap}
use Rattle.ks_def_runs.specs.Bytes.{by_bytes}
use Rattle.ks_def_runs.specs.Table.{write}
use Rattle.ks_query.specs.Streams.{StreamItem, filter_item, map_item, rekey_item, group_key}
use Rattle.ks_query.specs.Query.{with_number}
use Rattle.ks_wire.specs.declared.values.Delta.{Delta}
use Rattle.ks_wire.specs.declared.values.Response.{Response}
use Rattle.ks_wire.specs.declared.values.Subscriber.{Subscriber}
use Rattle.ks_query.specs.Aggregates.{stream_add, table_apply, table_parts}
use Rattle.ks_def_tasks.specs.Messages.{Stored, shown, agg_of, Subscription, Message, Item, Store, Rules, same_row, same_option, same_stored, same_subscriber}
use Rattle.ks_def_tasks.specs.Messages.Stored.{OfRow, OfAgg}
use Rattle.ks_def_tasks.specs.Messages.Message.{Given, Keyed, Moved, Asked, Answered, Kept, KeptHash}
use Rattle.ks_def_tasks.specs.Windowed.{Counted, not_counted, count_item}
use Rattle.ks_def_tasks.specs.Foreign.{Sending, subscriptions, is_direct, direct_row, subscribed, answer_to, answer_all, respond}

-- what arrives: a record of a topic; and the partition that a subscription of each join names, where it names one
pub record Arrival : Type 0 where
  pub topic : Topic
  pub item : Item
  pub names : ℕ → Option ℕ

-- the key at which the step's tables change
abbrev pub step_key : Message → Option Key
step_key (Given k v) = k
step_key (Keyed g row) = Some g
step_key (Moved g d) = Some g
step_key (Answered p r) = Some p
step_key _ = None

-- the message that arrived, where it arrived at this topic
abbrev pub arrived : Arrival → Topic → Option Message
arrived a t = cond (same_topic a.topic t) (Some a.item.message) None

-- ---- stream items
-- a record without a value is no item
abbrev pub item_given : ℕ → Option Message → Option StreamItem
item_given time (Some (Given k (Some v))) = Some (record { key = k; row = v; time = time })
item_given time _ = None

abbrev pub item_keyed : ℕ → Option Message → Option StreamItem
item_keyed time (Some (Keyed g row)) = Some (record { key = Some g; row = row; time = time })
item_keyed time _ = None

-- the item that a stream node passes on
abbrev pub item_at : Arrival → (ℕ → Option StreamItem) → Kind → Option StreamItem
item_at a items (StreamSource t) = item_given a.item.time (arrived a (Input t))
item_at a items (StreamFilter f p) = option_and_then (filter_item p) (items f)
item_at a items (StreamMap f s) = option_and_then (map_item s) (items f)
item_at a items (KeySelected f k) = option_and_then (rekey_item k) (items f)
item_at a items _ = None

abbrev pub items_from : Arrival → (ℕ → Option StreamItem) → ℕ → List Kind → ℕ → Option StreamItem
items_from a items n [] = items
items_from a items n (k ∷ ks) = items_from a (with_number items n (item_at a items k)) (suc n) ks

-- the item that an aggregate over a stream takes: of its repartition topic, or of its input
abbrev pub item_into : Arrival → (ℕ → Option StreamItem) → ℕ → ℕ → Bool → Option StreamItem
item_into a items n f through = cond through (item_keyed a.item.time (arrived a (Repartition n))) (items f)

-- ---- tables, at the step's key: stored values by node
abbrev pub Values : Type 0
Values = ℕ → Option Stored

abbrev pub row_in : Values → ℕ → Option Row
row_in values n = option_map shown (values n)

-- a node passes a change on where its row changes
abbrev pub changed : Values → Values → ℕ → Bool
changed olds news n = not (same_option same_row (row_in olds n) (row_in news n))

abbrev pub of_row : Option Row → Option Stored
of_row row = option_map OfRow row

abbrev pub kept_row : (Row → Option Row) → Option Row → Option Stored
kept_row f row = of_row (option_and_then f row)

-- a source's record: its value becomes the row, or deletes it
abbrev pub taken_row : Option Stored → Option Message → Option Stored
taken_row old (Some (Given k v)) = of_row v
taken_row old _ = old

abbrev pub added : Option (List ℕ) → Option Stored → Option StreamItem → Option Stored
added field old None = old
added field old (Some x) = Some (OfAgg (is_none field) (stream_add field (agg_of old) x.row))

abbrev pub applied : Option (List ℕ) → Option Stored → Option Message → Option Stored
applied field old (Some (Moved g d)) = option_map (OfAgg (is_none field)) (table_apply (agg_of old) d)
applied field old _ = old

-- the result after a change of the left row at a key: set at once, or as it was
abbrev pub direct : Fk → Option Key → JoinKind → Set → Option Row → Option Row → Option Stored → Option Stored
direct fk None kind set old new result = result
direct fk (Some k) kind set old new result = cond (is_direct fk k old new) (of_row (direct_row kind set new)) result

abbrev pub set_result : Option (Option Row) → Option Stored → Option Stored
set_result None result = result
set_result (Some row) result = of_row row

-- the result after a response: set, or as it was
abbrev pub responded : Rules → JoinKind → Set → Option Row → Option Message → Option Stored → Option Stored
responded rules kind set left (Some (Answered p r)) result = set_result (respond rules.hash kind set left r) result
responded rules kind set left _ result = result

-- the stored value that a node has after the step
abbrev pub value_at : Rules → Arrival → (ℕ → Option StreamItem) → Values → Values → ℕ → Kind → Option Stored
value_at rules a items olds news n (TableSource t) = taken_row (olds n) (arrived a (Input t))
value_at rules a items olds news n (TableFilter f p) = cond (changed olds news f) (kept_row (λ v. cond (holds p v) (Some v) None) (row_in news f)) (olds n)
value_at rules a items olds news n (TableMap f s) = cond (changed olds news f) (kept_row (λ v. project s (Some v) None) (row_in news f)) (olds n)
value_at rules a items olds news n (StreamAggregate f by field through) = added field (olds n) (item_into a items n f through)
value_at rules a items olds news n (TableAggregate f by field) = applied field (olds n) (arrived a (Repartition n))
value_at rules a items olds news n (KeyJoin l r kind s) = cond (changed olds news l || changed olds news r) (of_row (joined kind s (row_in news l) (row_in news r))) (olds n)
value_at rules a items olds news n (ForeignKeyJoin l r fk kind s) =
    cond (changed olds news l) (direct fk (step_key a.item.message) kind s (row_in olds l) (row_in news l) (olds n)) (responded rules kind s (row_in news l) (arrived a (Responses n)) (olds n))
value_at rules a items olds news n _ = olds n

-- the nodes act in list order, each once
abbrev pub values_from : Rules → Arrival → (ℕ → Option StreamItem) → Values → Values → ℕ → List Kind → Values
values_from rules a items olds news n [] = news
values_from rules a items olds news n (k ∷ ks) = values_from rules a items olds (with_number news n (value_at rules a items olds news n k)) (suc n) ks

-- ---- windowed counts
abbrev pub counted_at : Arrival → (ℕ → Option StreamItem) → Store → ℕ → Kind → Counted
counted_at a items st n (Windowed f by w through) = count_item w (st.times n) (st.counts n) (item_into a items n f through)
counted_at a items st n _ = not_counted (st.times n) (st.counts n)

-- ---- subscription stores
abbrev pub subscribe_at : Option Message → (Key → FinMap by_bytes Subscriber) → Key → FinMap by_bytes Subscriber
subscribe_at (Some (Asked c p s)) old b = cond (same_bytes b c) (write by_bytes (old b) p (subscribed s)) (old b)
subscribe_at _ old b = old b

abbrev pub hashes_after : Arrival → Store → ℕ → Key → FinMap by_bytes Subscriber
hashes_after a st n b = subscribe_at (arrived a (Subscriptions n)) (st.hashes n) b

abbrev pub hash_changes : Store → ℕ → Option Message → List Message
hash_changes st n (Some (Asked b p s)) = cond (same_option same_subscriber (map.get (st.hashes n b) p) (subscribed s)) [] (KeptHash b p (subscribed s) ∷ [])
hash_changes st n _ = []

-- ---- what a node sends: topics with keys and messages; by the key, or to a partition that was named, if one was
pub data To : Type 0 where
  ByKey : To
  Named : Option ℕ → To

pub record Sent : Type 0 where
  pub topic : Topic
  pub key : Key
  pub to : To
  pub message : Message

abbrev pub keyed_to : ℕ → Row → Option Key → List Sent
keyed_to n row None = []
keyed_to n row (Some g) = record { topic = Repartition n; key = g; to = ByKey; message = Keyed g row } ∷ []

-- the sending part of an aggregate over a stream
abbrev pub regroup : Option (List ℕ) → ℕ → Option StreamItem → List Sent
regroup by n None = []
regroup by n (Some x) = keyed_to n x.row (group_key by x)

abbrev pub send_deltas : ℕ → List (Key × Delta) → List Sent
send_deltas n ds = map (λ d. record { topic = Repartition n; key = d.0; to = ByKey; message = Moved d.0 d.1 }) ds

-- the sending part of an aggregate over a table; of a row that stays it sends nothing
abbrev pub regroup_rows : List ℕ → Option (List ℕ) → ℕ → Option Row → Option Row → List Sent
regroup_rows by field n old new = send_deltas n (table_parts by field old new)

abbrev pub send_subscriptions : ℕ → Key → List (Key × Subscription) → List Sent
send_subscriptions n p ss = map (λ s. record { topic = Subscriptions n; key = s.0; to = ByKey; message = Asked s.0 p s.1 }) ss

abbrev pub send_responses : ℕ → List Sending → List Sent
send_responses n rs = map (λ r. record { topic = Responses n; key = r.0; to = Named r.2; message = Answered r.0 r.1 }) rs

abbrev pub answer_of : Key → Option ℕ → Option Response → List Sending
answer_of p part None = []
answer_of p part (Some r) = (p, r, part) ∷ []

-- the answer to a subscription, with the right row of the moment
abbrev pub answer_one : ℕ → Store → ℕ → Option Message → List Sent
answer_one n st r (Some (Asked b p s)) = send_responses n (answer_of p s.part (answer_to s (option_map shown (map.get (st.tables r) b))))
answer_one n st r _ = []

-- the parts of a join on a foreign key at a key: the left part, then the right one
abbrev pub join_sends : Rules → Fk → Option ℕ → ℕ → ℕ → ℕ → Store → Values → Values → Option Key → List Sent
join_sends rules fk part n l r st olds news None = []
join_sends rules fk part n l r st olds news (Some k) =
    cond (changed olds news l) (send_subscriptions n k (subscriptions rules.hash fk k part (row_in olds l) (row_in news l))) []
    ++ cond (changed olds news r) (send_responses n (answer_all (row_in news r) (map.entries (st.hashes n k)))) []

abbrev pub sends_at : Rules → Arrival → (ℕ → Option StreamItem) → Store → Values → Values → ℕ → Kind → List Sent
sends_at rules a items st olds news n (StreamAggregate f by field through) = cond through (regroup by n (items f)) []
sends_at rules a items st olds news n (Windowed f by w through) = cond through (regroup by n (items f)) []
sends_at rules a items st olds news n (TableAggregate f by field) = regroup_rows by field n (row_in olds f) (row_in news f)
sends_at rules a items st olds news n (ForeignKeyJoin l r fk kind s) =
    join_sends rules fk (a.names n) n l r st olds news (step_key a.item.message) ++ answer_one n st r (arrived a (Subscriptions n))
sends_at rules a items st olds news n _ = []

-- ---- what a node writes into its changelogs: a record where its stored value changes
pub record Written : Type 0 where
  pub topic : Topic
  pub message : Message

abbrev pub write_all : Topic → List Message → List Written
write_all t ms = map (λ m. record { topic = t; message = m }) ms

abbrev pub value_changes : Option Key → Option Stored → Option Stored → List Message
value_changes None old new = []
value_changes (Some k) old new = cond (same_option same_stored old new) [] (Kept k new ∷ [])

abbrev pub changes_at : Arrival → (ℕ → Option StreamItem) → Store → Values → Values → ℕ → Kind → List Written
changes_at a items st olds news n k =
    write_all (Changelog n) (value_changes (step_key a.item.message) (olds n) (news n) ++ (counted_at a items st n k).changes)
    ++ write_all (HashChangelog n) (hash_changes st n (arrived a (Subscriptions n)))

-- ---- the whole step
abbrev pub over_nodes : {A : Type 0} → (ℕ → Kind → List A) → ℕ → List Kind → List A
over_nodes f n [] = []
over_nodes f n (k ∷ ks) = f n k ++ over_nodes f (suc n) ks

abbrev pub late_over : (ℕ → Kind → Counted) → ℕ → List Kind → ℕ
late_over f n [] = 0
late_over f n (k ∷ ks) = (f n k).late + late_over f (suc n) ks

abbrev pub olds_at : Store → Option Key → Values
olds_at st None n = None
olds_at st (Some k) n = map.get (st.tables n) k

abbrev pub news_at : Rules → Plan → Arrival → (ℕ → Option StreamItem) → Values → Option Key → Values
news_at rules p a items olds None = olds
news_at rules p a items olds (Some k) = values_from rules a items olds olds 0 p.kinds

abbrev pub tables_after : Store → Values → Option Key → ℕ → FinMap by_bytes Stored
tables_after st news None n = st.tables n
tables_after st news (Some k) n = write by_bytes (st.tables n) k (news n)

pub record Made : Type 0 where
  pub store : Store
  pub sends : List Sent
  pub changes : List Written
  -- how many pairs of an item and a window were late
  pub late : ℕ

abbrev pub whole_step : Rules → Plan → Store → Arrival → Made
whole_step rules p st a =
    let key = step_key a.item.message in
    let items = items_from a (λ n. None) 0 p.kinds in
    let olds = olds_at st key in
    let news = news_at rules p a items olds key in
    record {
      store = record {
        tables = tables_after st news key;
        counts = λ n. (counted_at a items st n (kind_at p n)).counts;
        times = λ n. (counted_at a items st n (kind_at p n)).time;
        hashes = hashes_after a st;
      };
      sends = over_nodes (sends_at rules a items st olds news) 0 p.kinds;
      changes = over_nodes (changes_at a items st olds news) 0 p.kinds;
      late = late_over (counted_at a items st) 0 p.kinds;
    }
