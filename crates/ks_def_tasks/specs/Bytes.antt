-- The machine over bytes: records and stores as logs keep them. It reads a record, does the decoded step over the stores that the
-- bytes are, and spells what that step makes; its stores become what its own changelog records make of them.
-- Kafka Streams developer guide, "Memory management" and "State stores": a store is what its changelog says (also KIP-98 on why
-- both are written in one transaction).
use Rattle.std.specs.Prelude.{ℕ, List, [], ◌∷◌, map, fold, Option, Some, None, Bool, false, ◌||◌, ◌==◌, ◌&&◌, cond, nat_eq, nat_lt, option_map, is_none}
use Rattle.std.specs.List.{filter}
use Rattle.std.specs.declared.cmp.Ordering.{Ordering}
use Rattle.ks_record.specs.Texts.{key_from}
use Rattle.ks_row.specs.Spelling.{spelling}
use Rattle.ks_row.specs.Reading.{◌>>=◌, row_from}
use Rattle.ks_record.specs.Records.{Record as Rec}
use Rattle.ks_record.specs.declared.record.PartId.{PartId}
use Rattle.ks_record.specs.declared.record.TaskId.{TaskId}
use Rattle.ks_record.specs.Parts.{same_part}
use Rattle.ks_def_runs.specs.FinMap as fin
use Rattle.ks_def_runs.specs.FinMap.{FinMap}
use Rattle.ks_def_runs.specs.Bytes.{by_bytes, Store as ByteStore, empty_store as no_bytes}
use Rattle.ks_def_runs.specs.Table.{write}
use Rattle.ks_wire.specs.Spelling.{subscription_bytes, response_bytes, delta_bytes, agg_bytes, subscriber_bytes, subscription_key, window_key, time_key, time_bytes}
use Rattle.ks_wire.specs.Reading.{subscription_from, response_from, delta_from, agg_from, subscriber_from, time_from, subscription_key_from, window_key_from}
use Rattle.ks_wire.specs.declared.values.Agg.{Agg}
use Rattle.ks_wire.specs.declared.values.Subscriber.{Subscriber}
use Rattle.ks_expr.specs.Eval.{same_bytes}
use Rattle.ks_plan.specs.Plan.{Plan, Kind, is_windowed}
use Rattle.ks_plan.specs.Plan.Kind.{StreamAggregate, TableAggregate, Windowed}
use Rattle.ks_plan.specs.declared.node.Topic.{Topic}
use Rattle.ks_plan.specs.declared.node.Topic.TheVariants.{Input, Repartition, Subscriptions, Responses, Changelog, HashChangelog}
use Rattle.ks_plan.specs.Infos.{changelog_numbers}
use Rattle.ks_plan.specs.Layout.{number_of, topic_at, kind_at, parts_of_topic, reads, sub_count}
use Rattle.ks_def_runs.specs.Run.{Outcome}
use Rattle.ks_query.specs.Streams.{Key}
use Rattle.ks_query.specs.Windows.{by_window}
use Rattle.ks_def_tasks.specs.Messages.{Place, Stored, Message, Item, Store, Rules, value_of, subscription_of}
use Rattle.ks_def_tasks.specs.Messages.Stored.{OfRow, OfAgg}
use Rattle.ks_def_tasks.specs.Messages.Message.{Given, Keyed, Moved, Asked, Answered, Kept, KeptCount, KeptTime, KeptHash}
use Rattle.ks_def_tasks.specs.Tasks.{step, is_changelog, taker}

-- ---- the spelling of a message: the key and the value of its record
abbrev pub stored_bytes : Stored → List ℕ
stored_bytes (OfRow row) = spelling row
stored_bytes (OfAgg count a) = agg_bytes a

abbrev pub key_bytes : Message → Option (List ℕ)
key_bytes (Given k v) = k
key_bytes (Keyed g row) = Some g
key_bytes (Moved g d) = Some g
key_bytes (Asked b p s) = Some b
key_bytes (Answered p r) = Some p
key_bytes (Kept k w) = Some k
key_bytes (KeptCount w a) = Some (window_key w.0 w.1)
key_bytes (KeptTime t) = Some time_key
key_bytes (KeptHash b p h) = Some (subscription_key b p)

abbrev pub value_bytes : Message → Option (List ℕ)
value_bytes (Given k v) = option_map spelling v
value_bytes (Keyed g row) = Some (spelling row)
value_bytes (Moved g d) = Some (delta_bytes d)
value_bytes (Asked b p s) = Some (subscription_bytes (value_of p s))
value_bytes (Answered p r) = Some (response_bytes r)
value_bytes (Kept k w) = option_map stored_bytes w
value_bytes (KeptCount w a) = Some (agg_bytes a)
value_bytes (KeptTime t) = Some (time_bytes t)
value_bytes (KeptHash b p s) = option_map subscriber_bytes s

abbrev pub rec_of : Item → Rec
rec_of x = record { key = key_bytes x.message; value = value_bytes x.message; ts = x.time }

abbrev pub part_id : Plan → Place → PartId
part_id p q = record { topic = number_of p q.topic; part = q.part }

abbrev pub spelled : Plan → List (Place × Item) → List (PartId × Rec)
spelled p xs = map (λ x. (part_id p x.0, rec_of x.1)) xs

-- ---- reading a record: the message of its topic's kind that it spells, or none
-- of a part that may be absent: none where it is there and spells nothing
abbrev pub if_there : {A : Type 0} → (List ℕ → Option A) → Option (List ℕ) → Option (Option A)
if_there read None = Some None
if_there read (Some bytes) = option_map Some (read bytes)

-- both the key and the value
abbrev pub of_both : {A B : Type 0} → (List ℕ → Option A) → (List ℕ → Option B) → (A → B → Message) → Rec → Option Message
of_both key value make r = do
  k ← r.key
  v ← r.value
  a ← key k
  b ← value v
  Some (make a b)

abbrev pub given_in : Rec → Option Message
given_in r = do
  key ← if_there key_from r.key
  value ← if_there row_from r.value
  Some (Given key value)

abbrev pub regrouped_in : Kind → Rec → Option Message
regrouped_in (StreamAggregate f by field through) r = of_both key_from row_from Keyed r
regrouped_in (Windowed f by w through) r = of_both key_from row_from Keyed r
regrouped_in (TableAggregate f by field) r = of_both key_from delta_from Moved r
regrouped_in _ r = None

abbrev pub message_in : Plan → Topic → Rec → Option Message
message_in p (Input t) r = given_in r
message_in p (Repartition n) r = regrouped_in (kind_at p n) r
message_in p (Subscriptions n) r = of_both key_from subscription_from (λ b v. Asked b v.left (subscription_of v)) r
message_in p (Responses n) r = of_both key_from response_from Answered r
message_in p (Changelog n) r = None
message_in p (HashChangelog n) r = None

-- ---- reading stores: a pair whose key or value spells nothing of its kind counts as absent
abbrev pub with_pair : {K X : Type 0} (R : K → K → Ordering) → FinMap R X → Option K → Option X → FinMap R X
with_pair R m (Some k) (Some x) = fin.insert m k x
with_pair R m _ _ = m

abbrev pub map_from : {K X : Type 0} (R : K → K → Ordering) → (List ℕ → Option K) → (List ℕ → Option X) → List (List ℕ × List ℕ) → FinMap R X
map_from R key value es = fold (λ m e. with_pair R m (key e.0) (value e.1)) fin.empty es

-- what a table node stores
abbrev pub stored_from : Kind → List ℕ → Option Stored
stored_from (StreamAggregate f by field through) bytes = option_map (OfAgg (is_none field)) (agg_from bytes)
stored_from (TableAggregate f by field) bytes = option_map (OfAgg (is_none field)) (agg_from bytes)
stored_from _ bytes = option_map OfRow (row_from bytes)

-- the hashes at a foreign key: of the pairs with that key, by left key
abbrev pub left_at : Key → Option (Key × Key) → Option Key
left_at b None = None
left_at b (Some k) = cond (same_bytes b k.0) (Some k.1) None

-- a task's stores as bytes, by the numbers of its changelogs
abbrev pub ByteStores : Type 0
ByteStores = ℕ → ByteStore

-- a changelog of these tasks' own
abbrev pub is_own : Plan → ℕ → Topic → Bool
is_own p sub t = is_changelog t && nat_eq (reads p t) sub

abbrev pub pairs_of : Plan → ℕ → ByteStores → Topic → List (List ℕ × List ℕ)
pairs_of p sub stores t = cond (is_own p sub t) (fin.entries (stores (number_of p t))) []

abbrev pub table_from : Plan → ℕ → ByteStores → ℕ → FinMap by_bytes Stored
table_from p sub stores n = cond (is_windowed (kind_at p n)) fin.empty (map_from by_bytes key_from (stored_from (kind_at p n)) (pairs_of p sub stores (Changelog n)))

abbrev pub counts_from : Plan → ℕ → ByteStores → ℕ → FinMap by_window Agg
counts_from p sub stores n = cond (is_windowed (kind_at p n)) (map_from by_window window_key_from agg_from (pairs_of p sub stores (Changelog n))) fin.empty

abbrev pub own_bytes : Plan → ℕ → ByteStores → Topic → ByteStore
own_bytes p sub stores t = cond (is_own p sub t) (stores (number_of p t)) no_bytes

abbrev pub time_of : Plan → ℕ → ByteStores → ℕ → Option ℕ
time_of p sub stores n = cond (is_windowed (kind_at p n)) (fin.get (own_bytes p sub stores (Changelog n)) time_key >>= time_from) None

abbrev pub hashes_from : Plan → ℕ → ByteStores → ℕ → Key → FinMap by_bytes Subscriber
hashes_from p sub stores n b = map_from by_bytes (λ k. left_at b (subscription_key_from k)) subscriber_from (pairs_of p sub stores (HashChangelog n))

abbrev pub store_from : Plan → ℕ → ByteStores → Store
store_from p sub stores = record {
  tables = table_from p sub stores;
  counts = counts_from p sub stores;
  times = time_of p sub stores;
  hashes = hashes_from p sub stores;
}

-- ---- one whole step over bytes
-- the records among these of one partition
abbrev pub records_at : PartId → List (PartId × Rec) → List Rec
records_at q [] = []
records_at q (x ∷ xs) = cond (same_part q x.0) (x.1 ∷ records_at q xs) (records_at q xs)

-- a record without a key changes nothing
abbrev pub keep_bytes : ByteStore → Option (List ℕ) → Option (List ℕ) → ByteStore
keep_bytes m None value = m
keep_bytes m (Some key) value = write by_bytes m key value

abbrev pub keep_all : ByteStore → List Rec → ByteStore
keep_all m [] = m
keep_all m (r ∷ rs) = keep_all (keep_bytes m r.key r.value) rs

-- whether a number is that of a changelog of these tasks
abbrev pub has_number : ℕ → List ℕ → Bool
has_number n [] = false
has_number n (m ∷ ms) = (n == m) || has_number n ms

abbrev pub is_own_number : Plan → ℕ → ℕ → Bool
is_own_number p sub n = has_number n (changelog_numbers p sub)

-- each own changelog's store becomes what the step's records make of it
abbrev pub stores_after : Plan → TaskId → ByteStores → List (PartId × Rec) → ByteStores
stores_after p t stores made n = cond (is_own_number p t.sub n) (keep_all (stores n) (records_at (record { topic = n; part = t.part }) made)) (stores n)

-- a record for a changelog's partition is made by the task that keeps it alone; none goes to a partition that its topic hasn't
abbrev pub is_sent : Plan → TaskId → Place × Item → Bool
is_sent p t x = cond (is_changelog x.0.topic) (is_own p t.sub x.0.topic && (x.0.part == t.part)) (nat_lt x.0.part (parts_of_topic p x.0.topic))

abbrev pub nothing_made : ByteStores → Outcome PartId ByteStores Rec
nothing_made stores = record { store = stores; made = []; late = 0 }

abbrev pub outcome_of : Plan → TaskId → ByteStores → Outcome Place Store Item → Outcome PartId ByteStores Rec
outcome_of p t stores o =
    let made = spelled p (filter (is_sent p t) o.made) in
    record { store = stores_after p t stores made; made = made; late = o.late }

-- a record that spells nothing of its topic's kind changes nothing
abbrev pub step_read : Rules → Plan → TaskId → ByteStores → PartId → Topic → ℕ → Option Message → Outcome PartId ByteStores Rec
step_read rules p t stores q topic time None = nothing_made stores
step_read rules p t stores q topic time (Some message) =
    outcome_of p t stores (step rules p t (store_from p t.sub stores) (record { topic = topic; part = q.part }) (record { message = message; time = time }))

-- nor does one of a topic that these tasks don't read
abbrev pub step_at : Rules → Plan → TaskId → ByteStores → PartId → Rec → Option Topic → Outcome PartId ByteStores Rec
step_at rules p t stores q r None = nothing_made stores
step_at rules p t stores q r (Some topic) = cond (nat_eq (reads p topic) t.sub) (step_read rules p t stores q topic r.ts (message_in p topic r)) (nothing_made stores)

abbrev pub byte_step : Rules → Plan → TaskId → ByteStores → PartId → Rec → Outcome PartId ByteStores Rec
byte_step rules p t stores q r = step_at rules p t stores q r (topic_at p q.topic)

-- ---- who takes a topic's records, by number
abbrev pub taker_at : Plan → Option Topic → ℕ
taker_at p None = sub_count p
taker_at p (Some t) = taker p t

abbrev pub reader_number : Plan → ℕ → ℕ
reader_number p n = taker_at p (topic_at p n)
