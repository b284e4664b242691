-- The kinds of records: what the keys and values on each topic of a plan are.
-- Kafka Streams developer guide, "Manage Kafka Streams application topics": repartition and changelog topics; KIP-213 for
-- subscriptions and responses.
use Rattle.std.specs.Prelude.{◌≡◌, ℕ, ◌^◌, Bool, true, false, ◌&&◌, ◌||◌, cond, nat_lt, nat_le, is_some, List, [], ◌∷◌, Option, Some, None}
use Rattle.ks_record.specs.Records.{Record as Rec}
use Rattle.ks_record.specs.declared.record.PartId.{PartId}
use Rattle.ks_record.specs.Texts.{key_from}
use Rattle.ks_row.specs.Reading.{row_from}
use Rattle.ks_wire.specs.Reading.{subscription_from, response_from, delta_from, agg_from, subscriber_from, time_from, subscription_key_from, window_key_from}
use Rattle.ks_wire.specs.Spelling.{time_key}
use Rattle.ks_expr.specs.Eval.{same_bytes}
use Rattle.ks_plan.specs.Plan.{Plan, Kind, is_windowed}
use Rattle.ks_plan.specs.Plan.Kind.{StreamAggregate, TableAggregate, Windowed}
use Rattle.ks_plan.specs.declared.node.Topic.{Topic}
use Rattle.ks_plan.specs.declared.node.Topic.TheVariants.{Input, Repartition, Subscriptions, Responses, Changelog, HashChangelog}
use Rattle.ks_plan.specs.Layout.{kind_at, topic_at}
use Rattle.ks_def_tasks.specs.Tasks.{is_changelog}
use Rattle.ks_def_tasks.specs.Bytes.{message_in}

-- ---- bytes that spell something
abbrev pub are_bytes : List ℕ → Bool
are_bytes [] = true
are_bytes (b ∷ bs) = nat_lt b 256 && are_bytes bs

-- bytes in which the reader finds a value, all of them
abbrev pub spells : {A : Type 0} → (List ℕ → Option A) → List ℕ → Bool
spells read bytes = are_bytes bytes && is_some (read bytes)

-- a key or a value that is there, and such
abbrev pub has : (List ℕ → Bool) → Option (List ℕ) → Bool
has test None = false
has test (Some bytes) = test bytes

-- such, or none
abbrev pub may_have : (List ℕ → Bool) → Option (List ℕ) → Bool
may_have test None = true
may_have test (Some bytes) = test bytes

-- ---- values, by the kind of the node
-- on a repartition topic: the rows of a stream, the deltas of a table
abbrev pub is_regrouped : Kind → List ℕ → Bool
is_regrouped (StreamAggregate f by field through) = spells row_from
is_regrouped (Windowed f by w through) = spells row_from
is_regrouped (TableAggregate f by field) = spells delta_from
is_regrouped _ = λ bytes. false

-- in a table's changelog: aggregates of a count or sum, rows of any other table
abbrev pub is_stored : Kind → List ℕ → Bool
is_stored (StreamAggregate f by field through) = spells agg_from
is_stored (TableAggregate f by field) = spells agg_from
is_stored _ = spells row_from

-- ---- keys and values, by the topic
-- in the changelog of a windowed count: a window's key with its count, or the one byte that stands for the greatest timestamp, with it
abbrev pub is_counted : Option (List ℕ) → Option (List ℕ) → Bool
is_counted key value = (has (spells window_key_from) key && has (spells agg_from) value) || (has (same_bytes time_key) key && has (spells time_from) value)

-- in the changelog of any other table: a key with its stored value, or none for a deletion
abbrev pub is_kept : Kind → Option (List ℕ) → Option (List ℕ) → Bool
is_kept kind key value = cond (is_windowed kind) (is_counted key value) (has (spells key_from) key && may_have (is_stored kind) value)

abbrev pub is_of_topic : Plan → Topic → Option (List ℕ) → Option (List ℕ) → Bool
is_of_topic p (Input t) key value = may_have (spells key_from) key && may_have (spells row_from) value
-- a group key
is_of_topic p (Repartition n) key value = has (spells key_from) key && has (is_regrouped (kind_at p n)) value
-- a foreign key
is_of_topic p (Subscriptions n) key value = has (spells key_from) key && has (spells subscription_from) value
-- a left key
is_of_topic p (Responses n) key value = has (spells key_from) key && has (spells response_from) value
is_of_topic p (Changelog n) key value = is_kept (kind_at p n) key value
-- a foreign key and a left key, with a subscriber, or none for a deletion
is_of_topic p (HashChangelog n) key value = has (spells subscription_key_from) key && may_have (spells subscriber_from) value

-- of a topic beyond those of the plan nothing is asked
abbrev pub is_of : Plan → Option Topic → Option (List ℕ) → Option (List ℕ) → Bool
is_of p None key value = true
is_of p (Some topic) key value = is_of_topic p topic key value

-- the record's key and value are of the kind of its topic
abbrev pub is_of_kind : Plan → PartId → Rec → Bool
is_of_kind p q r = is_of p (topic_at p q.topic) r.key r.value

-- ---- times
-- up to 9,007,199,254,740,992 milliseconds
unfoldable pub is_in_range : ℕ → Bool
is_in_range time = nat_le time (2 ^ 53)

-- a record that a job may produce: no key or a key, no value or the bytes of a row, a time in range
abbrev pub is_given : PartId → Rec → Bool
is_given q r = (may_have (spells key_from) r.key && may_have (spells row_from) r.value) && is_in_range r.ts

abbrev pub is_timed : PartId → Rec → Bool
is_timed q r = is_in_range r.ts

-- a record of its topic's kind spells a message
abbrev pub KindsAreRead : Type 0
KindsAreRead = (p : Plan) (topic : Topic) (r : Rec) → is_changelog topic ≡ false → is_of_topic p topic r.key r.value ≡ true → is_some (message_in p topic r) ≡ true
