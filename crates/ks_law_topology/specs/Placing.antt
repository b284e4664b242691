-- Where the records of a topology stand: each internal record has a key, and each table's key stands in the task of its place, a window's by
-- the key of its group and a subscription's by its foreign key. What a subscription says, and what is kept of it, names the partition of the
-- left key's task exactly where the left side's keys are spread by their front parts.
use Rattle.std.specs.Prelude.{ℕ, ◌==◌, Bool, true, false, ◌&&◌, cond, nat_eq, List, Option, Some, None}
use Rattle.ks_row.specs.Reading.{◌>>=◌}
use Rattle.ks_expr.specs.Eval.{same_bytes}
use Rattle.ks_wire.specs.Spelling.{time_key}
use Rattle.ks_wire.specs.Values.{SubscriptionValue}
use Rattle.ks_wire.specs.declared.values.Subscriber.{Subscriber}
use Rattle.ks_wire.specs.Reading.{long_key_at, subscription_from, subscriber_from, subscription_key_from}
use Rattle.ks_record.specs.Records.{Record as Rec}
use Rattle.ks_record.specs.declared.record.PartId.{PartId}
use Rattle.ks_plan.specs.Drafts.{DraftView}
use Rattle.ks_plan.specs.Plan.{Plan, plan_of, is_windowed}
use Rattle.ks_plan.specs.declared.node.Topic.{Topic}
use Rattle.ks_plan.specs.declared.node.Topic.TheVariants.{Input, Repartition, Subscriptions, Responses, Changelog, HashChangelog}
use Rattle.ks_plan.specs.Layout.{spread_of_topic, kind_at, topic_at}
use Rattle.ks_def_tasks.specs.Messages.{Rules, same_option}
use Rattle.ks_def_tasks.specs.Rest.{named}
use Rattle.ks_history.specs.declared.journal.Entry.{Entry}
use Rattle.ks_history.specs.Partition.{recs}
use Rattle.ks_history.specs.Faithful.{decided}
use Rattle.ks_history.specs.History.{at, IsHistory}
use Rattle.ks_history.specs.Replay.{produced}
use Rattle.ks_law_exactly_once.specs.Keeping.{FitIn}
use Rattle.ks_law_topology.specs.WellFormed.{IsWellFormed}
use Rattle.ks_law_topology.specs.Work.{HavePlaces, setup_of}

-- at the place of its key
abbrev pub is_at_key : Rules → Plan → Topic → ℕ → List ℕ → Bool
is_at_key rules p t part key = part == rules.part key (spread_of_topic p t)

-- a windowed count's key begins with the key of its group; the greatest timestamp, which has no group, stands in each partition
abbrev pub is_at_group : Rules → Plan → ℕ → ℕ → List ℕ → Option (List ℕ × List ℕ) → Bool
is_at_group rules p n part key None = same_bytes key time_key
is_at_group rules p n part key (Some front) = is_at_key rules p (Changelog n) part front.0

-- a subscription's key begins with the foreign key, which stands where the right row of that key does
abbrev pub is_at_foreign : Rules → Plan → ℕ → ℕ → Option (List ℕ × List ℕ) → Bool
is_at_foreign rules p n part None = false
is_at_foreign rules p n part (Some front) = is_at_key rules p (HashChangelog n) part front.0

-- what names the partition of a left key's task exactly where its join's subscriptions do
abbrev pub names_home : Rules → Plan → ℕ → List ℕ → Option ℕ → Bool
names_home rules p n left part = same_option nat_eq part (named rules p n left)

-- so does a subscription, and what a subscription store keeps at a foreign key and a left key; of other bytes nothing is said here
abbrev pub is_asking_home : Rules → Plan → ℕ → Option SubscriptionValue → Bool
is_asking_home rules p n None = true
is_asking_home rules p n (Some v) = names_home rules p n v.left v.part

abbrev pub is_kept_home : Rules → Plan → ℕ → Option (List ℕ × List ℕ) → Option Subscriber → Bool
is_kept_home rules p n (Some keys) (Some s) = names_home rules p n keys.1 s.part
is_kept_home rules p n _ _ = true

-- a record without a key stands anywhere in an input topic, and nowhere else
abbrev pub is_placed : Rules → Plan → Topic → ℕ → Option (List ℕ) → Option (List ℕ) → Bool
is_placed rules p (Input t) part None value = true
is_placed rules p (Repartition n) part None value = false
is_placed rules p (Subscriptions n) part None value = false
is_placed rules p (Responses n) part None value = false
is_placed rules p (Changelog n) part None value = false
is_placed rules p (HashChangelog n) part None value = false
is_placed rules p (Input t) part (Some key) value = is_at_key rules p (Input t) part key
is_placed rules p (Repartition n) part (Some key) value = is_at_key rules p (Repartition n) part key
is_placed rules p (Subscriptions n) part (Some key) value = is_at_key rules p (Subscriptions n) part key && is_asking_home rules p n (value >>= subscription_from)
is_placed rules p (Responses n) part (Some key) value = is_at_key rules p (Responses n) part key
is_placed rules p (Changelog n) part (Some key) value =
    cond (is_windowed (kind_at p n)) (is_at_group rules p n part key (long_key_at key)) (is_at_key rules p (Changelog n) part key)
is_placed rules p (HashChangelog n) part (Some key) value =
    is_at_foreign rules p n part (long_key_at key) && is_kept_home rules p n (subscription_key_from key) (value >>= subscriber_from)

abbrev pub placed_by : Rules → Plan → ℕ → Rec → Option Topic → Bool
placed_by rules p part rec None = true
placed_by rules p part rec (Some t) = is_placed rules p t part rec.key rec.value

abbrev pub stands : Rules → Plan → PartId → Rec → Bool
stands rules p q rec = placed_by rules p q.part rec (topic_at p q.topic)

-- in every journal of a well-formed topology whose produced records stand at the places of their keys, all decided records do, where each key has
-- a place
abbrev pub DecidedStand : Type 0
DecidedStand = (rules : Rules) (d : DraftView) (journal : List Entry) → IsWellFormed d → let p = plan_of d in HavePlaces rules p →
    IsHistory (setup_of rules p) journal → ((q : PartId) → FitIn (stands rules p) q (produced journal q)) →
    (q : PartId) → FitIn (stands rules p) q (recs (decided (at (setup_of rules p) journal) q))
