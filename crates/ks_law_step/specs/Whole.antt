-- A task's whole step over the bytes of its stores, as code makes it: lists that grow node by node, stores that are looked up.
use Rattle.std.specs.Prelude.{◌≡◌, ◌<◌, ◌+◌, ◌^◌, ℕ, suc, List, [], ◌∷◌, ◌++◌, map, cond, Option, Some, None, option_map, nat_lt}
use Rattle.std.specs.List.{flat_map}
use Rattle.ks_record.specs.Records.{Record as Rec}
use Rattle.ks_record.specs.declared.record.PartId.{PartId}
use Rattle.ks_record.specs.declared.record.TaskId.{TaskId}
use Rattle.ks_record.specs.Bytes.{IsBytes}
use Rattle.ks_def_runs.specs.FinMap as fin
use Rattle.ks_def_runs.specs.Bytes.{Store}
use Rattle.ks_plan.specs.Drafts.{DraftView}
use Rattle.ks_plan.specs.declared.node.Topic.{Topic}
use Rattle.ks_plan.specs.declared.node.Topic.TheVariants.{Subscriptions, Changelog, HashChangelog}
use Rattle.ks_plan.specs.Plan.{Plan, Kind, Window, plan_of}
use Rattle.ks_plan.specs.Plan.Kind.{StreamAggregate, TableAggregate, Windowed, ForeignKeyJoin}
use Rattle.ks_plan.specs.Layout.{number_of, parts_of_topic}
use Rattle.ks_expr.specs.declared.terms.Fk.{Fk}
use Rattle.ks_query.specs.Streams.{Key, StreamItem}
use Rattle.ks_def_tasks.specs.Messages.{Message, Place, Rules, shown, same_option, same_subscriber}
use Rattle.ks_def_tasks.specs.Messages.Message.{Asked, KeptHash}
use Rattle.ks_def_tasks.specs.Foreign.{subscriptions, subscribed, answer_to, answer_all}
use Rattle.ks_def_tasks.specs.Step.{Arrival, Values, Sent, arrived, step_key, item_into, row_in, changed, regroup, regroup_rows, send_subscriptions, send_responses, answer_of, over_nodes, value_changes}
use Rattle.ks_def_tasks.specs.Bytes.{ByteStores, byte_step, is_own, rec_of, stores_after}
use Rattle.ks_def_tasks.specs.Tasks.{arrival, to_part}
use Rattle.ks_def_tasks.specs.Laws.{IsTakenBy}
use Rattle.ks_law_topology.specs.WellFormed.{IsWellFormed}
use Rattle.ks_law_topology.specs.Spelled.{IfThere}
use Rattle.ks_def_runs.specs.Pairs.{ArePairs}
use Rattle.ks_def_lookups.specs.Windows.{CountedBytes}
use Rattle.ks_law_kinds.specs.Fitting.{FitsPlan}
use Rattle.ks_def_lookups.specs.Lists.{item_in, all_items, value_in, all_values}
use Rattle.ks_def_lookups.specs.Stores.{table_at, subscriber_at, kept_at}
use Rattle.ks_def_lookups.specs.Counts.{nothing_counted, counted_item}

module _ (rules : Rules) (p : Plan) (t : TaskId) (stores : ByteStores) (a : Arrival) where
  abbrev pub items_by : ℕ → Option StreamItem
  items_by = item_in (all_items a [] p.kinds)

  -- ---- stored values at the step's key, before and after
  abbrev pub olds_by : Option Key → Values
  olds_by None n = None
  olds_by (Some k) n = table_at p t.sub stores n k

  abbrev pub news_by : Option Key → Values
  news_by None n = None
  news_by (Some k) n = value_in (olds_by (Some k)) (all_values rules a items_by (olds_by (Some k)) [] p.kinds) n

  -- ---- what is sent
  -- the answer to a subscription, with the right row of the moment
  abbrev pub answer_by : ℕ → ℕ → Option Message → List Sent
  answer_by n r (Some (Asked b k s)) = send_responses n (answer_of k s.part (answer_to s (option_map shown (table_at p t.sub stores r b))))
  answer_by n r _ = []

  abbrev pub join_by : Fk → ℕ → ℕ → ℕ → Values → Values → Option Key → List Sent
  join_by fk n l r olds news None = []
  join_by fk n l r olds news (Some k) =
      cond (changed olds news l) (send_subscriptions n k (subscriptions rules.hash fk k (a.names n) (row_in olds l) (row_in news l))) []
      ++ cond (changed olds news r) (send_responses n (answer_all (row_in news r) (kept_at p t.sub stores n k))) []

  abbrev pub sends_by : (ℕ → Option StreamItem) → Values → Values → ℕ → Kind → List Sent
  sends_by items olds news n (StreamAggregate f by field through) = cond through (regroup by n (items f)) []
  sends_by items olds news n (Windowed f by w through) = cond through (regroup by n (items f)) []
  sends_by items olds news n (TableAggregate f by field) = regroup_rows by field n (row_in olds f) (row_in news f)
  sends_by items olds news n (ForeignKeyJoin l r fk kind s) = join_by fk n l r olds news (step_key a.item.message) ++ answer_by n r (arrived a (Subscriptions n))
  sends_by items olds news n _ = []

  -- to the place of its key; to a partition that was named, where its topic has it
  abbrev pub place : Sent → Place
  place s = record { topic = s.topic; part = to_part rules p s.topic s.key s.to }

  abbrev pub send_to : Sent → ℕ → PartId × Rec
  send_to s part = (record { topic = number_of p s.topic; part = part }, rec_of (record { message = s.message; time = a.item.time }))

  abbrev pub send : Sent → List (PartId × Rec)
  send s = cond (nat_lt (place s).part (parts_of_topic p s.topic)) (send_to s (place s).part ∷ []) []

  -- ---- what changelogs are told
  abbrev pub at_log : Topic → PartId
  at_log u = record { topic = number_of p u; part = t.part }

  abbrev pub tell : Topic → Message → PartId × Rec
  tell u m = (at_log u, rec_of (record { message = m; time = a.item.time }))

  abbrev pub hash_by : ℕ → Option Message → List Message
  hash_by n (Some (Asked b k s)) = cond (same_option same_subscriber (subscriber_at p t.sub stores n b k) (subscribed s)) [] (KeptHash b k (subscribed s) ∷ [])
  hash_by n _ = []

  -- of a windowed count that the task keeps
  abbrev pub counts_by : (ℕ → Option StreamItem) → ℕ → Kind → CountedBytes
  counts_by items n (Windowed f by w through) =
      let m = stores (number_of p (Changelog n)) in
      cond (is_own p t.sub (Changelog n)) (counted_item w m (item_into a items n f through)) (nothing_counted m)
  counts_by items n _ = nothing_counted (stores (number_of p (Changelog n)))

  abbrev pub recs_by : (ℕ → Option StreamItem) → Values → Values → ℕ → Kind → List (PartId × Rec)
  recs_by items olds news n k =
      map (tell (Changelog n)) (value_changes (step_key a.item.message) (olds n) (news n))
      ++ map (λ (r : Rec). (at_log (Changelog n), r)) (counts_by items n k).recs
      ++ map (tell (HashChangelog n)) (hash_by n (arrived a (Subscriptions n)))

  -- ---- the whole
  abbrev pub made_by : List (PartId × Rec)
  made_by =
      let key = step_key a.item.message in
      flat_map send (over_nodes (sends_by items_by (olds_by key) (news_by key)) 0 p.kinds) ++ over_nodes (recs_by items_by (olds_by key) (news_by key)) 0 p.kinds

  abbrev pub late_from : ℕ → List Kind → ℕ
  late_from n [] = 0
  late_from n (k ∷ ks) = (counts_by items_by n k).late + late_from (suc n) ks

-- ---- a record of bytes, and stores of bytes
pub record IsRecord (r : Rec) : Type 0 where
  pub key : IfThere IsBytes r.key
  pub value : IfThere IsBytes r.value
  pub time : r.ts < 2 ^ 64

abbrev pub AreStores : ByteStores → Type 0
AreStores stores = (n : ℕ) → ArePairs (fin.entries (stores n))

pub record IsMade (rules : Rules) (p : Plan) (t : TaskId) (stores : ByteStores) (q : PartId) (r : Rec) (a : Arrival) : Type 0 where
  pub made : (byte_step rules p t stores q r).made ≡ made_by rules p t stores a
  pub store : (byte_step rules p t stores q r).store ≡ stores_after p t stores (made_by rules p t stores a)
  pub late : (byte_step rules p t stores q r).late ≡ late_from rules p t stores a 0 p.kinds

abbrev pub StepsAreMade : Type 0
StepsAreMade = (rules : Rules) (d : DraftView) → IsWellFormed d → let p = plan_of d in FitsPlan p → (t : TaskId) (stores : ByteStores) (q : PartId) (r : Rec) (topic : Topic) (message : Message) →
    IsTakenBy p t q r topic message → IsRecord r → AreStores stores → IsMade rules p t stores q r (arrival p (record { topic = topic; part = q.part }) (record { message = message; time = r.ts }))
