-- The machine of a plan: its tasks, their partitions and steps, and the input lists of a job.
use Rattle.std.specs.Prelude.{ℕ, List, ◌++◌, map, Option, Some, None, option_map, Bool, true, false, ◌&&◌, cond, nat_eq}
use Rattle.std.specs.List.{filter}
use Rattle.ks_query.specs.Streams.{Key}
use Rattle.ks_plan.specs.Plan.{Plan}
use Rattle.ks_plan.specs.declared.node.Topic.{Topic}
use Rattle.ks_plan.specs.Layout.{same_topic, parts_of_topic, spread_of_topic, before_of, reads, is_read, sub_count}
use Rattle.ks_plan.specs.declared.node.Topic.TheVariants.{Input as InputTopic, Changelog, HashChangelog}
use Rattle.ks_def_runs.specs.FinMap as map
use Rattle.ks_def_runs.specs.Run.{Machine, Outcome}
use Rattle.ks_query.specs.Streams.{Input}
use Rattle.ks_record.specs.declared.record.TaskId.{TaskId}
use Rattle.ks_record.specs.Parts.{same_task}
use Rattle.ks_def_tasks.specs.Messages.{Place, same_place, Item, Store, Rules}
use Rattle.ks_def_tasks.specs.Messages.Message.{Given}
use Rattle.ks_def_tasks.specs.Step.To.{ByKey, Named}
use Rattle.ks_def_tasks.specs.Step.{Arrival, To, Sent, Written, whole_step}

-- the partition that a task's subscriptions of a join name: the task's, where the join's keys, as its left side's, are spread by their front
-- parts
abbrev pub names_at : Plan → ℕ → ℕ → Option ℕ
names_at p part n = option_map (λ s. part) (before_of p n)

-- a record that arrives at a place
abbrev pub arrival : Plan → Place → Item → Arrival
arrival p q x = record { topic = q.topic; item = x; names = names_at p q.part }

-- by the key: its place in the topic; to a partition that was named, and where none was, to that of the whole key
abbrev pub to_part : Rules → Plan → Topic → Key → To → ℕ
to_part rules p t k ByKey = rules.part k (spread_of_topic p t)
to_part rules p t k (Named (Some i)) = i
to_part rules p t k (Named None) = rules.part k (record { parts = parts_of_topic p t; before = None })

-- a record that is sent goes there; one for a changelog to the task's own
abbrev pub sent_item : Rules → Plan → ℕ → Sent → Place × Item
sent_item rules p time s = (record { topic = s.topic; part = to_part rules p s.topic s.key s.to }, record { message = s.message; time = time })

abbrev pub written_item : ℕ → ℕ → Written → Place × Item
written_item part time w = (record { topic = w.topic; part = part }, record { message = w.message; time = time })

-- all records of a step carry the time of the record that was taken
abbrev pub step : Rules → Plan → TaskId → Store → Place → Item → Outcome Place Store Item
step rules p t st q x =
    let made = whole_step rules p st (arrival p q x) in
    record {
      store = made.store;
      made = map (sent_item rules p x.time) made.sends ++ map (written_item t.part x.time) made.changes;
      late = made.late;
    }

abbrev pub empty_store : Store
empty_store = record { tables = λ n. map.empty; counts = λ n. map.empty; times = λ n. None; hashes = λ n b. map.empty }

abbrev pub is_changelog : Topic → Bool
is_changelog (Changelog n) = true
is_changelog (HashChangelog n) = true
is_changelog _ = false

-- the subtopology that takes a topic's records: of a changelog, or an input that no node reads, one beyond all
abbrev pub taker : Plan → Topic → ℕ
taker p t = cond (is_changelog t) (sub_count p) (reads p t)

abbrev pub machine : Rules → Plan → Machine TaskId Place Store Item
machine rules p = record {
  same_task = same_task;
  same_place = same_place;
  reader = λ q. record { sub = taker p q.topic; part = q.part };
  start = λ t. empty_store;
  step = step rules p;
}

-- ---- the input lists of a job: its records in order, each in the place of its key, without a key in partition 0
abbrev pub part_of_key : Rules → Plan → Topic → Option Key → ℕ
part_of_key rules p t None = 0
part_of_key rules p t (Some k) = rules.part k (spread_of_topic p t)

abbrev pub item_of_input : Input → Item
item_of_input r = record { message = Given r.key r.value; time = r.time }

-- a topic that no node reads has no lists
abbrev pub stands_at : Rules → Plan → Place → Input → Bool
stands_at rules p q r = same_topic (InputTopic r.topic) q.topic && is_read p r.topic && nat_eq (part_of_key rules p (InputTopic r.topic) r.key) q.part

abbrev pub inputs_of : Rules → Plan → List Input → Place → List Item
inputs_of rules p records q = map item_of_input (filter (stands_at rules p q) records)
