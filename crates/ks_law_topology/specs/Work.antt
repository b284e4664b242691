-- The tasks of a topology as the work of a cluster: topics by number, records and stores as bytes.
use Rattle.std.specs.Prelude.{◌≡◌, ◌<◌, ◌≤◌, ◌^◌, ℕ, List, map, length, Option, Some, IfSome}
use Rattle.std.specs.List.{filter}
use Rattle.ks_record.specs.declared.record.TaskId.{TaskId}
use Rattle.ks_expr.specs.Eval.{Row}
use Rattle.ks_plan.specs.Drafts.{DraftView}
use Rattle.ks_plan.specs.Plan.{Plan, plan_of}
use Rattle.ks_plan.specs.declared.node.Spread.{Spread}
use Rattle.ks_plan.specs.declared.node.Topic.{Topic}
use Rattle.ks_plan.specs.declared.node.Topic.TheVariants.{Subscriptions}
use Rattle.ks_plan.specs.Layout.{topics_of, parts_of, parts_of_topic, tasks}
use Rattle.ks_plan.specs.Infos.{input_numbers, changelog_numbers}
use Rattle.ks_wire.specs.declared.values.Subscriber.{Subscriber}
use Rattle.ks_def_runs.specs.FinMap as fin
use Rattle.ks_query.specs.Streams.{Key}
use Rattle.ks_def_tasks.specs.Messages.{Place, Subscription, Item, Store, Rules}
use Rattle.ks_def_tasks.specs.Messages.Message.{Asked}
use Rattle.ks_def_tasks.specs.Tasks.{step, taker}
use Rattle.ks_def_tasks.specs.Bytes.{byte_step, reader_number, is_sent}
use Rattle.ks_history.specs.declared.journal.Entry.{Entry}
use Rattle.ks_history.specs.Machine.{TaskPlan as Work, IsNetwork}
use Rattle.ks_history.specs.History.{IsHistory}
use Rattle.ks_history.specs.State.{Setup, IsSetup}
use Rattle.ks_law_topology.specs.WellFormed.{IsWellFormed}

abbrev pub work_of : Rules → Plan → Work
work_of rules p = record {
  sources = length p.counts;
  inputs = input_numbers p;
  changelogs = changelog_numbers p;
  reader = reader_number p;
  step = byte_step rules p;
}

-- a cluster of a topology: its topics' partition counts by number, and its tasks
abbrev pub setup_of : Rules → Plan → Setup
setup_of rules p = record { plan = work_of rules p; counts = map (parts_of_topic p) (topics_of p); tasks = tasks p }

-- the tasks of a topology make a network, whatever the rules by which keys are spread and rows hashed
abbrev pub WorksAreNetworks : Type 0
WorksAreNetworks = (rules : Rules) (p : Plan) → IsNetwork (work_of rules p)

-- each key has one of the partitions, where there is one; and each node has a partition
pub record HavePlaces (rules : Rules) (p : Plan) : Type 0 where
  pub keys : (k : Key) (s : Spread) → 1 ≤ s.parts → rules.part k s < s.parts
  pub nodes : (n : ℕ) → n < length p.kinds → 1 ≤ parts_of p n

-- no topic has more than 64
abbrev pub HaveFewParts : Plan → Type 0
HaveFewParts p = (t : Topic) → parts_of_topic p t ≤ 64

-- hashes of 128 bits
abbrev pub FitsRules : Rules → Type 0
FitsRules rules = (row : Row) → rules.hash row < 2 ^ 128

-- a partition that is named is one of a join's
abbrev pub IsOfJoin : Plan → ℕ → Option ℕ → Type 0
IsOfJoin p n named = IfSome named (λ i. i < parts_of p n)

-- so are those that a subscription names, and those that a store's subscribers named
pub record NamesParts (p : Plan) (st : Store) (q : Place) (x : Item) : Type 0 where
  pub asked : (n : ℕ) (b k : Key) (s : Subscription) → q.topic ≡ Subscriptions n → x.message ≡ Asked b k s → IsOfJoin p n s.part
  pub kept : (n : ℕ) (b k : Key) (s : Subscriber) → fin.get (st.hashes n b) k ≡ Some s → IsOfJoin p n s.part

-- where a topology is well formed, a task that takes a record writes its own changelogs alone, and answers to partitions that there are, if such
-- were named: nothing that it makes is held back
abbrev pub NothingIsHeldBack : Type 0
NothingIsHeldBack = (rules : Rules) (d : DraftView) → IsWellFormed d → let p = plan_of d in HavePlaces rules p → (t : TaskId) (st : Store) (q : Place) (x : Item) → taker p q.topic ≡ t.sub → NamesParts p st q x →
    filter (is_sent p t) (step rules p t st q x).made ≡ (step rules p t st q x).made

-- a cluster of a well-formed topology can be made: no task stands twice, and each input and each changelog of a task has the task's
-- partition
abbrev pub SetupsAreMade : Type 0
SetupsAreMade = (rules : Rules) (d : DraftView) → IsWellFormed d → IsSetup (setup_of rules (plan_of d))

-- what holds of every legal, faithful journal of a topology
abbrev pub OfJobs : (Setup → List Entry → Type 0) → Type 0
OfJobs P = (rules : Rules) (p : Plan) (journal : List Entry) → IsHistory (setup_of rules p) journal → P (setup_of rules p) journal
