-- The replay of a job's journal is a run over bytes; here it is decoded, state by state.
-- KIP-98: what counts of a journal is what its transactions commit. Kafka Streams developer guide, "State stores": a store is what its
-- changelog says.
use Rattle.std.specs.Prelude.{◌≡◌, ℕ, true, List, take, map, Option, Some, None, option_map, slice_get}
use Rattle.ks_record.specs.Records.{Record as Rec}
use Rattle.ks_record.specs.declared.record.PartId.{PartId}
use Rattle.ks_record.specs.declared.record.TaskId.{TaskId}
use Rattle.ks_plan.specs.Drafts.{DraftView}
use Rattle.ks_plan.specs.Plan.{Plan, plan_of}
use Rattle.ks_plan.specs.declared.node.Topic.{Topic}
use Rattle.ks_plan.specs.declared.node.Topic.TheVariants.{Input as InputTopic}
use Rattle.ks_plan.specs.Layout.{topic_at, number_of, drain_order}
use Rattle.ks_def_runs.specs.Run.{RunState, run}
use Rattle.ks_query.specs.Streams.{Input}
use Rattle.ks_history.specs.declared.journal.Entry.{Entry}
use Rattle.ks_history.specs.Machine.{Stores, network}
use Rattle.ks_history.specs.History.{IsHistory}
use Rattle.ks_history.specs.Replay.{replay, produced}
use Rattle.ks_def_tasks.specs.Messages.{Place, Item, Rules}
use Rattle.ks_def_tasks.specs.Tasks.{is_changelog}
use Rattle.ks_def_tasks.specs.Bytes.{rec_of, part_id, message_in, store_from}
use Rattle.ks_law_quiescence.specs.States.{State, state_of}
use Rattle.ks_law_topology.specs.Work.{setup_of}
use Rattle.ks_law_settled.specs.Jobs.{produces, produced_of, IsJob}

-- ---- the steps of a replay, each with its topic in place of the number
abbrev pub topic_or : Option Topic → Topic
topic_or None = InputTopic 0
topic_or (Some t) = t

abbrev pub place_at : Plan → PartId → Place
place_at p q = record { topic = topic_or (topic_at p q.topic); part = q.part }

abbrev pub decoded_choice : Plan → (Option TaskId × PartId) → (Option TaskId × Place)
decoded_choice p c = (c.0, place_at p c.1)

abbrev pub decoded_choices : Plan → List (Option TaskId × PartId) → List (Option TaskId × Place)
decoded_choices p cs = map {B = Option TaskId × Place} (decoded_choice p) cs

-- ---- the state after the first n of them: over bytes, and decoded
abbrev pub bytes_after : Rules → Plan → List Entry → ℕ → RunState TaskId PartId Stores Rec
bytes_after rules p journal n = run (network (setup_of rules p).plan) (produced journal) (take n (replay (setup_of rules p) journal))

abbrev pub decoded_after : Rules → Plan → List Input → List Entry → ℕ → State
decoded_after rules p records journal n = state_of rules p records (decoded_choices p (take n (replay (setup_of rules p) journal)))

-- after all
abbrev pub decoded_run : Rules → Plan → List Input → List Entry → State
decoded_run rules p records journal = state_of rules p records (decoded_choices p (replay (setup_of rules p) journal))

-- ---- a state over bytes and the decoded one
-- what a record that waits is
abbrev pub item_in : Plan → Topic → Rec → Option Item
item_in p topic r = option_map (λ m. record { message = m; time = r.ts }) (message_in p topic r)

pub record IsDecoded (p : Plan) (bytes : RunState TaskId PartId Stores Rec) (st : State) : Type 0 where
  pub stores : (t : TaskId) → st.stores t ≡ store_from p t.sub (bytes.stores t)
  -- what waits at the topics that tasks read
  pub waiting : (sender : Option TaskId) (q : Place) (i : ℕ) → slice_get (drain_order p) i ≡ Some q.topic →
      map (item_in p q.topic) (bytes.waiting sender (part_id p q)) ≡ map (λ (x : Item). Some x) (st.waiting sender q)
  -- what changelogs were given
  pub pasts : (sender : Option TaskId) (q : Place) → topic_at p (number_of p q.topic) ≡ Some q.topic → is_changelog q.topic ≡ true →
      bytes.given sender (part_id p q) ≡ map rec_of (st.given sender q)
  pub late : bytes.late ≡ st.late

-- so it is in each state of the replay of every legal, faithful journal that has produced exactly a job's records
abbrev pub StatesAgree : Type 0
StatesAgree = (rules : Rules) (d : DraftView) (records : List Input) (journal : List Entry) → IsJob rules d records →
    let p = plan_of d in
    IsHistory (setup_of rules p) journal → produces journal ≡ map (produced_of rules p) records →
    (n : ℕ) → IsDecoded p (bytes_after rules p journal n) (decoded_after rules p records journal n)
