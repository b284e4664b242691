-- A broker stands where a state says, and a request moves both alike.
use Rattle.std.specs.Prelude.{◌≡◌, ℕ, ◌<◌, ◌≤◌, ◌+◌, ◌^◌, List, [], Option, Some, None, length, get_or, map, replicate}
use Rattle.ks_record.specs.declared.record.PartId.{PartId}
use Rattle.ks_record.specs.declared.record.TaskId.{TaskId}
use Rattle.ks_record.specs.declared.assignment.Refused.{Refused}
use Rattle.ks_history.specs.declared.journal.Request.{Request}
use Rattle.ks_history.specs.declared.journal.Reply.{Reply}
use Rattle.ks_history.specs.declared.transaction.Transaction.{Transaction}
use Rattle.ks_history.specs.declared.transaction.Producer.{Producer}
use Rattle.ks_history.specs.Machine.{TaskPlan}
use Rattle.ks_history.specs.State.{State, Setup, new_producer}
use Rattle.ks_history.specs.Step.{or_else, fenced, markers_waiting, pending_at, refusal, reply_to, after}
use Rattle.ks_history.specs.Reads.{committed_offsets, held_from}
use Rattle.ks_history.specs.Count.{records_by}
use Rattle.ks_log.specs.Written.{slots_in, total}
use Rattle.ks_txn.specs.Outcomes.{producer_at}
use Rattle.ks_group.specs.Committed.{none_committed}
use Rattle.ks_group.specs.Pending.{unstable_in, counts_for}
use Rattle.ks_group.specs.Group.{GroupView, speak_fault}
use Rattle.ks_cluster.specs.declared.broker.Broker.{Broker}
use Rattle.ks_cluster.specs.ParkedPairs.{is_parked_in}

-- ---- a producer's transaction has its partitions in one place, its pending offsets in another; the tasks that it named stand in
-- the journal alone
abbrev pub plain_tx : Option Transaction → Option Transaction
plain_tx None = None
plain_tx (Some tx) = Some (record { parts = tx.parts; tasks = []; pending = [] })

abbrev pub plain : Producer → Producer
plain p = record p { undecided = plain_tx p.undecided }

-- each task beside the committed offsets of its inputs
abbrev pub rows_at : Setup → State → List (TaskId × List (ℕ × ℕ))
rows_at setup s = map (λ t. (t, committed_offsets setup s t)) setup.tasks

pub record IsGroupAt (setup : Setup) (s : State) (g : GroupView) : Type 0 where
  pub tasks_is : g.tasks ≡ setup.tasks
  pub generation_is : g.generation ≡ s.generation
  pub members_is : g.members ≡ s.members
  pub assignment_is : g.assignment ≡ s.assignment
  pub offsets_are : g.offsets ≡ rows_at setup s
  pub late_is : g.late ≡ s.late
  pub held_is : g.held ≡ held_from s 0 17
  pub pending_is : (w : ℕ) → get_or g.pending w [] ≡ pending_at (s.producer w)
  pub pending_count : length g.pending ≡ 17

pub record IsAt (setup : Setup) (s : State) (b : Broker) : Type 0 where
  pub log_is : (p : PartId) → slots_in p b.log ≡ s.partition p
  pub few : total b.log < 2 ^ 48
  pub producers_are : (w : ℕ) → get_or b.txns w new_producer ≡ plain (s.producer w)
  pub count : length b.txns ≡ 17
  pub group_is : IsGroupAt setup s b.group
  pub parked_is : (i : ℕ) (t : TaskId) → is_parked_in i t b.parked ≡ s.parked i t

-- in each state where the old broker stands the reply is the step's, and the new broker stands where the step leads
pub record Moves (old new : Broker) (request : Request) (reply : Reply) : Type 0 where
  pub step : (setup : Setup) (s : State) → IsAt setup s old → (reply ≡ reply_to setup s request) × IsAt setup (after setup s request) new
  -- the log has all records that the request appends
  pub wrote : (setup : Setup) (s : State) → IsAt setup s old → total old.log + records_by request (refusal setup s request) ≤ total new.log

-- nothing is committed of these tasks
abbrev pub first_rows : TaskPlan → List TaskId → List (TaskId × List (ℕ × ℕ))
first_rows plan tasks = map (λ (t : TaskId). (t, none_committed (plan.inputs t.sub))) tasks

abbrev pub first_group : TaskPlan → List TaskId → GroupView
first_group plan tasks = record {
  tasks = tasks;
  generation = 0;
  members = [];
  assignment = None;
  held = [];
  pending = replicate 17 [];
  offsets = first_rows plan tasks;
  late = 0;
}

pub record IsNew (plan : TaskPlan) (tasks : List TaskId) (b : Broker) : Type 0 where
  pub log : b.log ≡ []
  pub producers : b.txns ≡ replicate 17 new_producer
  pub group : b.group ≡ first_group plan tasks
  pub parked : b.parked ≡ []

-- why offsets may not be sent, whatever is pending: the epoch is another, or markers wait; who may not speak is told before that
abbrev pub begin_fault : Broker → ℕ → ℕ → ℕ → TaskId → Option Refused
begin_fault b w e g t =
    or_else (fenced (producer_at b.txns w) e)
    (elim (markers_waiting (producer_at b.txns w)) [ None ↦ None | Some r ↦ or_else (speak_fault b.group w g t) (Some r) ])

-- why offsets may not be sent
abbrev pub sending_fault : Broker → ℕ → ℕ → ℕ → TaskId → Option Refused
sending_fault b w e g t =
    or_else (fenced (producer_at b.txns w) e)
    (or_else (speak_fault b.group w g t)
    (or_else (markers_waiting (producer_at b.txns w)) (unstable_in t (counts_for (Some w)) 0 b.group.pending)))
