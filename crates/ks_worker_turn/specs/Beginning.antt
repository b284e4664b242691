-- What a worker makes of the status that it is told.
use Rattle.std.specs.Prelude.{◌≡◌, ◌≢◌, ℕ, true, Some, None, List, []}
use Rattle.ks_record.specs.declared.assignment.Assignment.{Assignment}
use Rattle.ks_record.specs.declared.record.TaskId.{TaskId}
use Rattle.ks_history.specs.declared.journal.Entry.{Entry}
use Rattle.ks_history.specs.declared.journal.Reply.{Reply}
use Rattle.ks_history.specs.declared.journal.Status.{Status}
use Rattle.ks_history.specs.declared.journal.Reply.TheVariants.{Truth}
use Rattle.ks_history.specs.declared.journal.Request.TheVariants.{Assign}
use Rattle.ks_history.specs.Machine.{TaskPlan}
use Rattle.ks_history.specs.State.{State, has_number}
use Rattle.ks_history.specs.Reads.{status}
use Rattle.ks_growing.specs.Passes.{PassView}
use Rattle.ks_shared.specs.declared.state.Frame.{Frame}
use Rattle.ks_shared.specs.Calls.{setup_in}
use Rattle.ks_assign_group.specs.Groups.{clients_of}
use Rattle.ks_worker_client.specs.Calls.{Later, Wrote, state_seen}
use Rattle.ks_worker_state.specs.declared.state.WorkerState.{WorkerState}
use Rattle.ks_worker_state.specs.State.{LaterState}
use Rattle.ks_worker_turn.specs.Requests.{HasJoined}
use Rattle.ks_worker_turn.specs.Resting.{is_generation_over, HaveRested}
use Rattle.ks_worker_turn.specs.Restored.{HasTakenAll}

-- worker `w` offered a generation this assignment, and where the group took it, the one holds since that moment, else the other
pub record HasOffered {W : Type 0} (plan : W → TaskPlan) (old new : PassView Entry (Frame W)) (w generation : ℕ) (a : Assignment) (Then : PassView Entry (Frame W) → Type 0) (Else : Type 0) : Type 0 where
  pub moment : PassView Entry (Frame W)
  pub reply : Reply
  pub wrote : Wrote plan old moment (Assign w generation a) reply
  pub before : Later plan moment new
  pub taken : reply ≡ Truth true → Then moment
  pub refused : reply ≢ Truth true → Else

-- the cluster as its pass has seen it
abbrev pub seen_by : {W G : Type 0} → (W → TaskPlan) → WorkerState W G → State
seen_by plan s = state_seen plan s.session.client.pass

-- the worker at a later moment of its pass, before it did anything else
abbrev pub at_moment : {W G : Type 0} → WorkerState W G → PassView Entry (Frame W) → WorkerState W G
at_moment s pass = record s { session = record s.session { client = record s.session.client { pass = pass } } }

-- it is the same member, with the tasks and replicas that it had
pub record IsAsBefore {W G : Type 0} (old new : WorkerState W G) : Type 0 where
  pub member : new.member ≡ old.member
  pub tasks : new.tasks.items ≡ old.tasks.items
  pub replicas : new.replicas.items ≡ old.replicas.items

-- what a worker made of the status that it was told: it is the same member, but for its generation, and took its places of the
-- generation's assignment; or, where there was none and the members form a client, it offered one, and took its places of that where the
-- group took it; where it took none, it is as it was
pub record HasPlaced {W G : Type 0} (plan : W → TaskPlan) (threads : ℕ) (tasks : List TaskId) (told new : WorkerState W G) : Type 0 where
  pub member : new.member ≡ record told.member { generation = new.member.generation }
  pub given : (a : Assignment) → (seen_by plan told).assignment ≡ Some a → HasTakenAll plan tasks (seen_by plan told).generation a told new
  pub offered : (seen_by plan told).assignment ≡ None → clients_of threads (seen_by plan told).members ≢ [] →
      (a : Assignment) × HasOffered plan told.session.client.pass new.session.client.pass told.member.number (seen_by plan told).generation a
      (λ moment. HasTakenAll plan tasks (seen_by plan told).generation a (at_moment told moment) new) (IsAsBefore told new)
  pub alone : (seen_by plan told).assignment ≡ None → clients_of threads (seen_by plan told).members ≡ [] → IsAsBefore told new

-- a turn up to its act: the worker joined, and at a moment was told the status, by which so many markers waited; it is a member where that
-- lists it; where its generation was over then, its tasks rested
pub record HasBegun {W G : Type 0} (plan : W → TaskPlan) (threads : ℕ) (tasks : List TaskId) (old new : WorkerState W G) (waiting : ℕ) : Type 0 where
  pub told : WorkerState W G
  pub since : LaterState plan old told
  pub before : LaterState plan told new
  pub joined : HasJoined plan old told
  pub listed : told.member.is_member ≡ has_number old.member.number (seen_by plan told).members
  pub own : told.member.generation ≡ old.member.generation
  pub said : Status
  pub said_is : said ≡ status (setup_in plan told.session.client.pass.frame) (state_seen plan told.session.client.pass)
  pub markers : waiting ≡ said.waiting
  pub rested : HaveRested (is_generation_over old.member.generation (seen_by plan told).generation (has_number old.member.number (seen_by plan told).members))
      old.tasks.items old.replicas.items told.tasks.items told.replicas.items
  pub placed : HasPlaced plan threads tasks told new
