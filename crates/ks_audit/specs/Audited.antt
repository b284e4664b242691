-- What the audit says of a line of a journal, in the state that the lines before it leave.
use Rattle.std.specs.Prelude.{◌≡◌, ◌⊎◌, ℕ, true, List, [], ◌∷◌, ◌++◌, Option, Some, None, ⊤}
use Rattle.ks_record.specs.Records.{Record as Rec}
use Rattle.ks_record.specs.declared.record.PartId.{PartId}
use Rattle.ks_record.specs.declared.record.TaskId.{TaskId}
use Rattle.ks_plan.specs.Plan.{Plan}
use Rattle.ks_plan.specs.declared.node.Topic.TheVariants.{Input as InputTopic}
use Rattle.ks_def_tasks.specs.Messages.{Rules}
use Rattle.ks_def_tasks.specs.Tasks.{part_of_key}
use Rattle.ks_history.specs.declared.journal.Request.{Request}
use Rattle.ks_history.specs.declared.journal.Request.TheVariants.{Produce, Decide}
use Rattle.ks_history.specs.declared.journal.Entry.{Entry}
use Rattle.ks_history.specs.declared.transaction.Pending.{Pending}
use Rattle.ks_history.specs.declared.transaction.Transaction.{Transaction}
use Rattle.ks_history.specs.State.{State, Setup, has_task, pending_of}
use Rattle.ks_history.specs.Step.{refusal}
use Rattle.ks_history.specs.Faithful.{IsFaithfulTask}
use Rattle.ks_history.specs.History.{IsStep, IsFaithfulEntry}
use Rattle.ks_law_topology.specs.Work.{setup_of}
use Rattle.ks_law_kinds.specs.OfKind.{is_given}
use Rattle.ks_journal.specs.Lines.{entry_text}
use Rattle.ks_journal.specs.Fits.{FitsEntry}
use Rattle.ks_audit.specs.declared.fault.AuditFault.{AuditFault}
use Rattle.ks_audit.specs.declared.fault.AuditFault.TheVariants.{NotJournal, NotLegal, NotFaithful}

-- ---- a record that is produced is an input record at its place
-- its key is one, its value the bytes of a row, its time in range, and it goes to the partition of its key
pub record IsInputAt (rules : Rules) (p : Plan) (part : PartId) (rec : Rec) : Type 0 where
  pub given : is_given part rec ≡ true
  pub place : part.part ≡ part_of_key rules p (InputTopic part.topic) rec.key

abbrev pub IsPlaced : Rules → Plan → Request → Type 0
IsPlaced rules p (Produce part rec) = IsInputAt rules p part rec
IsPlaced rules p request = ⊤

-- ---- faithful commits, task by task
-- a task of a transaction whose part in it isn't faithful
abbrev pub IsUnfaithful : Setup → State → ℕ → Transaction → TaskId → Type 0
IsUnfaithful setup s w tx t =
    ((has_task t tx.tasks ≡ true) × (pending_of t tx.pending ≡ None))
    ⊎ ((p : Pending) × (pending_of t tx.pending ≡ Some p) × (IsFaithfulTask setup s w p → ⊥))

-- an accepted commit, and the first task, in order of tasks, for which it isn't faithful
pub record IsFirstUnfaithful (setup : Setup) (s : State) (request : Request) (t : TaskId) : Type 0 where
  pub w : ℕ
  pub epoch : ℕ
  pub commits : request ≡ Decide w epoch true
  pub accepted : refusal setup s request ≡ None
  pub tx : Transaction
  pub undecided : (s.producer w).undecided ≡ Some tx
  pub this : IsUnfaithful setup s w tx t
  -- those before it among the cluster's tasks
  pub front : List TaskId
  pub rest : List TaskId
  pub order : setup.tasks ≡ front ++ t ∷ rest
  pub first : (u : TaskId) → has_task u front ≡ true → IsUnfaithful setup s w tx u → ⊥

-- ---- one line
abbrev pub IsLineOf : Entry → List ℕ → Type 0
IsLineOf e line = FitsEntry e × (line ≡ entry_text e)

-- it is taken as this entry
pub record IsTaken (rules : Rules) (p : Plan) (s : State) (line : List ℕ) (e : Entry) : Type 0 where
  pub entry : IsLineOf e line
  pub placed : IsPlaced rules p e.request
  -- its conditions hold, and its reply is that of the step
  pub step : IsStep (setup_of rules p) s e
  pub faithful : IsFaithfulEntry (setup_of rules p) s e

-- it is refused for this reason
abbrev pub IsRefused : Rules → Plan → State → List ℕ → AuditFault → Type 0
IsRefused rules p s line NotJournal = (e : Entry) → IsLineOf e line → ⊥
IsRefused rules p s line NotLegal = (e : Entry) × IsLineOf e line × (IsPlaced rules p e.request → IsStep (setup_of rules p) s e → ⊥)
IsRefused rules p s line (NotFaithful t) =
    (e : Entry) × IsLineOf e line × IsPlaced rules p e.request × IsStep (setup_of rules p) s e × IsFirstUnfaithful (setup_of rules p) s e.request t
