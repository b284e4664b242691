-- What a run answers, and why.
use Rattle.std.specs.Prelude.{◌≡◌, ◌⊎◌, ℕ, Bool, List, Option, Some, None, IfSome}
use Rattle.std.specs.Io.KnownBytes.{IsAtEnd}
use Rattle.ks_edge.specs.Causes.{Rose}
use Rattle.ks_assign.specs.declared.clients.Placing.{Placing}
use Rattle.ks_def_tasks.specs.Messages.{Rules}
use Rattle.ks_plan.specs.Drafts.{DraftView}
use Rattle.ks_history.specs.declared.journal.Entry.{Entry}
use Rattle.ks_job.specs.Reader.{whole}
use Rattle.ks_job_source.specs.declared.stop.JobStop.{JobStop}
use Rattle.ks_job_source.specs.Stops.{stop_of}
use Rattle.ks_run_output.specs.Texts.{read_fault_text}
use Rattle.ks_job_source.specs.Texts.{bad_job_text}
use Rattle.ks_iq.specs.declared.ask.Ask.{Ask}
use Rattle.ks_iq.specs.declared.fault.IqFault.{IqFault}
use Rattle.ks_iq.specs.Asks.{ask_fault}
use Rattle.ks_run_ask.specs.Texts.{bad_ask_text}
use Rattle.ks_run_verdict.specs.Told.{Wanted, asked_in}
use Rattle.ks_run_verdict.specs.Journals.{draft_in, IsSettledRun, IsLateRun, IsCollidedRun, HasJournal, TookFront, IsUndrained, IsEmptyIf}

-- the bytes are no job that can be run, for this reason
abbrev pub IsStopped : List ℕ → JobStop → Type 0
IsStopped bytes stop = stop_of (whole bytes) ≡ Some stop

-- and the text names it
abbrev pub IsBadJob : List ℕ → List ℕ → Type 0
IsBadJob bytes text = (stop : JobStop) × IsStopped bytes stop × (text ≡ bad_job_text stop)

-- some bytes, which are those that the source has left where it tells them, are no job that can be run, and the text names why
pub record IsRefused (left : Option (List ℕ)) (text : List ℕ) : Type 0 where
  pub bytes : List ℕ
  pub known : IfSome left (λ b. b ≡ bytes)
  pub bad : IsBadJob bytes text

-- some bytes, which are those that the source has left where it tells them, are a job without the store that is asked for, or a start is
-- given for a node that isn't a windowed count, or none for one; and the text says which
pub record IsBadAsk (wanted : Wanted) (left : Option (List ℕ)) (text : List ℕ) : Type 0 where
  pub bytes : List ℕ
  pub known : IfSome left (λ b. b ≡ bytes)
  pub unstopped : stop_of (whole bytes) ≡ None
  pub draft : DraftView
  pub topology : draft_in (whole bytes).items ≡ Some draft
  pub ask : Ask
  pub asked : asked_in wanted ≡ Some ask
  pub fault : IqFault
  pub bad : ask_fault draft ask ≡ Some fault
  pub printed : text ≡ bad_ask_text fault

-- what a job's run answers, with its text and its journal: by the bytes that the source has left before and after, where they are
-- known, and its count of faults before and after; where reading a job that is read ahead of its run ends in a fault, the journal is empty
pub record IsJudged (rules : Rules) (placing : Placing) (wanted : Wanted) (ahead : Bool) (old new : Option (List ℕ)) (before now : ℕ) (status : ℕ) (text : List ℕ) (journal : List Entry) : Type 0 where
  pub read_fault : status ≡ 6 → Rose before now × TookFront old new journal × (text ≡ read_fault_text) × IsUndrained journal × IsEmptyIf ahead journal
  pub bad_job : status ≡ 2 → (now ≡ before) × IsRefused old text × IsUndrained journal × IsEmptyIf ahead journal
  pub settled : status ≡ 0 → (now ≡ before) × IsAtEnd new × IsSettledRun rules placing wanted old text journal
  pub late : status ≡ 3 → (now ≡ before) × IsAtEnd new × IsLateRun rules placing wanted old text journal
  pub collision : status ≡ 5 → (now ≡ before) × IsAtEnd new × IsCollidedRun rules placing wanted old text journal
  pub bad_ask : status ≡ 9 → (now ≡ before) × IsAtEnd new × IsBadAsk wanted old text × IsUndrained journal
  pub kept : HasJournal rules placing old journal
  pub only : (status ≡ 0) ⊎ (status ≡ 2) ⊎ (status ≡ 3) ⊎ (status ≡ 5) ⊎ (status ≡ 6) ⊎ (status ≡ 9)
