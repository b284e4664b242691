-- What status 0 of `audit` says, in the words of a settled run's own clause.
use Rattle.std.specs.Prelude.{◌≡◌, ◌⊎◌, ℕ, List, ◌++◌, length, Option, Some, IfSome}
use Rattle.ks_plan.specs.Drafts.{DraftView}
use Rattle.ks_query.specs.Streams.{Input}
use Rattle.ks_def_tasks.specs.Messages.{Rules}
use Rattle.ks_history.specs.declared.journal.Entry.{Entry}
use Rattle.ks_journal.specs.Fits.{FitsJournal}
use Rattle.ks_audit_verdict.specs.Lines.{IsWithinMost}
use Rattle.ks_job_source.specs.TopologyLines.{EndsTopology}
use Rattle.ks_audit_verdict.specs.Audited.{IsAuditedInput}
use Rattle.ks_run_verdict.specs.Told.{TellsQuery}
use Rattle.ks_run_verdict.specs.Told.Wanted.{lines}
use Rattle.ks_run_verdict.specs.Journals.{IsJournal}

-- the text is what a settled run of a job of this topology prints with its journal
pub record IsPrintedRun (rules : Rules) (d : DraftView) (text : List ℕ) : Type 0 where
  pub records : List Input
  pub journal : List Entry
  pub kept : IsJournal rules d records journal
  pub fits : FitsJournal journal
  pub told : TellsQuery rules lines d records text journal

-- some bytes, which are those that the source has left where it tells them, are a topology line and that text behind it
pub record HoldsRun (rules : Rules) (left : Option (List ℕ)) : Type 0 where
  pub bytes : List ℕ
  pub known : IfSome left (λ b. b ≡ bytes)
  pub head : List ℕ
  pub text : List ℕ
  pub cut : bytes ≡ head ++ text
  pub line : ℕ
  pub draft : DraftView
  pub topology : EndsTopology head line draft
  -- no length is passed
  pub within : IsWithinMost (length head) text
  pub printed : IsPrintedRun rules draft text

-- to an input that is a topology's line and what a settled run of it prints, the answer is yes, unless a device or memory failed
abbrev pub AnswersYes : Rules → Option (List ℕ) → ℕ → Type 0
AnswersYes rules left s = (bytes : List ℕ) → left ≡ Some bytes → IsAuditedInput rules bytes → (s ≡ 0) ⊎ (s ≡ 6) ⊎ (s ≡ 7) ⊎ (s ≡ 8)
