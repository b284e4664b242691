-- What a settled run prints with its journal has no fault that an audit tells.
use Rattle.std.specs.Prelude.{◌≡◌, ◌⊎◌, ℕ, List, Option, Some}
use Rattle.std.specs.Str.{IsUtf8}
use Rattle.std.specs.List.{AllByRecursion}
use Rattle.ks_plan.specs.Drafts.{Name, DraftView}
use Rattle.ks_def_tasks.specs.Messages.{Rules}
use Rattle.ks_audit_verdict.specs.declared.fault.OutputFault.{OutputFault}
use Rattle.ks_job_source.specs.Cutting.{HasNoEnd}
use Rattle.ks_audit_verdict.specs.Lines.{IsWithinMost}
use Rattle.ks_audit_verdict.specs.Audited.{IsAudited, IsAuditedInput}
use Rattle.ks_audit_verdict.specs.Answers.{IsAuditAnswer}
use Rattle.ks_audit_verdict.specs.Faults.{IsFirstFault}

-- a name of a table, as a topology line can have it
abbrev pub IsWord : Name → Type 0
IsWord name = IsUtf8 name × HasNoEnd name

-- behind so many bytes it has no first fault, where no length is passed
abbrev pub NothingIsRefused : Type 0
NothingIsRefused = (rules : Rules) (d : DraftView) (before : ℕ) (text : List ℕ) → AllByRecursion IsWord d.print → IsWithinMost before text → IsAudited rules d text →
    (count : ℕ) (fault : OutputFault) → IsFirstFault rules d before text count fault → ⊥

-- ---- an input that is a topology's line and what a settled run of it prints with its journal, where no length is passed
-- the one answer to it is yes, if no fault rises in the source
abbrev pub TheAnswerIsYes : Type 0
TheAnswerIsYes = (rules : Rules) (bytes : List ℕ) (left : Option (List ℕ)) (before now status : ℕ) (text : List ℕ) → IsAuditedInput rules bytes → IsAuditAnswer rules (Some bytes) left before now status text → (status ≡ 0) ⊎ (status ≡ 6)
