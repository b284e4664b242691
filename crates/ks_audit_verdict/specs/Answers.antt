-- What an audit answers, by the bytes of its source.
use Rattle.std.specs.Prelude.{◌≡◌, ◌⊎◌, ◌+◌, ◌≤◌, ℕ, suc, List, [], ◌∷◌, ◌++◌, length, Option, Some, None, IfSome}
use Rattle.std.specs.Io.KnownBytes.{Consumes, IsAtEnd}
use Rattle.ks_edge.specs.Causes.{Rose}
use Rattle.ks_plan.specs.Drafts.{DraftView}
use Rattle.ks_def_tasks.specs.Messages.{Rules}
use Rattle.ks_job_source.specs.declared.stop.JobStop.{JobStop}
use Rattle.ks_job_source.specs.Texts.{bad_job_text}
use Rattle.ks_run_output.specs.Texts.{read_fault_text}
use Rattle.ks_audit_verdict.specs.declared.fault.OutputFault.{OutputFault}
use Rattle.ks_audit_verdict.specs.declared.fault.OutputFault.TheVariants.{NotJournal}
use Rattle.ks_job_source.specs.TopologyLines.{EndsTopology, StopsAt, StopsAtEnd, LacksEnd, LacksTopology}
use Rattle.ks_audit_verdict.specs.Audited.{HoldsAudited}
use Rattle.ks_audit_verdict.specs.Places.{BeginsAt}
use Rattle.ks_audit_verdict.specs.Places.Place.{first_line}
use Rattle.ks_audit_verdict.specs.Faults.{IsFirstFault}
use Rattle.ks_audit_verdict.specs.Texts.{yes_text, no_text}

-- ---- the topology's line is faulty
pub record HasBadTopology (left : Option (List ℕ)) (stop : JobStop) : Type 0 where
  pub bytes : List ℕ
  pub known : IfSome left (λ b. b ≡ bytes)
  pub bad : StopsAt bytes stop ⊎ StopsAtEnd bytes stop

-- ---- what stands behind it is
-- these bytes are a topology's line, and what stands behind it has this first fault, in this line of all
pub record IsFaultyInput (rules : Rules) (bytes : List ℕ) (line : ℕ) (fault : OutputFault) : Type 0 where
  pub head : List ℕ
  pub text : List ℕ
  pub cut : bytes ≡ head ++ text
  pub number : ℕ
  pub draft : DraftView
  pub topology : EndsTopology head number draft
  pub count : ℕ
  pub first : IsFirstFault rules draft (length head) text count fault
  pub counted : line ≡ number + suc count

pub record HasFault (rules : Rules) (left : Option (List ℕ)) (line : ℕ) (fault : OutputFault) : Type 0 where
  pub bytes : List ℕ
  pub known : IfSome left (λ b. b ≡ bytes)
  pub is : IsFaultyInput rules bytes line fault ⊎ (LacksEnd bytes line × (fault ≡ NotJournal))

-- ---- nothing is, so far
-- these bytes are a topology's line and the front of an output, and no length is passed
pub record BeginsOutput (rules : Rules) (bytes : List ℕ) : Type 0 where
  pub head : List ℕ
  pub text : List ℕ
  pub cut : bytes ≡ head ++ text
  pub line : ℕ
  pub draft : DraftView
  pub topology : EndsTopology head line draft
  pub front : BeginsAt rules draft first_line text
  pub most : length bytes ≤ 536870912

-- the source lost some bytes that have no fault so far: no topology has come yet, or the front of its output
pub record TookNothingFaulty (rules : Rules) (old new : Option (List ℕ)) : Type 0 where
  pub taken : List ℕ
  pub lost : Consumes old new taken
  pub is : LacksTopology taken ⊎ BeginsOutput rules taken

-- ---- statuses
-- of an input that the source gives
abbrev pub IsAnswered : ℕ → Type 0
IsAnswered s = (s ≡ 0) ⊎ (s ≡ 2) ⊎ (s ≡ 10)

abbrev pub IsVerdict : ℕ → Type 0
IsVerdict s = (s ≡ 0) ⊎ (s ≡ 2) ⊎ (s ≡ 6) ⊎ (s ≡ 10)

-- the status and the text, by the bytes that the source has left before and after, where they are known, and its count of faults before
-- and after
pub record IsAuditAnswer (rules : Rules) (old new : Option (List ℕ)) (before now : ℕ) (status : ℕ) (text : List ℕ) : Type 0 where
  pub yes : status ≡ 0 → (now ≡ before) × IsAtEnd new × HoldsAudited rules old × (text ≡ yes_text)
  pub bad_topology : status ≡ 2 → (now ≡ before) × ((stop : JobStop) × HasBadTopology old stop × (text ≡ bad_job_text stop))
  pub read_fault : status ≡ 6 → Rose before now × TookNothingFaulty rules old new × (text ≡ read_fault_text)
  pub no : status ≡ 10 → (now ≡ before) × ((line : ℕ) × (fault : OutputFault) × HasFault rules old line fault × (text ≡ no_text line fault))
  pub only : IsVerdict status
