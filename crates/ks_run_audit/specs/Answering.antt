-- What is answered of an output. No public contract names these words.
use Rattle.std.specs.Prelude.{◌≡◌, ◌⊎◌, ◌+◌, ◌≤◌, ℕ, suc, List, [], ◌++◌, length, Option, Some, None}
use Rattle.std.specs.Io.KnownBytes.{Consumes, IsAtEnd}
use Rattle.ks_plan.specs.Drafts.{DraftView}
use Rattle.ks_def_tasks.specs.Messages.{Rules}
use Rattle.ks_audit_verdict.specs.declared.fault.OutputFault.{OutputFault}
use Rattle.ks_audit_verdict.specs.Lines.{IsWithinMost}
use Rattle.ks_audit_verdict.specs.Places.{Place, BeginsAt}
use Rattle.ks_audit_verdict.specs.Audited.{IsAudited}
use Rattle.ks_audit_verdict.specs.Faults.{EndsFaulty, IsFirstFault}
use Rattle.ks_audit_verdict.specs.Texts.{yes_text, no_text}

-- the statuses of what stands behind a topology line
abbrev pub IsJudged : ℕ → Type 0
IsJudged s = (s ≡ 0) ⊎ (s ≡ 10)

-- of an output whose input has ended, with these lines and then this one that has begun, which has this number
pub record EndsOutput (rules : Rules) (d : DraftView) (place : Place) (lines begun : List ℕ) (line status : ℕ) (text : List ℕ) : Type 0 where
  pub yes : status ≡ 0 → (text ≡ yes_text) × (begun ≡ []) × IsAudited rules d lines
  pub no : status ≡ 10 → (fault : OutputFault) × EndsFaulty rules d place (lines ++ begun) begun fault × (text ≡ no_text line fault)
  pub only : IsJudged status

-- what a source has left, where it tells that
abbrev pub left_of : Option (List ℕ) → List ℕ
left_of None = []
left_of (Some bytes) = bytes

-- the source lost these bytes behind some others, and all of them are audited
pub record EndsAudited (rules : Rules) (d : DraftView) (taken : ℕ) (rest : List ℕ) (old now : Option (List ℕ)) : Type 0 where
  pub got : List ℕ
  pub lost : Consumes old now got
  pub end : IsAtEnd now
  pub within : IsWithinMost taken (rest ++ got)
  pub audited : IsAudited rules d (rest ++ got)

-- it lost these, and they have this first fault, with those that it has left
pub record EndsRefused (rules : Rules) (d : DraftView) (taken : ℕ) (rest : List ℕ) (old now : Option (List ℕ)) (line : ℕ) (text : List ℕ) : Type 0 where
  pub got : List ℕ
  pub lost : Consumes old now got
  pub count : ℕ
  pub fault : OutputFault
  pub first : IsFirstFault rules d taken ((rest ++ got) ++ left_of now) count fault
  pub told : text ≡ no_text (line + suc count) fault

-- what is answered of it behind a topology line of this number, where so many bytes had been taken, and these behind them
pub record AnswersOutput (rules : Rules) (d : DraftView) (line taken : ℕ) (rest : List ℕ) (old now : Option (List ℕ)) (status : ℕ) (text : List ℕ) : Type 0 where
  pub yes : status ≡ 0 → (text ≡ yes_text) × EndsAudited rules d taken rest old now
  pub no : status ≡ 10 → EndsRefused rules d taken rest old now line text
  pub only : IsJudged status

-- the source lost these bytes behind some others, where so many had been taken with those, and all of them begin what stands from a place on
pub record EndsEarly (rules : Rules) (d : DraftView) (place : Place) (taken : ℕ) (rest : List ℕ) (old now : Option (List ℕ)) : Type 0 where
  pub got : List ℕ
  pub lost : Consumes old now got
  pub most : taken + length got ≤ 536870912
  pub front : BeginsAt rules d place (rest ++ got)
