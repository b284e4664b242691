-- Bytes, cut into lines that are judged. No public contract names these words.
use Rattle.std.specs.Prelude.{◌≡◌, ◌⊎◌, ◌+◌, ◌≤◌, ◌<◌, ℕ, List, [], ◌++◌, length, Option}
use Rattle.std.specs.Io.KnownBytes.{Consumes, IsAtEnd}
use Rattle.ks_plan.specs.Drafts.{DraftView}
use Rattle.ks_topo.specs.Topologies.{draft_of}
use Rattle.ks_def_tasks.specs.Messages.{Rules}
use Rattle.ks_def_tasks.specs.Rules.{rules_of}
use Rattle.ks_audit_verdict.specs.declared.fault.OutputFault.{OutputFault}
use Rattle.ks_audit_verdict.specs.declared.fault.OutputFault.TheVariants.{TooLong}
use Rattle.ks_audit_verdict.specs.Lines.{IsPlain, lines_text}
use Rattle.ks_audit_verdict.specs.Places.{Place, TakesAt, RefusesAt}
use Rattle.ks_audit_verdict.specs.Faults.{IsLongLine, IsLongInput, IsFaultyLine}
use Rattle.ks_run_audit.specs.declared.output.OutputAudit.{OutputAudit}
use Rattle.ks_run_audit.specs.declared.feeding.LineFeed.{LineFeed}
use Rattle.ks_run_audit.specs.Passing.{Passing, Refuses}
use Rattle.ks_run_audit.specs.Outputs.{IsSound, text_of, place_in}

abbrev pub draft_in : {H : Type 0} → OutputAudit H → DraftView
draft_in o = draft_of o.topology.now

-- a whole line is too long; or it isn't, and is refused at its place
abbrev pub IsRefusal : Rules → DraftView → Place → List ℕ → OutputFault → Type 0
IsRefusal rules d place line fault = ((fault ≡ TooLong) × (67108864 < length line)) ⊎ ((length line ≤ 67108864) × RefusesAt rules d place line fault)

-- the first line of these bytes is refused, behind so many bytes of the input, at its place
abbrev pub IsRefused : Rules → DraftView → OutputFault → ℕ → Place → List ℕ → Type 0
IsRefused rules d fault before place rest = ((fault ≡ TooLong) × (IsLongLine rest ⊎ IsLongInput before rest)) ⊎ IsFaultyLine rules d before place rest fault

-- ---- a line that has begun, with the counts of lines and bytes before
pub record IsFeed (feed : LineFeed) : Type 0 where
  pub plain : IsPlain feed.line.items
  pub within : feed.taken ≤ 536870912
  pub few : feed.lines ≤ feed.taken

-- ---- bytes behind a line that had begun, from one output to another, with the counts of lines
-- their lines were taken, and another one has begun, before the bytes that are left
pub record Feeding {H : Type 0} (hash : List ℕ → ℕ) (d : DraftView) (bytes rest begun left : List ℕ) (before after : ℕ) (old new : OutputAudit H) : Type 0 where
  pub sound : IsSound hash new
  pub topology : new.topology ≡ old.topology
  pub lines : List (List ℕ)
  pub passing : Passing (TakesAt (rules_of hash) d) (place_in old) (place_in new) bytes rest begun left before after lines
  pub text : text_of new ≡ text_of old ++ lines_text lines

-- of all of them
abbrev pub Feeds : {H : Type 0} → (List ℕ → ℕ) → DraftView → List ℕ → List ℕ → List ℕ → ℕ → ℕ → OutputAudit H → OutputAudit H → Type 0
Feeds hash d bytes begun left before after old new = Feeding hash d bytes [] begun left before after old new

-- one of them is refused, where the line that had begun stands behind so many bytes
abbrev pub RefusesBytes : {H : Type 0} → (List ℕ → ℕ) → DraftView → ℕ → List ℕ → List ℕ → ℕ → ℕ → OutputAudit H → OutputFault → Type 0
RefusesBytes hash d at bytes begun before after old fault = Refuses (TakesAt (rules_of hash) d) (IsRefused (rules_of hash) d fault) (place_in old) at bytes begun before after

-- ---- the bytes of a source
-- it lost these, none only at its end, and their lines were taken
pub record Loses {H : Type 0} (hash : List ℕ → ℕ) (d : DraftView) (count : ℕ) (left now : Option (List ℕ)) (begun begins : List ℕ) (before after : ℕ) (old new : OutputAudit H) : Type 0 where
  pub bytes : List ℕ
  pub lost : Consumes left now bytes
  pub size : length bytes ≡ count
  pub end : count ≡ 0 → IsAtEnd now
  pub feeds : Feeds hash d bytes begun begins before after old new

-- it lost these, and one of their lines is refused, where so many had been taken before them
pub record LosesFault {H : Type 0} (hash : List ℕ → ℕ) (d : DraftView) (taken : ℕ) (left now : Option (List ℕ)) (begun : List ℕ) (before after : ℕ) (old : OutputAudit H) (fault : OutputFault) : Type 0 where
  pub bytes : List ℕ
  pub lost : Consumes left now bytes
  pub refuses : (at : ℕ) → at + length begun ≡ taken → RefusesBytes hash d at bytes begun before after old fault

-- so far it lost these, and their lines were taken
pub record HasLost {H : Type 0} (hash : List ℕ → ℕ) (d : DraftView) (taken total : ℕ) (first now : Option (List ℕ)) (begun begins : List ℕ) (before after : ℕ) (old new : OutputAudit H) : Type 0 where
  pub got : List ℕ
  pub lost : Consumes first now got
  pub size : total ≡ taken + length got
  pub feeds : Feeds hash d got begun begins before after old new

-- it lost all its bytes, and their lines were taken
pub record ReadsOut {H : Type 0} (hash : List ℕ → ℕ) (d : DraftView) (taken total : ℕ) (first now : Option (List ℕ)) (begun begins : List ℕ) (before after : ℕ) (old new : OutputAudit H) : Type 0 where
  pub has_lost : HasLost hash d taken total first now begun begins before after old new
  pub end : IsAtEnd now

-- ---- bytes that had been taken before, and those of the source behind them, where nothing had been judged
-- the lines of all of them were taken
pub record ReadsAll {H : Type 0} (hash : List ℕ → ℕ) (d : DraftView) (taken total : ℕ) (rest : List ℕ) (first now : Option (List ℕ)) (begins : List ℕ) (before after : ℕ) (old new : OutputAudit H) : Type 0 where
  pub got : List ℕ
  pub lost : Consumes first now got
  pub end : IsAtEnd now
  pub size : total ≡ taken + length (rest ++ got)
  pub feeds : Feeds hash d (rest ++ got) [] begins before after old new

-- one of them is refused
pub record ReadsFault {H : Type 0} (hash : List ℕ → ℕ) (d : DraftView) (taken : ℕ) (rest : List ℕ) (first now : Option (List ℕ)) (before after : ℕ) (old : OutputAudit H) (fault : OutputFault) : Type 0 where
  pub got : List ℕ
  pub lost : Consumes first now got
  pub refuses : RefusesBytes hash d taken (rest ++ got) [] before after old fault
