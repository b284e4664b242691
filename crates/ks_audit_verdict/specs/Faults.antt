-- The first fault of an output, by its bytes: the line that shows it, and of that line's faults the first.
use Rattle.std.specs.Prelude.{◌≡◌, ◌≢◌, ◌⊎◌, ◌+◌, ◌<◌, ◌≤◌, ℕ, List, [], ◌∷◌, ◌++◌, length, map, codes, None}
use Rattle.ks_plan.specs.Drafts.{Name, DraftView}
use Rattle.ks_plan.specs.Plan.{plan_of}
use Rattle.ks_plan.specs.Infos.{drain_numbers}
use Rattle.ks_query.specs.Printed.{table_text, tables_text}
use Rattle.ks_def_tasks.specs.Messages.{Rules}
use Rattle.ks_history.specs.declared.journal.Entry.{Entry}
use Rattle.ks_history.specs.State.{State, Setup}
use Rattle.ks_history.specs.Reads.{pending_producers}
use Rattle.ks_history.specs.Settled.{IsSettled}
use Rattle.ks_law_topology.specs.Work.{setup_of}
use Rattle.ks_law_settled.specs.Collision.{first_pair}
use Rattle.ks_law_settled.specs.Folded.{folded_table}
use Rattle.ks_law_settled.specs.Settled.{end_of}
use Rattle.ks_settle_report.specs.Report.{lags_of}
use Rattle.ks_journal.specs.Lines.{journal_text}
use Rattle.ks_audit_verdict.specs.declared.fault.OutputFault.{OutputFault}
use Rattle.ks_audit_verdict.specs.declared.fault.OutputFault.TheVariants.{TooLong, NotJournal, NotSettled, Collision, Late, WrongTable}
use Rattle.ks_job_source.specs.Cutting.{HasNoEnd}
use Rattle.ks_audit_verdict.specs.Lines.{IsPlain, lines_text}
use Rattle.ks_audit_verdict.specs.Places.{Place, TakesLines, RefusesAt}
use Rattle.ks_audit_verdict.specs.Places.Place.{first_line, journal_line}

-- ---- a length is passed in the line that these bytes begin
-- the line has more than 67,108,864 bytes
pub record IsLongLine (rest : List ℕ) : Type 0 where
  pub front : List ℕ
  pub more : List ℕ
  pub cut : rest ≡ front ++ more
  pub line : HasNoEnd front
  pub long : 67108864 < length front

-- byte 536,870,913 of the input stands in it, behind so many bytes before it
pub record IsLongInput (before : ℕ) (rest : List ℕ) : Type 0 where
  pub front : List ℕ
  pub byte : ℕ
  pub more : List ℕ
  pub cut : rest ≡ front ++ byte ∷ more
  pub line : HasNoEnd front
  pub full : before + length front ≡ 536870912

-- ---- a line that isn't too long is refused at its place
pub record IsFaultyLine (rules : Rules) (d : DraftView) (before : ℕ) (place : Place) (rest : List ℕ) (fault : OutputFault) : Type 0 where
  pub line : List ℕ
  pub more : List ℕ
  pub cut : rest ≡ line ++ 10 ∷ more
  pub plain : IsPlain line
  pub within : before + length line < 536870912
  pub refused : RefusesAt rules d place line fault

-- ---- the end of the input
-- of the lines of some tables, those of this name are the first that aren't its fold
pub record IsWrongTable (d : DraftView) (s : State) (lines : List ℕ) (name : Name) : Type 0 where
  pub before : List Name
  pub after : List Name
  pub printed : d.print ≡ before ++ name ∷ after
  pub rest : List ℕ
  pub good : lines ≡ tables_text (map (folded_table d s) before) ++ rest
  pub wrong : (more : List ℕ) → rest ≡ table_text (folded_table d s name) ++ more → (after ≡ [] → more ≡ []) → ⊥

-- the whole of an output shows it, whose tables have these lines, by where its journal leaves the cluster
abbrev pub ShowsFault : Rules → DraftView → Setup → State → List ℕ → OutputFault → Type 0
ShowsFault rules d setup s lines (NotSettled lags pending) = (IsSettled setup s → ⊥) × (lags ≡ length (lags_of setup s (drain_numbers (plan_of d)))) × (pending ≡ pending_producers s)
ShowsFault rules d setup s lines Collision = IsSettled setup s × (first_pair rules.hash (plan_of d) s ≢ None)
ShowsFault rules d setup s lines (Late late) = IsSettled setup s × (first_pair rules.hash (plan_of d) s ≡ None) × (late ≡ s.late) × (s.late ≢ 0)
ShowsFault rules d setup s lines (WrongTable name) = IsSettled setup s × (first_pair rules.hash (plan_of d) s ≡ None) × (s.late ≡ 0) × IsWrongTable d s lines name
ShowsFault rules d setup s lines fault = ⊥

pub record IsFaultyWhole (rules : Rules) (d : DraftView) (place : Place) (text : List ℕ) (fault : OutputFault) : Type 0 where
  pub journal : List Entry
  pub here : place ≡ journal_line journal
  pub lines : List ℕ
  pub cut : text ≡ codes "settled" ++ 10 ∷ (lines ++ journal_text journal)
  pub shows : ShowsFault rules d (setup_of rules (plan_of d)) (end_of rules d journal) lines fault

-- a line has begun, which lacks its end; or lines lack that are to come before the journal; or the whole shows it
abbrev pub EndsFaulty : Rules → DraftView → Place → List ℕ → List ℕ → OutputFault → Type 0
EndsFaulty rules d place text rest fault =
    ((rest ≢ []) × (fault ≡ NotJournal))
    ⊎ ((rest ≡ []) × ((journal : List Entry) → place ≡ journal_line journal → ⊥) × (fault ≡ NotJournal))
    ⊎ ((rest ≡ []) × IsFaultyWhole rules d place text fault)

pub record IsFaultyEnd (rules : Rules) (d : DraftView) (before : ℕ) (place : Place) (text rest : List ℕ) (fault : OutputFault) : Type 0 where
  pub plain : IsPlain rest
  pub within : before + length rest ≤ 536870912
  pub ends : EndsFaulty rules d place text rest fault

-- ---- the first fault of these bytes, which stand behind so many: behind so many lines that are taken
abbrev pub IsFaultAt : Rules → DraftView → ℕ → Place → List ℕ → List ℕ → OutputFault → Type 0
IsFaultAt rules d before place text rest fault =
    ((fault ≡ TooLong) × (IsLongLine rest ⊎ IsLongInput before rest))
    ⊎ IsFaultyLine rules d before place rest fault
    ⊎ IsFaultyEnd rules d before place text rest fault

pub record IsFirstFault (rules : Rules) (d : DraftView) (before : ℕ) (text : List ℕ) (count : ℕ) (fault : OutputFault) : Type 0 where
  pub lines : List (List ℕ)
  pub place : Place
  pub taken : TakesLines rules d first_line lines place
  pub counted : count ≡ length lines
  pub rest : List ℕ
  pub cut : text ≡ lines_text lines ++ rest
  pub is : IsFaultAt rules d (before + length (lines_text lines)) place text rest fault
