-- What the cluster of an output has come to. No public contract names these words.
use Rattle.std.specs.Prelude.{◌≡◌, ◌≢◌, ◌⊎◌, ℕ, true, false, List, [], ◌∷◌, ◌++◌, length, Option, None}
use Rattle.ks_plan.specs.Drafts.{Name, DraftView}
use Rattle.ks_plan.specs.Plan.{plan_of}
use Rattle.ks_query.specs.declared.table.Table.{Table}
use Rattle.ks_query.specs.Printed.{table_text, tables_text}
use Rattle.ks_def_tasks.specs.Messages.{Rules}
use Rattle.ks_history.specs.State.{State, Setup}
use Rattle.ks_history.specs.Settled.{IsSettled}
use Rattle.ks_law_settled.specs.Collision.{first_pair}
use Rattle.ks_law_settled.specs.Folded.{folded_tables}
use Rattle.ks_history.specs.declared.journal.Entry.{Entry}
use Rattle.ks_settle_report.specs.declared.findings.Report.{Report}
use Rattle.ks_audit_verdict.specs.declared.fault.OutputFault.{OutputFault}
use Rattle.ks_audit_verdict.specs.declared.fault.OutputFault.TheVariants.{NotJournal, NotSettled, Collision, Late}
use Rattle.ks_audit_verdict.specs.Places.{Place}
use Rattle.ks_audit_verdict.specs.Places.Place.{journal_line}
use Rattle.ks_audit_verdict.specs.Faults.{IsFaultyWhole}

-- it is settled, no two rows of a key have one hash, nothing was late, and these are the lines of its tables
pub record ShowsTables (rules : Rules) (d : DraftView) (setup : Setup) (s : State) (lines : List ℕ) : Type 0 where
  pub settled : IsSettled setup s
  pub alone : first_pair rules.hash (plan_of d) s ≡ None
  pub in_time : s.late ≡ 0
  pub printed : lines ≡ tables_text (folded_tables d s)

-- what a report shows, but its tables
abbrev pub IsReportFault : Report → OutputFault → Type 0
IsReportFault r (NotSettled lags pending) = (r.settled ≡ false) × (lags ≡ length r.lags.items) × (pending ≡ r.pending)
IsReportFault r Collision = (r.settled ≡ true) × (r.collision ≢ None)
IsReportFault r (Late late) = (r.settled ≡ true) × (r.collision ≡ None) × (late ≡ r.late) × (r.late ≢ 0)
IsReportFault r fault = ⊥

-- of some lines, those of the table of this name are the first that aren't its text
pub record IsFirstWrong (tables : List Table) (lines : List ℕ) (name : Name) : Type 0 where
  pub before : List Table
  pub table : Table
  pub after : List Table
  pub is : tables ≡ before ++ table ∷ after
  pub named : table.name ≡ name
  pub rest : List ℕ
  pub good : lines ≡ tables_text before ++ rest
  pub wrong : (more : List ℕ) → rest ≡ table_text table ++ more → (after ≡ [] → more ≡ []) → ⊥

-- an output that ends here has this fault
abbrev pub HasEndFault : Rules → DraftView → Place → List ℕ → OutputFault → Type 0
HasEndFault rules d place text fault = (((journal : List Entry) → place ≡ journal_line journal → ⊥) × (fault ≡ NotJournal)) ⊎ IsFaultyWhole rules d place text fault
