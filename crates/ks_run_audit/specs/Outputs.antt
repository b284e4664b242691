-- An output, line by line, as far as it was judged. No public contract names the reader's words.
use Rattle.std.specs.Prelude.{◌≡◌, ◌<◌, ◌≤◌, ℕ, List, [], ◌∷◌, ◌++◌, ◌-◌, Bool, false, Option, Some, None, length, codes, drop, get_or}
use Rattle.ks_plan.specs.Drafts.{Name, DraftView, op_view}
use Rattle.ks_plan.specs.declared.node.Node.{Node}
use Rattle.ks_topo.specs.Topologies.{draft_of}
use Rattle.ks_def_tasks.specs.Rules.{rules_of}
use Rattle.ks_history.specs.declared.journal.Entry.{Entry}
use Rattle.ks_settle.specs.Rows.{counts_windows}
use Rattle.ks_journal.specs.Lines.{journal_text}
use Rattle.ks_journal.specs.Fits.{FitsJournal}
use Rattle.ks_audit.specs.Audits.{IsAudit, journal_of}
use Rattle.ks_run_audit.specs.declared.output.Stage.{Stage}
use Rattle.ks_run_audit.specs.declared.output.Stage.TheVariants.{Settled, Head, Row, Journal}
use Rattle.ks_run_audit.specs.declared.output.OutputAudit.{OutputAudit}
use Rattle.ks_audit_verdict.specs.Lines.{ended}
use Rattle.ks_audit_verdict.specs.Places.{Place, next_table, next_row, has_windows, TakesAt}
use Rattle.ks_audit_verdict.specs.Places.Place.{first_line, journal_line}

-- ---- the text of the lines so far, each with its end
abbrev pub settled_line : List ℕ
settled_line = codes "settled" ++ 10 ∷ []

abbrev pub begun_text : Stage → List ℕ
begun_text Settled = []
begun_text Head = settled_line
begun_text (Row left) = settled_line
begun_text Journal = settled_line

abbrev pub text_of : {H : Type 0} → OutputAudit H → List ℕ
text_of o = begun_text o.stage ++ o.tables.items ++ journal_text (journal_of o.audit)

-- ---- what the next line may be, where so many tables have begun of so many names
abbrev pub FitsStage : Stage → ℕ → ℕ → List Entry → Type 0
FitsStage Settled tables names journal = (tables ≡ 0) × (journal ≡ [])
FitsStage Head tables names journal = (tables < names) × (journal ≡ [])
FitsStage (Row left) tables names journal = (0 < left) × (0 < tables) × (tables ≤ names) × (journal ≡ [])
FitsStage Journal tables names journal = tables ≡ names

-- a table is whole: the next one begins, or the journal
abbrev pub FitsNext : Stage → ℕ → ℕ → Type 0
FitsNext Settled tables names = ⊥
FitsNext Head tables names = tables < names
FitsNext (Row left) tables names = (0 < left) × (0 < tables) × (tables ≤ names)
FitsNext Journal tables names = tables ≡ names

abbrev pub names_of : {H : Type 0} → OutputAudit H → ℕ
names_of o = length (draft_of o.topology.now).print

-- ---- where it stands
-- of the table that has begun last
abbrev pub last_name : {H : Type 0} → OutputAudit H → Name
last_name o = get_or (draft_of o.topology.now).print (o.begun - 1) []

-- whether a node that was found counts by windows
abbrev pub windows_of : Option Node → Bool
windows_of None = false
windows_of (Some node) = counts_windows (op_view node.op)

abbrev pub place_of : DraftView → Stage → ℕ → List Entry → Place
place_of d Settled begun journal = first_line
place_of d Head begun journal = next_table (drop begun d.print)
place_of d (Row left) begun journal = next_row (has_windows d (get_or d.print (begun - 1) [])) left (drop begun d.print)
place_of d Journal begun journal = journal_line journal

abbrev pub place_in : {H : Type 0} → OutputAudit H → Place
place_in o = place_of (draft_of o.topology.now) o.stage o.begun (journal_of o.audit)

-- its journal is audited without a fault, and the next line is one that may come
pub record IsSound {H : Type 0} (hash : List ℕ → ℕ) (o : OutputAudit H) : Type 0 where
  pub topology : o.audit.topology ≡ o.topology
  pub fault : o.audit.fault ≡ None
  pub kept : IsAudit hash o.audit
  pub fits : FitsJournal (journal_of o.audit)
  pub stage : FitsStage o.stage o.begun (names_of o) (journal_of o.audit)
  pub none : o.begun ≡ 0 → o.tables.items ≡ []

-- a line before the journal was taken
pub record TakesFront {H : Type 0} (hash : List ℕ → ℕ) (line : List ℕ) (old new : OutputAudit H) : Type 0 where
  pub topology : new.topology ≡ old.topology
  pub audit : new.audit ≡ old.audit
  pub stage : FitsNext new.stage new.begun (names_of new)
  pub none : new.begun ≡ 0 → new.tables.items ≡ []
  pub text : begun_text new.stage ++ new.tables.items ≡ begun_text old.stage ++ old.tables.items ++ ended line
  pub along : TakesAt (rules_of hash) (draft_of old.topology.now) (place_in old) line (place_in new)

-- a line was taken
pub record TakesOutput {H : Type 0} (hash : List ℕ → ℕ) (line : List ℕ) (old new : OutputAudit H) : Type 0 where
  pub sound : IsSound hash new
  pub topology : new.topology ≡ old.topology
  pub text : text_of new ≡ text_of old ++ ended line
  pub along : TakesAt (rules_of hash) (draft_of old.topology.now) (place_in old) line (place_in new)
