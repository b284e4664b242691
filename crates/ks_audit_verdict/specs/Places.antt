-- The lines of an output, one after another: what each is to be at its place, and why one is refused there.
use Rattle.std.specs.Prelude.{◌≡◌, ℕ, zero, suc, ◌<◌, ◌^◌, Bool, List, [], ◌∷◌, ◌++◌, codes}
use Rattle.std.specs.Str.{IsUtf8}
use Rattle.ks_plan.specs.Drafts.{Name, DraftView}
use Rattle.ks_plan.specs.Plan.{plan_of, known_nodes, node_number, is_windowed}
use Rattle.ks_plan.specs.Layout.{kind_at}
use Rattle.ks_query.specs.Printed.{head_line}
use Rattle.ks_def_tasks.specs.Messages.{Rules}
use Rattle.ks_history.specs.declared.journal.Entry.{Entry}
use Rattle.ks_law_settled.specs.Settled.{end_of}
use Rattle.ks_audit.specs.declared.fault.AuditFault.TheVariants as refused
use Rattle.ks_audit.specs.Audited.{IsTaken, IsRefused}
use Rattle.ks_table_line.specs.Fitting.{IsRowLine}
use Rattle.ks_audit_verdict.specs.declared.fault.OutputFault.{OutputFault}
use Rattle.ks_audit_verdict.specs.declared.fault.OutputFault.TheVariants.{NotJournal, NotLegal, NotFaithful}
use Rattle.ks_audit_verdict.specs.Lines.{IsPlain, Leads, ended, lines_text}

-- what the next line is to be: `settled`; the head of a table, with the names of those behind it; a row of a table with windows or
-- without, with so many behind it; an entry of a journal that has these
pub data Place : Type 0 where
  first_line : Place
  table_head : Name → List Name → Place
  table_row : Bool → ℕ → List Name → Place
  journal_line : List Entry → Place

-- behind a whole table
abbrev pub next_table : List Name → Place
next_table [] = journal_line []
next_table (name ∷ names) = table_head name names

-- with so many rows of a table left
abbrev pub next_row : Bool → ℕ → List Name → Place
next_row windowed zero names = next_table names
next_row windowed (suc left) names = table_row windowed left names

abbrev pub has_windows : DraftView → Name → Bool
has_windows d name = is_windowed (kind_at (plan_of d) (node_number (known_nodes d) name))

-- the line stands there, and then the next one is to be this
abbrev pub TakesAt : Rules → DraftView → Place → List ℕ → Place → Type 0
TakesAt rules d first_line line next = (line ≡ codes "settled") × (next ≡ next_table d.print)
TakesAt rules d (table_head name names) line next = (count : ℕ) × (count < 2 ^ 64) × (ended line ≡ head_line name count) × (next ≡ next_row (has_windows d name) count names)
TakesAt rules d (table_row windowed left names) line next = IsRowLine windowed line × (next ≡ next_row windowed left names)
TakesAt rules d (journal_line journal) line next = (e : Entry) × IsTaken rules (plan_of d) (end_of rules d journal) line e × (next ≡ journal_line (journal ++ e ∷ []))

-- it is no line that stands there
abbrev pub IsUnlike : Rules → DraftView → Place → List ℕ → Type 0
IsUnlike rules d first_line line = line ≡ codes "settled" → ⊥
IsUnlike rules d (table_head name names) line = IsUtf8 name → (count : ℕ) → count < 2 ^ 64 → ended line ≡ head_line name count → ⊥
IsUnlike rules d (table_row windowed left names) line = IsRowLine windowed line → ⊥
IsUnlike rules d (journal_line journal) line = IsRefused rules (plan_of d) (end_of rules d journal) line refused.NotJournal

-- it is refused there, for this reason
abbrev pub RefusesAt : Rules → DraftView → Place → List ℕ → OutputFault → Type 0
RefusesAt rules d place line NotJournal = IsUnlike rules d place line
RefusesAt rules d (journal_line journal) line NotLegal = IsRefused rules (plan_of d) (end_of rules d journal) line refused.NotLegal
RefusesAt rules d (journal_line journal) line (NotFaithful t) = IsRefused rules (plan_of d) (end_of rules d journal) line (refused.NotFaithful t)
RefusesAt rules d place line fault = ⊥

-- these lines stand one after another from a place on, and lead here
abbrev pub TakesLines : Rules → DraftView → Place → List (List ℕ) → Place → Type 0
TakesLines rules d place lines here = Leads (TakesAt rules d) place lines here

-- these bytes are lines that stand one after another from a place on, and maybe the front of another one: no whole line is refused
pub record BeginsAt (rules : Rules) (d : DraftView) (place : Place) (bytes : List ℕ) : Type 0 where
  pub lines : List (List ℕ)
  pub here : Place
  pub taken : TakesLines rules d place lines here
  pub begun : List ℕ
  pub plain : IsPlain begun
  pub cut : bytes ≡ lines_text lines ++ begun
