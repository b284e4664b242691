-- What an audit writes of an output.
use Rattle.std.specs.Prelude.{ℕ, List, [], ◌∷◌, ◌++◌, codes, decimal}
use Rattle.ks_journal.specs.Lines.{task_text}
use Rattle.ks_job_record.specs.Texts.{name_text}
use Rattle.ks_audit.specs.declared.fault.AuditFault.{AuditFault}
use Rattle.ks_audit.specs.declared.fault.AuditFault.TheVariants as refused
use Rattle.ks_audit_verdict.specs.declared.fault.OutputFault.{OutputFault}
use Rattle.ks_audit_verdict.specs.declared.fault.OutputFault.TheVariants.{TooLong, NotJournal, NotLegal, NotFaithful, NotSettled, Collision, Late, WrongTable}

-- the fault of a line of the journal, as one of the output
abbrev pub journal_fault : AuditFault → OutputFault
journal_fault refused.NotJournal = NotJournal
journal_fault refused.NotLegal = NotLegal
journal_fault (refused.NotFaithful task) = NotFaithful task

-- the text of a yes
unfoldable pub yes_text : List ℕ
yes_text = codes "yes" ++ 10 ∷ []

-- a fault's number, its name, and what it tells
abbrev pub fault_text : OutputFault → List ℕ
fault_text TooLong = codes "47 TooLong"
fault_text NotJournal = codes "40 NotJournal"
fault_text NotLegal = codes "41 NotLegal"
fault_text (NotFaithful task) = codes "42 NotFaithful " ++ 34 ∷ (task_text task ++ 34 ∷ [])
fault_text (NotSettled lags pending) = codes "43 NotSettled " ++ decimal lags ++ codes " " ++ decimal pending
fault_text Collision = codes "44 Collision"
fault_text (Late late) = codes "45 Late " ++ decimal late
fault_text (WrongTable name) = codes "46 WrongTable " ++ name_text name

-- the text of a no: the number of the line that shows the fault
unfoldable pub no_text : ℕ → OutputFault → List ℕ
no_text line fault = codes "no " ++ decimal line ++ codes " " ++ fault_text fault ++ 10 ∷ []
