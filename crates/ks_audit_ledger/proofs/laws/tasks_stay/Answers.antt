use Rattle.ks_audit_ledger.proofs.Naming.{tasks_stay}
use Rattle.ks_audit_ledger.proofs.laws.tasks_stay.Goals as goal

pub returns : goal.returns
returns c = tasks_stay
