use Rattle.ks_audit_ledger.proofs.Keeping.{ledger_stays}
use Rattle.ks_audit_ledger.proofs.laws.ledger_stays.Goals as goal

pub returns : goal.returns
returns c = ledger_stays
