use Rattle.ks_audit_ledger.proofs.Keeping.{ledger_starts}
use Rattle.ks_audit_ledger.proofs.laws.ledger_starts.Goals as goal

pub returns : goal.returns
returns c = ledger_starts
