use Rattle.ks_audit_ledger.proofs.Noting.{decision_is_told}
use Rattle.ks_audit_ledger.proofs.laws.decision_is_told.Goals as goal

pub returns : goal.returns
returns c = decision_is_told
