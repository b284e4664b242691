use Rattle.ks_audit_ledger.proofs.Noting.{account_stays}
use Rattle.ks_audit_ledger.proofs.laws.account_stays.Goals as goal

pub returns : goal.returns
returns c = account_stays
