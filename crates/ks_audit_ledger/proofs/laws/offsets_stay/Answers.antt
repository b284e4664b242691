use Rattle.ks_audit_ledger.proofs.Offsetting.{offsets_stay}
use Rattle.ks_audit_ledger.proofs.laws.offsets_stay.Goals as goal

pub returns : goal.returns
returns c = offsets_stay
