use Rattle.ks_audit_entry.proofs.Tested.{meets_is_tested}
use Rattle.ks_audit_entry.proofs.laws.meets_is_tested.Goals as goal

pub returns : goal.returns
returns c = meets_is_tested
