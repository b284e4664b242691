use Rattle.ks_law_audit.proofs.Failing.{rest_fails}
use Rattle.ks_law_audit.proofs.laws.rest_fails.Goals as goal

pub returns : goal.returns
returns c = rest_fails
