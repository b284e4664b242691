use Rattle.ks_law_audit.proofs.Failing.{order_fails}
use Rattle.ks_law_audit.proofs.laws.order_fails.Goals as goal

pub returns : goal.returns
returns c = order_fails
