use Rattle.ks_law_audit.proofs.Logging.{open_is_logged}
use Rattle.ks_law_audit.proofs.laws.open_is_logged.Goals as goal

pub returns : goal.returns
returns c = open_is_logged
