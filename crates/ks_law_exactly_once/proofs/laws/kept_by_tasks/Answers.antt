use Rattle.ks_law_exactly_once.proofs.Keeping.{all_kept}
use Rattle.ks_law_exactly_once.proofs.laws.kept_by_tasks.Goals as goal

pub returns : goal.returns
returns c = all_kept
