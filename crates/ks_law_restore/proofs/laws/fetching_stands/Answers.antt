use Rattle.ks_law_restore.proofs.Fetching.{fetching_stands}
use Rattle.ks_law_restore.proofs.laws.fetching_stands.Goals as goal

pub returns : goal.returns
returns c = fetching_stands
