use Rattle.ks_law_commit.proofs.Built.{add_builds}
use Rattle.ks_law_commit.proofs.building.add_builds.Goals as goal

pub returns : goal.returns
returns c = add_builds
