use Rattle.ks_law_commit.proofs.Built.{append_builds}
use Rattle.ks_law_commit.proofs.building.append_builds.Goals as goal

pub returns : goal.returns
returns c = append_builds
