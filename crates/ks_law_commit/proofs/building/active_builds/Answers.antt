use Rattle.ks_law_commit.proofs.Undecided.{active_builds}
use Rattle.ks_law_commit.proofs.building.active_builds.Goals as goal

pub returns : goal.returns
returns c = active_builds
