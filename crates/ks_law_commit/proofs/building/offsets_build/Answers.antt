use Rattle.ks_law_commit.proofs.Built.{offsets_build}
use Rattle.ks_law_commit.proofs.building.offsets_build.Goals as goal

pub returns : goal.returns
returns c = offsets_build
