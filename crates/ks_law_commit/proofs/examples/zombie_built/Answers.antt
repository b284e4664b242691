use Rattle.std.proofs.Common.{refl}
use Rattle.ks_law_commit.proofs.Example.{history, building, holds, faithful, seen, active}
use Rattle.ks_law_commit.proofs.examples.zombie_built.Goals as goal

pub returns : goal.returns
returns c = record { history = history; building = building; holds = holds; faithful = faithful; seen = seen; active = active; fenced = λ rec. refl }
