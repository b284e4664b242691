use Rattle.ks_law_topology.proofs.Kept.{nothing_is_held_back}
use Rattle.ks_law_topology.proofs.nothing_is_held_back.Goals as goal

pub returns : goal.returns
returns c = nothing_is_held_back
