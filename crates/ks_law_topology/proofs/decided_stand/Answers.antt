use Rattle.ks_law_topology.proofs.Placing.{decided_stand}
use Rattle.ks_law_topology.proofs.decided_stand.Goals as goal

pub returns : goal.returns
returns c = decided_stand
