use Rattle.ks_law_topology.proofs.Setups.{setups_are_made}
use Rattle.ks_law_topology.proofs.setups_are_made.Goals as goal

pub returns : goal.returns
returns c = setups_are_made
