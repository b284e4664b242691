use Rattle.ks_law_topology.proofs.Networks.{works_are_networks}
use Rattle.ks_law_topology.proofs.works_are_networks.Goals as goal

pub returns : goal.returns
returns c = works_are_networks
