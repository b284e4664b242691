use Rattle.ks_topo.proofs.Crossing.{topology_sync}
use Rattle.ks_topo.proofs.sharing.share_topology.Goals as goal

pub returns : goal.returns
returns c = topology_sync c.share_node.ensures
