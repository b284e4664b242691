use Rattle.ks_plan.proofs.Crossing.{node_sync}
use Rattle.ks_plan.proofs.sharing.share_node.Goals as goal

pub returns : goal.returns
returns c = node_sync
