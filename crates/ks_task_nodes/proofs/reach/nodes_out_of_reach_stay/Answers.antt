use Rattle.ks_task_nodes.proofs.Still.{out_of_reach_stays}
use Rattle.ks_task_nodes.proofs.reach.nodes_out_of_reach_stay.Goals as goal

pub returns : goal.returns
returns c = out_of_reach_stays
