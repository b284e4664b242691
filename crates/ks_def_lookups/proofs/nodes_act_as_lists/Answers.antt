use Rattle.ks_def_lookups.proofs.Lists.{nodes_act_as_lists}
use Rattle.ks_def_lookups.proofs.nodes_act_as_lists.Goals as goal

pub returns : goal.returns
returns c = nodes_act_as_lists
