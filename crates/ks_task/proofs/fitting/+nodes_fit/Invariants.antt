use Rattle.std.proofs.Common.{length}
use Rattle.ks_task.proofs.fitting.+nodes_fit.Given as goal

abbrev pub decreases-nodes_fit : goal.decreases-nodes_fit
decreases-nodes_fit l = length l.nodes.now
