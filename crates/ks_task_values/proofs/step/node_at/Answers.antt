use Rattle.std.proofs.Common.{arith}
use Rattle.ks_task_values.proofs.LiveValues.{node_there, no_node}
use Rattle.ks_task_values.proofs.step.node_at.Goals as goal

pub returns-in-Some : goal.returns-in-Some
returns-in-Some c = node_there c.args.nodes.now c.args.number c.in-Some.ensures.lookup.3.0 c.in-Some.node.now c.in-Some.ensures.lookup.3.1

pub returns-in-None : goal.returns-in-None
returns-in-None c = no_node c.args.nodes.now c.args.number (omega (arith, c.in-None.ensures.lookup))
