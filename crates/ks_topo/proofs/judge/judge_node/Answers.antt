use Rattle.ks_topo.proofs.Judging.{found_here, is_here}
use Rattle.ks_topo.proofs.judge.judge_node.Goals as goal

pub returns-clause-found : goal.returns-clause-found
returns-clause-found c =
    found_here c.args.draft.now c.as_slice.result.now c.args.parts.now c.args.origins.now c.as_slice-nodes.result.now c.nodes_before.result.now c.args.i c.index-nodes-i.result c.check_node.result
    c.requires.within c.as_slice.ensures c.as_slice-nodes.ensures c.nodes_before.ensures c.index-nodes-i.is c.check_node.ensures.found

pub returns-clause-resolved : goal.returns-clause-resolved
returns-clause-resolved c =
    is_here c.args.draft.now c.as_slice.result.now c.as_slice-nodes.result.now c.nodes_before.result.now c.args.i c.index-nodes-i.result c.check_node.result
    c.requires.within c.as_slice.ensures c.as_slice-nodes.ensures c.nodes_before.ensures c.index-nodes-i.is c.check_node.ensures.resolved
