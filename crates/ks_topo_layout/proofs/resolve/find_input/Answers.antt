use Rattle.std.proofs.Common.{arith}
use Rattle.ks_plan.specs.Drafts.{nodes_view}
use Rattle.ks_plan.specs.Plan.{nothing_known}
use Rattle.ks_topo_layout.specs.Resolve.{resolved}
use Rattle.ks_topo_layout.proofs.Resolving.{input_found}
use Rattle.ks_topo_layout.proofs.resolve.find_input.Goals as goal

pub returns-in-Some : goal.returns-in-Some
returns-in-Some c =
    input_found c.args.topics.now (nodes_view c.args.nodes.now) c.args.name.now c.find_node-number.result c.args.known.now c.in-Some.input.now c.find_node-number.ensures.place c.requires.known
    (c.in-Some.ensures.lookup.3.1 (resolved nothing_known))

pub returns-in-None : goal.returns-in-None
returns-in-None c =
    input_found c.args.topics.now (nodes_view c.args.nodes.now) c.args.name.now c.find_node-number.result c.args.known.now (resolved nothing_known) c.find_node-number.ensures.place c.requires.known
    (c.in-None.ensures.lookup.4 (omega arith) (resolved nothing_known))
