use Rattle.ks_topo.proofs.Shaping.{few_topics}
use Rattle.ks_topo.proofs.topology.plan_topics.Goals as goal

pub returns-clause-few : goal.returns-clause-few
returns-clause-few c = few_topics c.args.shape.now c.in_ok-topics.topics.all.items c.in_ok-topics.ensures.all c.requires.nodes c.requires.topics
