use Rattle.std.proofs.Common.{◌≡◌, ◌+◌, ◌++◌, length}
use Rattle.ks_task_nodes.specs.Nodes.{topics_in}
use Rattle.ks_task_nodes.proofs.topics.node_topics.Given as goal

abbrev pub invariant-loop-rest : goal.invariant-loop-rest
invariant-loop-rest l = (l.found.items ++ topics_in l.topics l.nodes l.sub l.number l.rest ≡ topics_in l.topics l.nodes l.sub 0 l.nodes) × (l.number + length l.rest ≡ length l.nodes)

abbrev pub decreases-loop-rest : goal.decreases-loop-rest
decreases-loop-rest l = length l.rest
