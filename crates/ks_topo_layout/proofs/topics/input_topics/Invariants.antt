use Rattle.std.proofs.Common.{◌≡◌, map}
use Rattle.ks_plan.specs.declared.node.Topic.TheVariants.{Input}
use Rattle.ks_plan.specs.Layout.{up_to}
use Rattle.ks_topo_layout.proofs.topics.input_topics.Given as goal

-- as far as the loop has come
abbrev pub invariant-loop-topic : goal.invariant-loop-topic
invariant-loop-topic l = l.topics.items ≡ map Input (up_to l.topic)
