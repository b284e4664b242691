use Rattle.std.proofs.Common.{◌≡◌, drop}
use Rattle.ks_plan.specs.Faults.{has_name, names_of_topics}
use Rattle.ks_topo_layout.proofs.names.is_topic.Given as goal

-- the rest decides
abbrev pub invariant-loop-topic : goal.invariant-loop-topic
invariant-loop-topic l = has_name (names_of_topics (drop l.topic-index l.topics)) l.name ≡ has_name (names_of_topics l.topics) l.name
