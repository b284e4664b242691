use Rattle.std.proofs.Common.{◌≡◌, ◌++◌, drop}
use Rattle.std.specs.List.{filter}
use Rattle.ks_topo_layout.specs.Wired.{flows}
use Rattle.ks_topo_layout.proofs.topics.drained_topics.Given as goal

-- what was found and what the rest gives
abbrev pub invariant-loop-topic : goal.invariant-loop-topic
invariant-loop-topic l = l.drained.items ++ filter (flows l.shape) (drop l.topic-index l.topics) ≡ filter (flows l.shape) l.topics
