use Rattle.std.proofs.Common.{◌≡◌, ◌++◌, drop}
use Rattle.ks_topo_layout.specs.Wired.{read_in}
use Rattle.ks_topo_layout.proofs.topics.topics_read.Given as goal

-- what was found and what the rest gives
abbrev pub invariant-loop-topic : goal.invariant-loop-topic
invariant-loop-topic l = l.read.items ++ read_in l.shape l.sub (drop l.topic-index l.topics) ≡ read_in l.shape l.sub l.topics
