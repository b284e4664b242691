use Rattle.std.proofs.Common.{◌≡◌, map, take}
use Rattle.ks_history.specs.Machine.{part_of}
use Rattle.ks_worker_state.proofs.restoring.parts_of.Given as goal

-- the partitions of the topics so far
abbrev pub invariant-loop-topic : goal.invariant-loop-topic
invariant-loop-topic l = l.parts.items ≡ map (λ topic. part_of topic l.task) (take l.topic-index l.topics)
