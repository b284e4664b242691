use Rattle.std.proofs.Common.{◌≡◌, ◌++◌, drop}
use Rattle.ks_group.specs.Committed.{none_committed}
use Rattle.ks_group.proofs.committed.TaskOffsets.new.Given as goal

abbrev pub invariant-loop-topic : goal.invariant-loop-topic
invariant-loop-topic l = l.offsets.items ++ none_committed (drop l.topic-index l.inputs) ≡ none_committed l.inputs
