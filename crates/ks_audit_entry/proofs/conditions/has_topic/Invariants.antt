use Rattle.std.proofs.Common.{◌≡◌, length}
use Rattle.ks_history.specs.Machine.{has_topic}
use Rattle.ks_audit_entry.proofs.conditions.has_topic.Given as goal

abbrev pub invariant-loop-rest : goal.invariant-loop-rest
invariant-loop-rest l = has_topic l.topic l.rest ≡ has_topic l.topic l.topics

abbrev pub decreases-loop-rest : goal.decreases-loop-rest
decreases-loop-rest l = length l.rest
