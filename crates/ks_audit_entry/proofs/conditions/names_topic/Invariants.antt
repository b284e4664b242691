use Rattle.std.proofs.Common.{◌≡◌, length}
use Rattle.ks_history.specs.History.{names_topic}
use Rattle.ks_audit_entry.proofs.conditions.names_topic.Given as goal

abbrev pub invariant-loop-rest : goal.invariant-loop-rest
invariant-loop-rest l = names_topic l.topic l.rest ≡ names_topic l.topic l.pairs

abbrev pub decreases-loop-rest : goal.decreases-loop-rest
decreases-loop-rest l = length l.rest
