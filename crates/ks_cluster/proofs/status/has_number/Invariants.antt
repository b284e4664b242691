use Rattle.std.proofs.Common.{◌≡◌, drop}
use Rattle.ks_history.specs.Machine.{has_topic}
use Rattle.ks_cluster.proofs.status.has_number.Given as goal

abbrev pub invariant-loop-other : goal.invariant-loop-other
invariant-loop-other l = has_topic l.number (drop l.other-index l.numbers) ≡ has_topic l.number l.numbers
