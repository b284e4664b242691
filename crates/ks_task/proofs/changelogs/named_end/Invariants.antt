use Rattle.std.proofs.Common.{◌≡◌, length}
use Rattle.ks_history.specs.State.{offset_in}
use Rattle.ks_task.proofs.changelogs.named_end.Given as goal

abbrev pub invariant-loop-rest : goal.invariant-loop-rest
invariant-loop-rest l = offset_in l.old l.number l.rest ≡ offset_in l.old l.number l.ends

abbrev pub decreases-loop-rest : goal.decreases-loop-rest
decreases-loop-rest l = length l.rest
