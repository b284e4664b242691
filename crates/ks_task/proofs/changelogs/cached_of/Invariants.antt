use Rattle.std.proofs.Common.{◌≡◌, length}
use Rattle.ks_task.specs.Views.{cached_in}
use Rattle.ks_task.proofs.changelogs.cached_of.Given as goal

abbrev pub invariant-loop-rest : goal.invariant-loop-rest
invariant-loop-rest l = cached_in l.rest l.number ≡ cached_in l.changelogs l.number

abbrev pub decreases-loop-rest : goal.decreases-loop-rest
decreases-loop-rest l = length l.rest
