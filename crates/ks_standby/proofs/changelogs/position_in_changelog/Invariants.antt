use Rattle.std.proofs.Common.{◌≡◌, length}
use Rattle.ks_standby.specs.Replicas.{positions_in}
use Rattle.ks_standby.proofs.changelogs.position_in_changelog.Given as goal

abbrev pub invariant-loop-rest : goal.invariant-loop-rest
invariant-loop-rest l = positions_in l.rest l.topic ≡ positions_in l.changelogs l.topic

abbrev pub decreases-loop-rest : goal.decreases-loop-rest
decreases-loop-rest l = length l.rest
