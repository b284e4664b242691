use Rattle.std.proofs.Common.{◌≡◌, ◌+◌, length}
use Rattle.ks_standby.specs.Replicas.{changelog_place}
use Rattle.ks_standby.proofs.changelogs.place_of.Given as goal

abbrev pub invariant-loop-rest : goal.invariant-loop-rest
invariant-loop-rest l = (l.at + changelog_place l.rest l.topic ≡ changelog_place l.changelogs l.topic) × (l.at + length l.rest ≡ length l.changelogs)

abbrev pub decreases-loop-rest : goal.decreases-loop-rest
decreases-loop-rest l = length l.rest
