use Rattle.std.proofs.Common.{◌≡◌, ◌++◌, drop}
use Rattle.ks_assign_group.specs.Groups.{ends_at}
use Rattle.ks_assign_group.proofs.lags.ends_at.Given as goal

abbrev pub invariant-loop-topic : goal.invariant-loop-topic
invariant-loop-topic l = l.found.items ++ ends_at l.task (drop l.topic-index l.changelogs) l.ends ≡ ends_at l.task l.changelogs l.ends
