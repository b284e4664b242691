use Rattle.std.proofs.Common.{◌≡◌, ◌++◌, [], drop}
use Rattle.ks_cluster.specs.View.{setup_from}
use Rattle.ks_cluster.specs.Statuses.{changelogs_on}
use Rattle.ks_cluster.proofs.status.ends_of_tasks.Given as goal

abbrev pub invariant-loop-i : goal.invariant-loop-i
invariant-loop-i g l = l.made.items ++ changelogs_on (setup_from (g.W.Work.plan l.work) [] l.tasks) l.log l.i (drop l.i l.counts) ≡ changelogs_on (setup_from (g.W.Work.plan l.work) [] l.tasks) l.log 0 l.counts
