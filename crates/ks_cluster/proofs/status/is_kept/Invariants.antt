use Rattle.std.proofs.Common.{◌≡◌, drop, []}
use Rattle.ks_history.specs.Reads.{is_changelog}
use Rattle.ks_cluster.specs.View.{setup_from}
use Rattle.ks_cluster.proofs.status.is_kept.Given as goal

abbrev pub invariant-loop-task : goal.invariant-loop-task
invariant-loop-task g l =
    is_changelog (setup_from (g.W.Work.plan l.work) [] []) (drop l.task-index l.tasks) l.topic ≡ is_changelog (setup_from (g.W.Work.plan l.work) [] []) l.tasks l.topic
