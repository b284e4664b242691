use Rattle.std.proofs.Common.{◌≡◌, ◌++◌, true, length}
use Rattle.ks_record.specs.declared.record.TaskId.{TaskId}
use Rattle.ks_history.specs.State.{has_task}
use Rattle.ks_cluster.specs.View.{setup_of, state_of}
use Rattle.ks_settle_report.specs.Report.{task_lags}
use Rattle.ks_settle_report.proofs.lags.push_lags.Given as goal

-- those so far, with those of the tasks that are left, which are tasks of the cluster
abbrev pub invariant-loop-rest : goal.invariant-loop-rest
invariant-loop-rest g l =
    let setup = setup_of g.W.Work.plan l.cluster in
    let s = state_of g.W.Work.plan l.cluster in
    (l.lags.items ++ task_lags setup s l.topic l.rest ≡ l.fn.lags.items ++ task_lags setup s l.topic setup.tasks)
    × ((t : TaskId) → has_task t l.rest ≡ true → has_task t setup.tasks ≡ true)

abbrev pub decreases-loop-rest : goal.decreases-loop-rest
decreases-loop-rest g l = length l.rest
