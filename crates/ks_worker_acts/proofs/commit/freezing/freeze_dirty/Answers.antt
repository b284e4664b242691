use Rattle.std.proofs.Common.{List, sym, subst, take, arith}
use Rattle.ks_plan.specs.Plan.{plan_of}
use Rattle.ks_law_topology.specs.Work.{work_of}
use Rattle.ks_commit.specs.Committed.{works_of}
use Rattle.ks_def_tasks.specs.Rules.{rules_of}
use Rattle.ks_task.specs.declared.task.Task.{Task}
use Rattle.ks_task.specs.Tasks.{IsTaskOf}
use Rattle.ks_worker_acts.specs.Works.{AreWorksOf}
use Rattle.ks_worker_acts.proofs.Lists.{take_more, take_whole}
use Rattle.ks_worker_acts.proofs.commit.freezing.freeze_dirty.Goals as goal

pub loop-i-preserved : goal.loop-i-preserved
loop-i-preserved c = λ d hash all.
    let t = c.index-tasks-i.result in
    subst (λ (ts : List Task). AreWorksOf (work_of (rules_of hash) (plan_of d)) ts (works_of c.freeze_task.new.works.items)) (take_more c.args.tasks.now c.loop-i.i t c.loop-i-test.true c.index-tasks-i.is)
    (c.in_ok-freeze_task.ensures d hash (take c.loop-i.i c.args.tasks.now) (subst (IsTaskOf d) (sym c.index-tasks-i.is) (all c.loop-i.i t c.loop-i-test.true)) (c.loop-i.invariant d hash all))

pub returns : goal.returns
returns c = λ d hash all.
    subst (λ (ts : List Task). AreWorksOf (work_of (rules_of hash) (plan_of d)) ts (works_of c.loop-i.works.items)) (take_whole c.args.tasks.now c.loop-i.i (omega (arith, c.loop-i-test.false))) (c.loop-i.invariant d hash all)
