use Rattle.std.proofs.Common.{◌≡◌, true, sym, subst}
use Rattle.std.specs.Prelude.{OnOk}
use Rattle.ks_plan.specs.Infos.{input_numbers}
use Rattle.ks_topo.specs.Topologies.{draft_of, plan_in}
use Rattle.ks_history.specs.Follows.{TaskView}
use Rattle.ks_history.specs.Machine.{has_topic}
use Rattle.ks_law_topology.specs.Work.{work_of}
use Rattle.ks_law_restore.specs.Views.{take_all}
use Rattle.ks_def_tasks.specs.Rules.{rules_of}
use Rattle.ks_task.specs.Tasks.{task_view}
use Rattle.ks_task.proofs.task.Task.take_all.Goals as goal

pub take_each-requires-clause-task : goal.take_each-requires-clause-task
take_each-requires-clause-task g c = c.write_waiting.ensures.task (draft_of c.args.topology.now) c.requires.task

pub take_each-requires-clause-input : goal.take_each-requires-clause-input
take_each-requires-clause-input g c =
    subst (λ (v : TaskView). has_topic c.args.topic (input_numbers (plan_in c.args.topology.now) v.task.sub) ≡ true) (sym c.write_waiting.ensures.view) c.requires.input

pub returns-clause-view : goal.returns-clause-view
returns-clause-view g c =
    subst (λ (v : TaskView). OnOk c.take_each.result (task_view c.take_each.new.self ≡ take_all (work_of (rules_of g.H.Hash128.hash_of) (plan_in c.args.topology.now)) v c.args.topic c.args.recs.now))
    c.write_waiting.ensures.view c.take_each.ensures.view
