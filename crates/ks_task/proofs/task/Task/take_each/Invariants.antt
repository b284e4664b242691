use Rattle.std.proofs.Common.{◌≡◌, take}
use Rattle.ks_topo.specs.Topologies.{draft_of, plan_in}
use Rattle.ks_law_topology.specs.Work.{work_of}
use Rattle.ks_law_restore.specs.Views.{take_all}
use Rattle.ks_def_tasks.specs.Rules.{rules_of}
use Rattle.ks_task.specs.Tasks.{task_view, IsTaskOf}
use Rattle.ks_task.proofs.task.Task.take_each.Given as goal

-- the records so far were taken
abbrev pub invariant-loop-i : goal.invariant-loop-i
invariant-loop-i g l = record {
  task : IsTaskOf (draft_of l.topology) l.self;
  id : l.self.id ≡ l.fn.self.id;
  cache : l.self.cache ≡ l.fn.self.cache;
  view : task_view l.self ≡ take_all (work_of (rules_of g.H.Hash128.hash_of) (plan_in l.topology)) (task_view l.fn.self) l.topic (take l.i l.recs);
}
