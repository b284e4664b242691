use Rattle.ks_topo.specs.Topologies.{draft_of}
use Rattle.ks_def_tasks.specs.Rules.{rules_of}
use Rattle.ks_task.specs.Tasks.{task_view}
use Rattle.ks_settle.proofs.Filling.{own_inputs}
use Rattle.ks_settle.proofs.draining.read_own.Goals as goal

pub read_task-requires-clause-inputs : goal.read_task-requires-clause-inputs
read_task-requires-clause-inputs g c =
    own_inputs (g.W.Work.plan c.args.cluster.now.work) (rules_of g.H.Hash128.hash_of) (draft_of c.args.topology.now) c.id.result (task_view c.args.attempt.now.task) c.inputs-inputs.result.now
    c.requires.may.of.well_formed c.requires.may.of.work c.id.ensures c.inputs-inputs.ensures
