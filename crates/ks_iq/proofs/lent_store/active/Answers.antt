use Rattle.ks_topo.specs.Topologies.{draft_of}
use Rattle.ks_task.specs.Tasks.{task_view}
use Rattle.ks_task.specs.Views.{are_committed}
use Rattle.ks_task.proofs.Viewing.{is_clean, clean_is}
use Rattle.ks_iq.proofs.Clean.{all_active, active_exact, active_enough}
use Rattle.ks_iq.proofs.lent_store.active.Goals as goal

pub returns-clause-exact : goal.returns-clause-exact
returns-clause-exact c =
    let inputs = c.args.task.now.inputs.items in
    active_exact (draft_of c.args.topology.now) (task_view c.args.task.now) c.args.ask.now c.args.at_least c.read_active.result (are_committed inputs inputs) (clean_is inputs, is_clean inputs inputs) c.read_active.ensures

pub returns-clause-reads : goal.returns-clause-reads
returns-clause-reads c setup journal top follows =
    let inputs = c.args.task.now.inputs.items in
    all_active (draft_of c.args.topology.now) (task_view c.args.task.now) c.args.ask.now c.args.at_least c.read_active.result (are_committed inputs inputs) setup journal (clean_is inputs) top follows c.read_active.ensures

pub returns-clause-bound : goal.returns-clause-bound
returns-clause-bound c =
    let inputs = c.args.task.now.inputs.items in
    active_enough (draft_of c.args.topology.now) (task_view c.args.task.now) c.args.ask.now c.args.at_least c.read_active.result (are_committed inputs inputs) c.read_active.ensures
