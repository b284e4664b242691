use Rattle.std.proofs.Common.{map, sym, ◌∙◌}
use Rattle.ks_def_tasks.specs.Step.{step_key}
use Rattle.ks_task_nodes.specs.Nodes.{node_view}
use Rattle.ks_task_nodes.specs.Records.{message_of}
use Rattle.ks_cache.specs.Changelogs.{stores_in}
use Rattle.ks_task_values.proofs.LiveValues.{stored_place, stored_nowhere}
use Rattle.ks_task_values.proofs.step.stored_of.Goals as goal

pub returns-in-Some : goal.returns-in-Some
returns-in-Some c =
    let step = c.args.step.now in
    c.stored_value.ensures
    ∙ stored_place (stores_in step.changelogs.now) c.args.key.now (step_key (message_of step.stamped.now.payload)) (map node_view step.nodes.now) c.args.number (node_view c.in-Some.node.now) (sym c.in-Some.ensures) c.requires

pub returns-in-None : goal.returns-in-None
returns-in-None c =
    let step = c.args.step.now in
    stored_nowhere (stores_in step.changelogs.now) (step_key (message_of step.stamped.now.payload)) (map node_view step.nodes.now) c.args.number (sym c.in-None.ensures)
