use Rattle.std.proofs.Common.{map}
use Rattle.ks_task_nodes.specs.Nodes.{node_view}
use Rattle.ks_task_nodes.specs.Records.{arrival_of}
use Rattle.ks_task_values.specs.Values.{items_in}
use Rattle.ks_cache.specs.Changelogs.{stores_in}
use Rattle.ks_task_step.proofs.Capping.{none_late, capped_end}
use Rattle.ks_task_step.proofs.processing.push_live_changelog_records.Goals as goal

pub returns-clause-late : goal.returns-clause-late
returns-clause-late c =
    let step = c.args.step.now in
    capped_end c.loop-rest.late _ _ c.loop-rest.invariant.1 (none_late (stores_in step.changelogs.now) (arrival_of step.stamped.now) (items_in c.args.values.now) (map node_view step.nodes.now) c.loop-rest.rest.now c.in_default.len_below) c.loop-rest.invariant.0.1
