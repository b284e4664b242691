use Rattle.std.proofs.Common.{Option, map, ap}
use Rattle.ks_query.specs.Streams.{Key}
use Rattle.ks_task_nodes.specs.Nodes.{node_view}
use Rattle.ks_task_values.specs.Changes.{in_list}
use Rattle.ks_cache.specs.Changelogs.{stores_in}
use Rattle.ks_task_values.specs.Values.{old_list}
use Rattle.ks_task_values.proofs.step.stored_here.Goals as goal

pub returns-in-None : goal.returns-in-None
returns-in-None c =
    let step = c.args.step.now in
    ap (λ (k : Option Key). in_list (old_list (stores_in step.changelogs.now) k (map node_view step.nodes.now)) c.args.number) c.in-None.ensures
