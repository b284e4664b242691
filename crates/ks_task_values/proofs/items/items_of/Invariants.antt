use Rattle.std.proofs.Common.{◌≡◌, [], map, length}
use Rattle.ks_def_lookups.specs.Lists.{all_items}
use Rattle.ks_task_nodes.specs.Nodes.{node_view, kinds_in}
use Rattle.ks_task_nodes.specs.Records.{arrival_of}
use Rattle.ks_task_values.specs.Items.{views}
use Rattle.ks_task_values.proofs.items.items_of.Given as goal

-- what is left to do, from here, is what was to be done
abbrev pub invariant-loop-rest : goal.invariant-loop-rest
invariant-loop-rest l = all_items (arrival_of l.stamped) (views l.items.items) (kinds_in (map node_view l.rest)) ≡ all_items (arrival_of l.stamped) [] (kinds_in (map node_view l.nodes))

abbrev pub decreases-loop-rest : goal.decreases-loop-rest
decreases-loop-rest l = length l.rest
