use Rattle.std.proofs.Common.{◌≡◌, map, length}
use Rattle.ks_def_lookups.specs.Lists.{item_in}
use Rattle.ks_def_tasks.specs.Rules.{rules_of}
use Rattle.ks_task_nodes.specs.Nodes.{node_view}
use Rattle.ks_task_nodes.specs.Reach.{values_at_numbers}
use Rattle.ks_task_nodes.specs.Records.{arrival_of}
use Rattle.ks_task_values.specs.Items.{views}
use Rattle.ks_task_values.specs.Values.{olds_at, live_olds, live_news}
use Rattle.ks_task_values.proofs.values.live_values_at.Given as goal

-- the values before are those of the step; after the nodes that are left act the values are those of all that it goes through
abbrev pub invariant-loop-rest : goal.invariant-loop-rest
invariant-loop-rest g l =
    (live_olds (olds_at l.step) l.live.items ≡ olds_at l.step)
    × (values_at_numbers (rules_of g.H.Hash128.hash_of) (arrival_of l.step.stamped.now) (item_in (views l.items)) (olds_at l.step) (map node_view l.step.nodes.now) (live_news (olds_at l.step) l.live.items) l.rest
    ≡ values_at_numbers (rules_of g.H.Hash128.hash_of) (arrival_of l.step.stamped.now) (item_in (views l.items)) (olds_at l.step) (map node_view l.step.nodes.now) (olds_at l.step) l.step.live.now)

abbrev pub decreases-loop-rest : goal.decreases-loop-rest
decreases-loop-rest g l = length l.rest
