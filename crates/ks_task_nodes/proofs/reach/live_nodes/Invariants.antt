use Rattle.std.proofs.Common.{◌≡◌, [], length, map}
use Rattle.ks_task_nodes.specs.Nodes.{node_view}
use Rattle.ks_task_nodes.specs.Reach.{live_in}
use Rattle.ks_task_nodes.proofs.reach.live_nodes.Given as goal

-- the numbers so far, and what the other nodes add, are those of all
abbrev pub invariant-loop-rest : goal.invariant-loop-rest
invariant-loop-rest l = live_in l.topic l.live.items (map node_view l.rest) ≡ live_in l.topic [] (map node_view l.nodes)

abbrev pub decreases-loop-rest : goal.decreases-loop-rest
decreases-loop-rest l = length l.rest
