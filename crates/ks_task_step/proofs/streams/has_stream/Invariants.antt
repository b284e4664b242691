use Rattle.std.proofs.Common.{◌≡◌, map, length}
use Rattle.ks_task_nodes.specs.Nodes.{node_view, kinds_in}
use Rattle.ks_task_step.specs.Streams.{has_live_stream}
use Rattle.ks_task_step.proofs.streams.has_stream.Given as goal

-- the nodes that are left decide
abbrev pub invariant-loop-rest : goal.invariant-loop-rest
invariant-loop-rest l = has_live_stream (kinds_in (map node_view l.nodes)) l.rest ≡ has_live_stream (kinds_in (map node_view l.nodes)) l.live

abbrev pub decreases-loop-rest : goal.decreases-loop-rest
decreases-loop-rest l = length l.rest
