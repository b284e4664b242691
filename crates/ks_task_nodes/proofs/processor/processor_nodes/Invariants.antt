use Rattle.std.proofs.Common.{◌≡◌, ◌++◌, map, drop}
use Rattle.ks_task_nodes.specs.Nodes.{node_view, with_kinds}
use Rattle.ks_task_nodes.proofs.processor.processor_nodes.Given as goal

abbrev pub invariant-loop-one : goal.invariant-loop-one
invariant-loop-one l = map node_view l.processors.items ++ with_kinds (drop l.one-index l.topics) l.infos l.nodes ≡ with_kinds l.topics l.infos l.nodes
