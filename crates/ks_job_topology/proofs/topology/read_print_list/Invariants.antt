use Rattle.std.proofs.Common.{◌≡◌, [], length}
use Rattle.serde_json.specs.View.{items_view}
use Rattle.ks_job_topology.specs.Topology.{print_from}
use Rattle.ks_job_topology.proofs.topology.read_print_list.Given as goal

abbrev pub invariant-loop-rest : goal.invariant-loop-rest
invariant-loop-rest l = print_from l.names.items (items_view l.rest) ≡ print_from [] (items_view l.values)

abbrev pub decreases-loop-rest : goal.decreases-loop-rest
decreases-loop-rest l = length l.rest
