use Rattle.std.proofs.Common.{◌≡◌, ◌++◌, length}
use Rattle.ks_job_topology.specs.Topology.{names_of}
use Rattle.ks_job_topology.proofs.topology.copy_names.Given as goal

abbrev pub invariant-loop-rest : goal.invariant-loop-rest
invariant-loop-rest l = l.names.items ++ names_of l.rest ≡ names_of l.topics

abbrev pub decreases-loop-rest : goal.decreases-loop-rest
decreases-loop-rest l = length l.rest
