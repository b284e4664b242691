use Rattle.ks_test_cluster.specs.Ours.{IsOurs}
use Rattle.ks_test_cluster.proofs.tables.run_all.Given as goal

abbrev pub invariant-loop-call : goal.invariant-loop-call
invariant-loop-call g l = IsOurs l.cluster
