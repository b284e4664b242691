use Rattle.serde_json.specs.Data.{depth}
use Rattle.serde_json.specs.View.{view}
use Rattle.ks_job_topology.proofs.pred.+read_test.Given as goal

abbrev pub decreases-read_test : goal.decreases-read_test
decreases-read_test l = depth (view l.value.now)
