use Rattle.ks_topo.specs.Topologies.{draft_of}
use Rattle.ks_cluster.specs.View.{setup_of}
use Rattle.ks_settle.proofs.Putting.{restored_as}
use Rattle.ks_settle.proofs.restoring.restore_own.Goals as goal

pub returns : goal.returns
returns g c = restored_as (draft_of c.args.topology.now) (setup_of g.W.Work.plan c.args.cluster.now) c.args.cluster.now.journal c.args.cache c.args.one.now.name c.restore.result c.restore.ensures.rests c.restore.ensures.id c.restore.ensures.cache
