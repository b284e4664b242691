use Rattle.ks_worker_client.proofs.Called.{answered}
use Rattle.ks_worker_client.proofs.client.ClusterClient.write_marker.Goals as goal

pub returns-clause-answered : goal.returns-clause-answered
returns-clause-answered g c = answered g.W.Work.plan _ _ _ c.mark_next.result _ c.or_halt.ensures c.mark_next.ensures
