use Rattle.ks_worker_client.proofs.Called.{own_answered}
use Rattle.ks_worker_client.proofs.client.ClusterClient.add.Goals as goal

pub returns-clause-answered : goal.returns-clause-answered
returns-clause-answered g c = own_answered g.W.Work.plan _ _ _ _ c.add.result _ c.or_halt.ensures c.add.ensures
