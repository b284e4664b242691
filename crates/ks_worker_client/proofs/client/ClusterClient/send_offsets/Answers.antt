use Rattle.ks_worker_client.proofs.Called.{offsets_answered}
use Rattle.ks_worker_client.proofs.client.ClusterClient.send_offsets.Goals as goal

pub returns-clause-answered : goal.returns-clause-answered
returns-clause-answered g c = offsets_answered g.W.Work.plan _ _ _ _ _ _ _ _ _ _ _ c.args.work.now.offsets c.args.work.now.order c.as_slice-offsets.ensures c.as_slice-order.ensures _ c.send_offsets.result _ c.or_halt.ensures c.send_offsets.ensures
