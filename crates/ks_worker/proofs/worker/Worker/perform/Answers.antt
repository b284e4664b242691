use Rattle.ks_topo.specs.Topologies.{draft_of}
use Rattle.ks_worker.proofs.Crashing.{lost_is_worker}
use Rattle.ks_worker.proofs.worker.Worker.perform.Goals as goal

pub returns-in-Err-Cut-clause-worker : goal.returns-in-Err-Cut-clause-worker
returns-in-Err-Cut-clause-worker g c =
    lost_is_worker g.W.Work.plan (draft_of c.args.topology.now) c.args.self.now.state c.act.new.self.state c.crash.new.self c.act.ensures.later c.requires.may.worker.number c.requires.may.worker.instance
    (record { member = c.crash.ensures.member; tasks = c.crash.ensures.tasks; replicas = c.crash.ensures.replicas; last = c.crash.ensures.last; numbers = c.crash.ensures.numbers; client = c.crash.ensures.client })
