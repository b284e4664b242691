use Rattle.ks_cluster.specs.View.{setup_of, state_of}
use Rattle.ks_commit.proofs.Free.{can_read}
use Rattle.ks_commit.proofs.publisher.Publisher.committed.Goals as goal

pub committed-requires-clause-free : goal.committed-requires-clause-free
committed-requires-clause-free g c =
    can_read (setup_of g.W.Work.plan c.args.cluster.now) (state_of g.W.Work.plan c.args.cluster.now) c.args.self.now.worker c.args.self.now.epoch c.args.self.now.generation c.args.task c.requires.ready.alone c.requires.task
