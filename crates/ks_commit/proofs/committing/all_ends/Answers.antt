use Rattle.ks_cluster.specs.View.{setup_of}
use Rattle.ks_commit.proofs.Finish.{placed_at}
use Rattle.ks_commit.proofs.committing.all_ends.Goals as goal

pub own_ends-requires : goal.own_ends-requires
own_ends-requires g c = placed_at (setup_of g.W.Work.plan c.args.cluster.now) c.args.all.now c.loop-own.own-index c.own-item.result c.as_slice.result.now c.requires c.loop-own-test.true c.own-item.is c.as_slice.ensures
