use Rattle.std.proofs.Common.{refl}
use Rattle.ks_test_cluster.proofs.Requests.{one_more}
use Rattle.ks_test_cluster.proofs.commit.add.Goals as goal

pub returns : goal.returns
returns c = one_more 4 c.args.rec.now _ _ _ _ c.requires c.in_ok-_outcome.ensures.ok refl
