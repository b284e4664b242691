use Rattle.std.proofs.Common.{refl}
use Rattle.ks_test_cluster.proofs.Requests.{one_more, stands_new}
use Rattle.ks_test_cluster.proofs.commit.produce.Goals as goal

pub returns : goal.returns
returns c = one_more 0 c.args.rec.now _ _ _ _ (stands_new c.args.rec.now c.args.cluster.now c.requires.ours c.requires.new) c.in_ok-produce.ensures.ok refl
