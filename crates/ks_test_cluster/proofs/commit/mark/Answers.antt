use Rattle.std.proofs.Common.{refl}
use Rattle.ks_test_cluster.proofs.Requests.{one_more}
use Rattle.ks_test_cluster.proofs.commit.mark.Goals as goal

pub returns : goal.returns
returns c = one_more 8 c.args.rec.now _ _ _ _ c.requires c.in_ok-mark_next.ensures.ok refl
