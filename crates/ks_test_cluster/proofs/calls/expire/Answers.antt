use Rattle.ks_test_cluster.proofs.Expired.{expired, on_ok}
use Rattle.ks_test_cluster.proofs.calls.expire.Goals as goal

pub returns-clause-expired : goal.returns-clause-expired
returns-clause-expired c = on_ok c.expire.result _ _ (λ b a. expired _ _ c.args.w _ a) c.expire.ensures.ok
