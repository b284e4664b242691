use Rattle.std.proofs.Common.{◌++◌, ◌∷◌, [], take, ap}
use Rattle.ks_history.specs.declared.journal.Request.TheVariants.{Append}
use Rattle.ks_law_exactly_once.specs.Example.{one_commit}
use Rattle.ks_test_cluster.specs.Stages.{requests}
use Rattle.ks_test_cluster.proofs.Requests.{one_more}
use Rattle.ks_test_cluster.proofs.commit.append.Goals as goal

pub returns : goal.returns
returns c = one_more 5 c.args.rec.now _ _ _ _ c.requires.stands c.in_ok-_outcome.ensures.ok (ap (λ l. requests (take 5 (one_commit c.args.rec.now)) ++ Append 0 1 0 (record { sub = 0; part = 0 }) (record { topic = 1; part = 0 }) l ∷ []) c.requires.one)
