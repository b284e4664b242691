use Rattle.std.proofs.Common.{◌++◌, ◌∷◌, [], take, ap}
use Rattle.ks_history.specs.declared.journal.Request.TheVariants.{Assign}
use Rattle.ks_law_exactly_once.specs.Example.{one_commit}
use Rattle.ks_test_cluster.specs.Stages.{requests}
use Rattle.ks_test_cluster.proofs.Requests.{one_more}
use Rattle.ks_test_cluster.proofs.Good.{good_now}
use Rattle.ks_test_cluster.proofs.commit.assign_by.Goals as goal

pub assign-requires-clause-good : goal.assign-requires-clause-good
assign-requires-clause-good c stands free = good_now _ _ _ _ stands

pub returns : goal.returns
returns c = one_more 3 c.args.rec.now _ _ _ _ c.requires.stands c.in_ok-_outcome.ensures.ok (ap (λ a. requests (take 3 (one_commit c.args.rec.now)) ++ Assign 0 1 a ∷ []) c.requires.active)
