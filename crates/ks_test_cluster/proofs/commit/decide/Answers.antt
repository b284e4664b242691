use Rattle.std.proofs.Common.{true, refl}
use Rattle.ks_history.specs.declared.journal.Request.TheVariants.{Decide}
use Rattle.ks_history.specs.History.{CommitsFaithfully}
use Rattle.ks_law_exactly_once.proofs.Written.{commit_history}
use Rattle.ks_test_cluster.proofs.Requests.{carried}
use Rattle.ks_test_cluster.proofs.Requests.{one_more}
use Rattle.ks_test_cluster.proofs.commit.decide.Goals as goal

pub decide-requires-clause-faithful : goal.decide-requires-clause-faithful
decide-requires-clause-faithful c = carried (λ setup s. CommitsFaithfully setup s (Decide 0 1 true)) 7 c.args.rec.now c.args.cluster.now c.requires (commit_history c.args.rec.now).faithful.1.1.1.1.1.1.1.0

pub returns : goal.returns
returns c = one_more 7 c.args.rec.now _ _ _ _ c.requires c.in_ok-_outcome.ensures.ok refl
