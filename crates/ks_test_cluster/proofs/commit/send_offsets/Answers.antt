use Rattle.std.proofs.Common.{◌∷◌, [], refl}
use Rattle.ks_history.specs.declared.journal.Request.TheVariants.{SendOffsets}
use Rattle.ks_history.specs.History.{Meets}
use Rattle.ks_law_exactly_once.proofs.Written.{commit_history}
use Rattle.ks_test_cluster.proofs.Requests.{carried}
use Rattle.ks_test_cluster.proofs.Requests.{one_more}
use Rattle.ks_test_cluster.proofs.commit.send_offsets.Goals as goal

pub send_offsets-requires : goal.send_offsets-requires
send_offsets-requires c = carried (λ setup s. Meets setup s (SendOffsets 0 1 1 (record { sub = 0; part = 0 }) ((0, 1) ∷ []) ((0, 1) ∷ []) 0)) 6 c.args.rec.now c.args.cluster.now c.requires (commit_history c.args.rec.now).legal.1.1.1.1.1.1.0.meets

pub returns : goal.returns
returns c = one_more 6 c.args.rec.now _ _ _ _ c.requires c.in_ok-_outcome.ensures.ok refl
