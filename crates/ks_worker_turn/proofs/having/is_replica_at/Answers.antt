use Rattle.std.proofs.Common.{refl, sym, ◌∙◌}
use Rattle.ks_worker_turn.proofs.PlacesHeld.{replica_found}
use Rattle.ks_worker_turn.proofs.having.is_replica_at.Goals as goal

pub returns : goal.returns
returns c = λ e. replica_found c.args.replicas.now c.args.index c.index-replicas-index.result c.args.task c.id.result _ c.if-index-replicas.false refl c.index-replicas-index.is c.id.ensures (sym c.is.ensures ∙ e)
