use Rattle.ks_history.specs.declared.journal.Request.TheVariants.{MarkNext}
use Rattle.ks_history.specs.declared.journal.Reply.TheVariants.{Mark as Marked}
use Rattle.ks_worker_client.proofs.Called.{answered_later, answered_wrote}
use Rattle.ks_worker_client.proofs.client.ClusterClient.mark_next.Goals as goal

pub returns-clause-later : goal.returns-clause-later
returns-clause-later g c = answered_later g.W.Work.plan _ _ _ c.write_marker.result c.requires.may.history c.write_marker.ensures.answered

pub returns-clause-wrote : goal.returns-clause-wrote
returns-clause-wrote g c = answered_wrote g.W.Work.plan _ _ (MarkNext c.args.w) (λ m. Marked m) c.write_marker.result c.write_marker.ensures.answered
