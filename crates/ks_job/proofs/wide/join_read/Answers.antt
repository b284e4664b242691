use Rattle.std.proofs.lemmas.Result.{IfOk-weaker}
use Rattle.ks_job.proofs.wide.join_read.Goals as goal

pub returns : goal.returns
returns c = IfOk-weaker c.join_parts.result _ _ (λ p h. (c.in-Ok.first, c.in-Ok.is, h)) c.join_parts.ensures
