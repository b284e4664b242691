use Rattle.ks_worker_commit.proofs.Turning.{fenced_by, unfenced_by}
use Rattle.ks_worker_commit.proofs.committing.turn_back.Goals as goal

pub returns-in-Ok-clause-requests : goal.returns-in-Ok-clause-requests
returns-in-Ok-clause-requests g c = unfenced_by g.W.Work.plan _ _ c.args.member.number _ c.decide_abort.result tt c.in-Ok.is c.decide_abort.ensures.requests

pub returns-in-Err-clause-requests : goal.returns-in-Err-clause-requests
returns-in-Err-clause-requests g c = fenced_by g.W.Work.plan _ _ c.args.member.number _ c.decide_abort.result c.in-Err.halt c.in-Err.is c.outcome_of.result c.outcome_of.ensures c.decide_abort.ensures.requests
