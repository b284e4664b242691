use Rattle.ks_worker_commit.proofs.ByKind.{abort_requests_as, abort_aborts, aborts_as}
use Rattle.ks_worker_commit.proofs.Requesting.{cuts_as}
use Rattle.ks_worker_commit.specs.Underway.{memory}
use Rattle.ks_worker_commit.proofs.requests.decide_abort.Goals as goal

pub returns-clause-requests : goal.returns-clause-requests
returns-clause-requests g c = abort_requests_as g.W.Work.plan _ _ c.args.member.number c.args.member.epoch c.args.member.generation (memory c.args.session.now.last c.args.session.now.numbers.items c.args.session.now.ends.items) _ c.done.result c.decide.result c.done.ensures c.decide.ensures.answered

pub returns-clause-aborts : goal.returns-clause-aborts
returns-clause-aborts g c = aborts_as g.W.Work.plan _ _ _ _ _ _ _ _ c.done.ensures (abort_aborts g.W.Work.plan _ _ c.args.member.number c.args.member.epoch c.args.member.generation (memory c.args.session.now.last c.args.session.now.numbers.items c.args.session.now.ends.items) _ c.decide.result c.decide.ensures.answered)

pub returns-clause-gate : goal.returns-clause-gate
returns-clause-gate g c = cuts_as _ _ c.decide.result _ c.done.ensures c.decide.ensures.gate
