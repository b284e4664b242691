use Rattle.ks_worker_commit.proofs.ByKind.{add_carries, add_requests, carried_as}
use Rattle.ks_worker_commit.proofs.Requesting.{cuts_as}
use Rattle.ks_worker_commit.specs.Underway.{memory}
use Rattle.ks_worker_commit.proofs.requests.add_part.Goals as goal

pub returns-clause-requests : goal.returns-clause-requests
returns-clause-requests g c = add_requests g.W.Work.plan _ _ c.args.member.number c.args.member.epoch c.args.member.generation (memory c.args.session.now.last c.args.session.now.numbers.items c.args.session.now.ends.items) _ c.args.part c.add.result c.add.ensures.answered

pub returns-clause-carries : goal.returns-clause-carries
returns-clause-carries g c = carried_as g.W.Work.plan _ _ _ _ _ _ _ _ _ _ _ c.done.ensures (add_carries g.W.Work.plan _ _ c.args.member.number c.args.member.epoch c.args.member.generation (memory c.args.session.now.last c.args.session.now.numbers.items c.args.session.now.ends.items) _ c.args.part c.add.result c.add.ensures.answered)

pub returns-clause-gate : goal.returns-clause-gate
returns-clause-gate g c = cuts_as _ _ c.add.result _ c.done.ensures c.add.ensures.gate
