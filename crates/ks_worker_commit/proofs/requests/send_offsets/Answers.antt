use Rattle.ks_worker_commit.proofs.ByKind.{offsets_carries, offsets_requests, offsets_sent, carried_as, first_as, second_as}
use Rattle.ks_worker_commit.proofs.Requesting.{cuts_as}
use Rattle.ks_worker_commit.specs.Underway.{memory}
use Rattle.ks_worker_commit.proofs.requests.send_offsets.Goals as goal

pub returns-clause-requests : goal.returns-clause-requests
returns-clause-requests g c = offsets_requests g.W.Work.plan _ _ c.args.member.number c.args.member.epoch c.args.member.generation (memory c.args.session.now.last c.args.session.now.numbers.items c.args.session.now.ends.items) _ c.args.work.now.task c.args.work.now.offsets c.args.work.now.order c.args.work.now.late c.send_offsets.result c.send_offsets.ensures.answered

pub returns-clause-carries : goal.returns-clause-carries
returns-clause-carries g c = carried_as g.W.Work.plan _ _ _ _ _ _ _ _ _ _ _ c.done.ensures (offsets_carries g.W.Work.plan _ _ c.args.member.number c.args.member.epoch c.args.member.generation (memory c.args.session.now.last c.args.session.now.numbers.items c.args.session.now.ends.items) _ c.args.work.now.task c.args.work.now.offsets c.args.work.now.order c.args.work.now.late c.send_offsets.result c.send_offsets.ensures.answered)

pub returns-clause-sent : goal.returns-clause-sent
returns-clause-sent g c = first_as _ _ _ _ c.done.ensures (offsets_sent g.W.Work.plan _ _ c.args.member.number c.args.member.epoch c.args.member.generation (memory c.args.session.now.last c.args.session.now.numbers.items c.args.session.now.ends.items) _ c.args.work.now.task c.args.work.now.offsets c.args.work.now.order c.args.work.now.late c.send_offsets.result c.send_offsets.ensures.answered)

pub returns-clause-generation : goal.returns-clause-generation
returns-clause-generation g c = second_as _ _ _ _ c.done.ensures (offsets_sent g.W.Work.plan _ _ c.args.member.number c.args.member.epoch c.args.member.generation (memory c.args.session.now.last c.args.session.now.numbers.items c.args.session.now.ends.items) _ c.args.work.now.task c.args.work.now.offsets c.args.work.now.order c.args.work.now.late c.send_offsets.result c.send_offsets.ensures.answered)

pub returns-clause-gate : goal.returns-clause-gate
returns-clause-gate g c = cuts_as _ _ c.send_offsets.result _ c.done.ensures c.send_offsets.ensures.gate
