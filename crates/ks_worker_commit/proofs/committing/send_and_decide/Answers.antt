use Rattle.std.proofs.Common.{refl, sym, ap, ◌∙◌}
use Rattle.ks_commit.specs.Committed.{works_of}
use Rattle.ks_worker_commit.specs.Underway.{memory}
use Rattle.ks_worker_commit.proofs.Requesting.{requests_both}
use Rattle.ks_worker_commit.proofs.Carrying.{ok_then}
use Rattle.ks_worker_commit.proofs.Deciding.{may_decide_now}
use Rattle.ks_worker_commit.proofs.Begun.{all_parts, within, sending_ends, all_sent, decision_ends, works_some}
use Rattle.ks_worker_commit.proofs.committing.send_and_decide.Goals as goal

pub send-requires-clause-parts : goal.send-requires-clause-parts
send-requires-clause-parts g c = all_parts _ _ (works_of c.args.works.now) _ (c.as_slice.ensures.value ∙ c.in-Ok.ensures) c.requires.works

pub returns-in-Err-send-clause-ends : goal.returns-in-Err-send-clause-ends
returns-in-Err-send-clause-ends g c =
    sending_ends g.W.Work.plan _ c.args.member.number c.args.member.epoch c.args.member.generation (memory c.args.session.now.last c.args.session.now.numbers.items c.args.session.now.ends.items) (works_of c.args.works.now) c.requires.known c.requires.numbered c.requires.none (Unit {0}) _ _ c.as_slice.result.now c.send.result c.in-Err-send.halt c.in-Err-send.is c.send.ensures.carries

pub decide_commit-requires-clause-within : goal.decide_commit-requires-clause-within
decide_commit-requires-clause-within g c = within c.args.member.number _ _ (ok_then c.send.result tt c.in-Ok-send.is c.send.ensures.sent c.requires.some)

pub decide_commit-requires-clause-faithful : goal.decide_commit-requires-clause-faithful
decide_commit-requires-clause-faithful g c =
    let u = (all_sent g.W.Work.plan _ c.args.member.number c.args.member.epoch c.args.member.generation (memory c.args.session.now.last c.args.session.now.numbers.items c.args.session.now.ends.items) (works_of c.args.works.now) c.requires.known c.requires.numbered c.requires.none _ _ c.as_slice.result.now c.send.result tt c.in-Ok-send.is (c.as_slice.ensures.value ∙ c.in-Ok.ensures) c.send.ensures.carries) in
    may_decide_now g.W.Work.plan _ _ c.args.member.number c.args.member.epoch c.args.member.generation _ _ (works_of c.args.works.now) u c.requires.apart _ c.requires.works (u.back (ok_then c.send.result tt c.in-Ok-send.is c.send.ensures.sent c.requires.some)) (ok_then c.send.result tt c.in-Ok-send.is c.send.ensures.sent c.requires.some) (ok_then c.send.result tt c.in-Ok-send.is c.send.ensures.generation c.requires.some)

pub returns-clause-requests : goal.returns-clause-requests
returns-clause-requests g c = requests_both g.W.Work.plan _ _ _ _ c.send.ensures.requests c.decide_commit.ensures.requests

pub returns-clause-ends : goal.returns-clause-ends
returns-clause-ends g c =
    decision_ends g.W.Work.plan _ _ _ c.args.member.number c.args.member.epoch c.args.member.generation _ _ _ (works_of c.args.works.now) (works_some c.args.works.now c.requires.some) c.requires.apart (all_sent g.W.Work.plan _ c.args.member.number c.args.member.epoch c.args.member.generation (memory c.args.session.now.last c.args.session.now.numbers.items c.args.session.now.ends.items) (works_of c.args.works.now) c.requires.known c.requires.numbered c.requires.none _ _ c.as_slice.result.now c.send.result tt c.in-Ok-send.is (c.as_slice.ensures.value ∙ c.in-Ok.ensures) c.send.ensures.carries) (ok_then c.send.result tt c.in-Ok-send.is c.send.ensures.sent c.requires.some) (ok_then c.send.result tt c.in-Ok-send.is c.send.ensures.generation c.requires.some) c.decide_commit.result c.decide_commit.ensures.decides
