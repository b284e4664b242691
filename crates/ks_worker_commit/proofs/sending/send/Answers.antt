use Rattle.ks_commit.specs.Committed.{works_of}
use Rattle.ks_worker_commit.specs.Outputs.{add_all, put_all, send_all, sends_of}
use Rattle.ks_worker_commit.specs.Underway.{always, have_added, have_works}
use Rattle.ks_worker_commit.proofs.Requesting.{requests_both}
use Rattle.ks_worker_commit.proofs.Carrying.{each_later}
use Rattle.ks_worker_commit.proofs.Sends.{puts_of, puts_both, then_carries, errs, added_ready}
use Rattle.ks_worker_commit.proofs.sending.send.Goals as goal

pub returns-in-Err-clause-carries : goal.returns-in-Err-clause-carries
returns-in-Err-clause-carries g c =
    errs (Unit {0}) (Unit {0}) g.W.Work.plan _ _ c.args.member.number c.args.member.epoch c.args.member.generation _ _ always (have_works (works_of c.args.works.now)) (add_all c.args.parts.now) (sends_of c.args.parts.now (works_of c.args.works.now)) (λ fs d before. tt)
    c.add_parts.result c.in-Err.halt c.in-Err.is c.add_parts.ensures.carries

pub append_parts-requires-clause-works : goal.append_parts-requires-clause-works
append_parts-requires-clause-works g c = each_later g.W.Work.plan _ _ c.args.member.number _ c.add_parts.ensures.requests c.requires.works

pub returns-in-Err-append_parts-clause-requests : goal.returns-in-Err-append_parts-clause-requests
returns-in-Err-append_parts-clause-requests g c = requests_both g.W.Work.plan _ _ _ _ c.add_parts.ensures.requests c.append_parts.ensures.requests

pub returns-in-Err-append_parts-clause-carries : goal.returns-in-Err-append_parts-clause-carries
returns-in-Err-append_parts-clause-carries g c =
    errs (Unit {0}) (Unit {0}) g.W.Work.plan _ _ c.args.member.number c.args.member.epoch c.args.member.generation _ _ (have_works (works_of c.args.works.now)) (have_works (works_of c.args.works.now)) (λ d. put_all c.args.parts.now (works_of c.args.works.now) (add_all c.args.parts.now d)) (sends_of c.args.parts.now (works_of c.args.works.now)) (λ fs d before. before)
    c.append_parts.result c.in-Err-append_parts.halt c.in-Err-append_parts.is
    (then_carries g.W.Work.plan _ _ _ c.args.member.number c.args.member.epoch c.args.member.generation _ _ _ (add_all c.args.parts.now) (put_all c.args.parts.now (works_of c.args.works.now))
    (puts_of g.W.Work.plan _ _ c.args.member.number c.args.member.epoch c.args.member.generation _ _ always (add_all c.args.parts.now) c.add_parts.result tt c.in-Ok.is c.add_parts.ensures.carries)
    (have_added c.args.parts.now) (have_works (works_of c.args.works.now)) (λ fs d before. added_ready c.args.parts.now fs d) c.append_parts.result c.append_parts.ensures.carries)

pub send_works-requires-clause-works : goal.send_works-requires-clause-works
send_works-requires-clause-works g c = each_later g.W.Work.plan _ _ c.args.member.number _ (requests_both g.W.Work.plan _ _ _ _ c.add_parts.ensures.requests c.append_parts.ensures.requests) c.requires.works

pub returns-clause-requests : goal.returns-clause-requests
returns-clause-requests g c = requests_both g.W.Work.plan _ _ _ _ (requests_both g.W.Work.plan _ _ _ _ c.add_parts.ensures.requests c.append_parts.ensures.requests) c.send_works.ensures.requests

pub returns-clause-carries : goal.returns-clause-carries
returns-clause-carries g c =
    then_carries g.W.Work.plan _ _ _ c.args.member.number c.args.member.epoch c.args.member.generation _ _ _ (λ d. put_all c.args.parts.now (works_of c.args.works.now) (add_all c.args.parts.now d)) (send_all (works_of c.args.works.now))
    (puts_both g.W.Work.plan _ _ _ c.args.member.number c.args.member.epoch c.args.member.generation _ _ _ (add_all c.args.parts.now) (put_all c.args.parts.now (works_of c.args.works.now))
    (puts_of g.W.Work.plan _ _ c.args.member.number c.args.member.epoch c.args.member.generation _ _ always (add_all c.args.parts.now) c.add_parts.result tt c.in-Ok.is c.add_parts.ensures.carries)
    (puts_of g.W.Work.plan _ _ c.args.member.number c.args.member.epoch c.args.member.generation _ _ (have_added c.args.parts.now) (put_all c.args.parts.now (works_of c.args.works.now)) c.append_parts.result tt c.in-Ok-append_parts.is c.append_parts.ensures.carries))
    (have_works (works_of c.args.works.now)) (have_works (works_of c.args.works.now)) (λ fs d before. before) c.send_works.result c.send_works.ensures.carries
