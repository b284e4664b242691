use Rattle.std.proofs.Common.{refl, sym, ap, ◌∙◌, ◌+◌, rules, drop, arith, subst}
use Rattle.ks_law_restore.specs.Views.{pending_work}
use Rattle.ks_law_commit.specs.Building.{with_pending_offsets}
use Rattle.ks_commit.specs.Work.{work_view}
use Rattle.ks_commit.specs.Committed.{works_of}
use Rattle.ks_worker_commit.specs.Outputs.{send_all}
use Rattle.ks_worker_commit.specs.Underway.{has_work, have_works}
use Rattle.ks_worker_commit.proofs.Requesting.{requests_both}
use Rattle.ks_worker_commit.proofs.Carrying.{sent_none, sent_more, sent_err, sent_all, drop_next, drop_end, each_later, each_is, has_work_at, some_in, ok_then, generation_as}
use Rattle.ks_worker_commit.proofs.sending.send_works.Goals as goal

pub loop-i-init : goal.loop-i-init
loop-i-init g c = record {
  sent = sent_none g.W.Work.plan c.args.member.number c.args.member.epoch c.args.member.generation _ _ (send_all (works_of c.args.works.now));
  gate = refl;
  told = λ h. absurd (omega (arith, h));
  generation = λ h. absurd (omega (arith, h));
}

pub loop-i-preserved : goal.loop-i-preserved
loop-i-preserved g c = record {
  sent = sent_more g.W.Work.plan c.args.member.number c.args.member.epoch c.args.member.generation _ _ _ _ _ _ _ _ c.loop-i.invariant.sent (with_pending_offsets (pending_work (work_view c.index-works-i.result))) (has_work c.index-works-i.result.task) c.send_offsets.result c.send_offsets.ensures.carries c.send_offsets.ensures.requests tt c.in-Ok.is
      (send_all (works_of (drop (c.loop-i.i + 1) c.args.works.now)))
      (λ d. ap (λ l. send_all (works_of l) d) (drop_next c.args.works.now c.loop-i.i c.index-works-i.result (omega arith) c.index-works-i.is))
      (λ d q h. h);
  gate = search rules;
  told = λ h. ok_then c.send_offsets.result tt c.in-Ok.is c.send_offsets.ensures.sent;
  generation = λ h. generation_as g.W.Work.plan _ _ c.args.member.number c.args.member.generation c.send_offsets.new.session.client.pass.seen c.loop-i.invariant.sent.requests (ok_then c.send_offsets.result tt c.in-Ok.is c.send_offsets.ensures.generation);
}

pub returns-in-Err-clause-requests : goal.returns-in-Err-clause-requests
returns-in-Err-clause-requests g c = requests_both g.W.Work.plan _ _ _ _ c.loop-i.invariant.sent.requests c.send_offsets.ensures.requests

pub returns-in-Err-clause-carries : goal.returns-in-Err-clause-carries
returns-in-Err-clause-carries g c = sent_err g.W.Work.plan c.args.member.number c.args.member.epoch c.args.member.generation _ _ _ _ _ _ _ _ c.loop-i.invariant.sent (with_pending_offsets (pending_work (work_view c.index-works-i.result))) (has_work c.index-works-i.result.task) c.send_offsets.result c.send_offsets.ensures.carries c.send_offsets.ensures.requests (Unit {0}) c.in-Err.halt (have_works (works_of c.args.works.now)) c.in-Err.is
    (λ fs d before. before c.index-works-i.result.task (has_work_at c.args.works.now c.loop-i.i c.index-works-i.result (omega arith) c.index-works-i.is))

pub returns-clause-carries : goal.returns-clause-carries
returns-clause-carries g c = sent_all g.W.Work.plan c.args.member.number c.args.member.epoch c.args.member.generation _ _ _ _ _ _ c.loop-i.invariant.sent (λ d. ap (λ l. send_all (works_of l) d) (drop_end c.args.works.now c.loop-i.i (omega arith)))

pub returns-clause-sent : goal.returns-clause-sent
returns-clause-sent g c = λ some. c.loop-i.invariant.told (some_in c.args.works.now c.loop-i.i some (omega arith))

pub returns-clause-generation : goal.returns-clause-generation
returns-clause-generation g c = λ some. c.loop-i.invariant.generation (some_in c.args.works.now c.loop-i.i some (omega arith))

pub send_offsets-requires-clause-task : goal.send_offsets-requires-clause-task
send_offsets-requires-clause-task g c = (each_is _ _ c.args.works.now c.loop-i.i c.index-works-i.result (each_later g.W.Work.plan _ _ c.args.member.number _ c.loop-i.invariant.sent.requests c.requires.works) (omega arith) c.index-works-i.is).task

pub send_offsets-requires-clause-offsets : goal.send_offsets-requires-clause-offsets
send_offsets-requires-clause-offsets g c = (each_is _ _ c.args.works.now c.loop-i.i c.index-works-i.result (each_later g.W.Work.plan _ _ c.args.member.number _ c.loop-i.invariant.sent.requests c.requires.works) (omega arith) c.index-works-i.is).offsets
