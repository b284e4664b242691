use Rattle.std.proofs.Common.{refl, sym, ap, ◌∙◌, ◌+◌, rules, drop, arith, subst}
use Rattle.ks_commit.specs.Committed.{works_of}
use Rattle.ks_worker_commit.specs.Outputs.{put_outputs, put_works}
use Rattle.ks_worker_commit.specs.Underway.{has_added}
use Rattle.ks_worker_commit.proofs.Filling.{outputs_parts}
use Rattle.ks_worker_commit.proofs.Requesting.{requests_both}
use Rattle.ks_worker_commit.proofs.Carrying.{sent_none, sent_more, sent_err, sent_all, drop_next, drop_end, each_later, each_is}
use Rattle.ks_worker_commit.proofs.sending.append_part.Goals as goal

pub loop-i-init : goal.loop-i-init
loop-i-init g c = record { sent = sent_none g.W.Work.plan c.args.member.number c.args.member.epoch c.args.member.generation _ _ (put_works c.args.part (works_of c.args.works.now)); gate = refl }

pub loop-i-preserved : goal.loop-i-preserved
loop-i-preserved g c = record {
  sent = sent_more g.W.Work.plan c.args.member.number c.args.member.epoch c.args.member.generation _ _ _ _ _ _ _ _ c.loop-i.invariant.sent (put_outputs c.args.part c.index-works-i.result.task c.index-works-i.result.outputs) (has_added c.args.part) c.append_work.result c.append_work.ensures.carries c.append_work.ensures.requests tt c.in-Ok.is
      (put_works c.args.part (works_of (drop (c.loop-i.i + 1) c.args.works.now)))
      (λ d. ap (λ l. put_works c.args.part (works_of l) d) (drop_next c.args.works.now c.loop-i.i c.index-works-i.result (omega arith) c.index-works-i.is))
      (λ d q h. outputs_parts c.args.part c.index-works-i.result.task c.index-works-i.result.outputs d q ∙ h);
  gate = search rules;
}

pub returns-in-Err-clause-requests : goal.returns-in-Err-clause-requests
returns-in-Err-clause-requests g c = requests_both g.W.Work.plan _ _ _ _ c.loop-i.invariant.sent.requests c.append_work.ensures.requests

pub returns-in-Err-clause-carries : goal.returns-in-Err-clause-carries
returns-in-Err-clause-carries g c = sent_err g.W.Work.plan c.args.member.number c.args.member.epoch c.args.member.generation _ _ _ _ _ _ _ _ c.loop-i.invariant.sent (put_outputs c.args.part c.index-works-i.result.task c.index-works-i.result.outputs) (has_added c.args.part) c.append_work.result c.append_work.ensures.carries c.append_work.ensures.requests (Unit {0}) c.in-Err.halt (has_added c.args.part) c.in-Err.is
    (λ fs d before. c.loop-i.invariant.sent.keeps d c.args.part before)

pub returns-clause-carries : goal.returns-clause-carries
returns-clause-carries g c = sent_all g.W.Work.plan c.args.member.number c.args.member.epoch c.args.member.generation _ _ _ _ _ _ c.loop-i.invariant.sent (λ d. ap (λ l. put_works c.args.part (works_of l) d) (drop_end c.args.works.now c.loop-i.i (omega arith)))

pub append_work-requires-clause-parts : goal.append_work-requires-clause-parts
append_work-requires-clause-parts g c = (each_is _ _ c.args.works.now c.loop-i.i c.index-works-i.result (each_later g.W.Work.plan _ _ c.args.member.number _ c.loop-i.invariant.sent.requests c.requires.works) (omega arith) c.index-works-i.is).parts

pub append_work-requires-clause-task : goal.append_work-requires-clause-task
append_work-requires-clause-task g c = (each_is _ _ c.args.works.now c.loop-i.i c.index-works-i.result (each_later g.W.Work.plan _ _ c.args.member.number _ c.loop-i.invariant.sent.requests c.requires.works) (omega arith) c.index-works-i.is).task
