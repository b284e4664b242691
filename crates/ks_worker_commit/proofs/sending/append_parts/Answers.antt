use Rattle.std.proofs.Common.{refl, sym, ap, ◌∙◌, ◌+◌, rules, drop, arith}
use Rattle.ks_commit.specs.Committed.{works_of}
use Rattle.ks_worker_commit.specs.Outputs.{put_works, put_all}
use Rattle.ks_worker_commit.specs.Underway.{has_added, have_added}
use Rattle.ks_worker_commit.proofs.Filling.{works_parts}
use Rattle.ks_worker_commit.proofs.Carrying.{has_at}
use Rattle.ks_worker_commit.proofs.Requesting.{requests_both}
use Rattle.ks_worker_commit.proofs.Carrying.{sent_none, sent_more, sent_err, sent_all, drop_at, drop_end, each_later}
use Rattle.ks_worker_commit.proofs.sending.append_parts.Goals as goal

pub loop-i-init : goal.loop-i-init
loop-i-init g c = record { sent = sent_none g.W.Work.plan c.args.member.number c.args.member.epoch c.args.member.generation _ _ (put_all c.args.parts.now (works_of c.args.works.now)); gate = refl }

pub loop-i-preserved : goal.loop-i-preserved
loop-i-preserved g c = record {
  sent = sent_more g.W.Work.plan c.args.member.number c.args.member.epoch c.args.member.generation _ _ _ _ _ _ _ _ c.loop-i.invariant.sent (put_works _ (works_of c.args.works.now)) (has_added _) c.append_part.result c.append_part.ensures.carries c.append_part.ensures.requests tt c.in-Ok.is
      (put_all (drop (c.loop-i.i + 1) c.args.parts.now) (works_of c.args.works.now))
      (λ d. ap (λ l. put_all l (works_of c.args.works.now) d) (drop_at c.args.parts.now c.loop-i.i _ (omega arith)))
      (λ d q h. works_parts _ (works_of c.args.works.now) d q ∙ h);
  gate = search rules;
}

pub returns-in-Err-clause-requests : goal.returns-in-Err-clause-requests
returns-in-Err-clause-requests g c = requests_both g.W.Work.plan _ _ _ _ c.loop-i.invariant.sent.requests c.append_part.ensures.requests

pub returns-in-Err-clause-carries : goal.returns-in-Err-clause-carries
returns-in-Err-clause-carries g c = sent_err g.W.Work.plan c.args.member.number c.args.member.epoch c.args.member.generation _ _ _ _ _ _ _ _ c.loop-i.invariant.sent (put_works _ (works_of c.args.works.now)) (has_added _) c.append_part.result c.append_part.ensures.carries c.append_part.ensures.requests (Unit {0}) c.in-Err.halt (have_added c.args.parts.now) c.in-Err.is
    (λ fs d before. c.loop-i.invariant.sent.keeps d _ (before _ (has_at c.args.parts.now c.loop-i.i _ (omega arith))))

pub returns-clause-carries : goal.returns-clause-carries
returns-clause-carries g c = sent_all g.W.Work.plan c.args.member.number c.args.member.epoch c.args.member.generation _ _ _ _ _ _ c.loop-i.invariant.sent (λ d. ap (λ l. put_all l (works_of c.args.works.now) d) (drop_end c.args.parts.now c.loop-i.i (omega arith)))

pub append_part-requires-clause-works : goal.append_part-requires-clause-works
append_part-requires-clause-works g c = each_later g.W.Work.plan _ _ c.args.member.number _ c.loop-i.invariant.sent.requests c.requires.works
