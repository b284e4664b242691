use Rattle.std.proofs.Common.{refl, sym, ap, ◌∙◌, ◌+◌, rules, drop, arith, subst}
use Rattle.ks_worker_commit.specs.Outputs.{put_output, put_outputs}
use Rattle.ks_worker_commit.specs.Underway.{has_added}
use Rattle.ks_worker_commit.proofs.Filling.{output_parts}
use Rattle.ks_worker_commit.proofs.Requesting.{requests_both}
use Rattle.ks_worker_commit.proofs.Carrying.{sent_none, sent_more, sent_err, sent_all, drop_next, drop_end}
use Rattle.ks_worker_commit.proofs.sending.append_outputs.Goals as goal

pub loop-i-init : goal.loop-i-init
loop-i-init g c = record { sent = sent_none g.W.Work.plan c.args.member.number c.args.member.epoch c.args.member.generation _ _ (put_outputs c.args.place.1 c.args.place.0 c.args.outputs.now); gate = refl }

pub loop-i-preserved : goal.loop-i-preserved
loop-i-preserved g c = record {
  sent = sent_more g.W.Work.plan c.args.member.number c.args.member.epoch c.args.member.generation _ _ _ _ _ _ _ _ c.loop-i.invariant.sent (put_output c.args.place.1 c.args.place.0 c.index-outputs-i.result) (has_added c.args.place.1) c.append_if_in.result c.append_if_in.ensures.carries c.append_if_in.ensures.requests tt c.in-Ok.is
      (put_outputs c.args.place.1 c.args.place.0 (drop (c.loop-i.i + 1) c.args.outputs.now))
      (λ d. ap (λ l. put_outputs c.args.place.1 c.args.place.0 l d) (drop_next c.args.outputs.now c.loop-i.i c.index-outputs-i.result (omega arith) c.index-outputs-i.is))
      (λ d q h. output_parts c.args.place.1 c.args.place.0 c.index-outputs-i.result d q ∙ h);
  gate = search rules;
}

pub returns-in-Err-clause-requests : goal.returns-in-Err-clause-requests
returns-in-Err-clause-requests g c = requests_both g.W.Work.plan _ _ _ _ c.loop-i.invariant.sent.requests c.append_if_in.ensures.requests

pub returns-in-Err-clause-carries : goal.returns-in-Err-clause-carries
returns-in-Err-clause-carries g c = sent_err g.W.Work.plan c.args.member.number c.args.member.epoch c.args.member.generation _ _ _ _ _ _ _ _ c.loop-i.invariant.sent (put_output c.args.place.1 c.args.place.0 c.index-outputs-i.result) (has_added c.args.place.1) c.append_if_in.result c.append_if_in.ensures.carries c.append_if_in.ensures.requests (Unit {0}) c.in-Err.halt (has_added c.args.place.1) c.in-Err.is
    (λ fs d before. c.loop-i.invariant.sent.keeps d c.args.place.1 before)

pub returns-clause-carries : goal.returns-clause-carries
returns-clause-carries g c = sent_all g.W.Work.plan c.args.member.number c.args.member.epoch c.args.member.generation _ _ _ _ _ _ c.loop-i.invariant.sent (λ d. ap (λ l. put_outputs c.args.place.1 c.args.place.0 l d) (drop_end c.args.outputs.now c.loop-i.i (omega arith)))
