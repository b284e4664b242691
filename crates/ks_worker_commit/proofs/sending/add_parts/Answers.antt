use Rattle.std.proofs.Common.{refl, sym, ap, ◌∙◌, ◌+◌, rules, drop, arith}
use Rattle.std.proofs.lemmas.Bool.{or_left}
use Rattle.ks_record.specs.Parts.{same_part}
use Rattle.ks_law_commit.specs.Building.{with_part}
use Rattle.ks_worker_commit.specs.Outputs.{add_all}
use Rattle.ks_worker_commit.specs.Underway.{always}
use Rattle.ks_worker_commit.proofs.Requesting.{requests_both}
use Rattle.ks_worker_commit.proofs.Carrying.{sent_none, sent_more, sent_err, sent_all, drop_at, drop_end}
use Rattle.ks_worker_commit.proofs.sending.add_parts.Goals as goal

pub loop-i-init : goal.loop-i-init
loop-i-init g c = record { sent = sent_none g.W.Work.plan c.args.member.number c.args.member.epoch c.args.member.generation _ _ (add_all c.args.parts.now); gate = refl }

pub loop-i-preserved : goal.loop-i-preserved
loop-i-preserved g c = record {
  sent = sent_more g.W.Work.plan c.args.member.number c.args.member.epoch c.args.member.generation _ _ _ _ _ _ _ _ c.loop-i.invariant.sent (with_part _) always c.add_part.result c.add_part.ensures.carries c.add_part.ensures.requests tt c.in-Ok.is
      (add_all (drop (c.loop-i.i + 1) c.args.parts.now))
      (λ d. ap (λ l. add_all l d) (drop_at c.args.parts.now c.loop-i.i _ (omega arith)))
      (λ d q h. or_left (d.parts q) (same_part q _) h);
  gate = search rules;
}

pub returns-in-Err-clause-requests : goal.returns-in-Err-clause-requests
returns-in-Err-clause-requests g c = requests_both g.W.Work.plan _ _ _ _ c.loop-i.invariant.sent.requests c.add_part.ensures.requests

pub returns-in-Err-clause-carries : goal.returns-in-Err-clause-carries
returns-in-Err-clause-carries g c = sent_err g.W.Work.plan c.args.member.number c.args.member.epoch c.args.member.generation _ _ _ _ _ _ _ _ c.loop-i.invariant.sent (with_part _) always c.add_part.result c.add_part.ensures.carries c.add_part.ensures.requests (Unit {0}) c.in-Err.halt always c.in-Err.is
    (λ fs d before. tt)

pub returns-clause-carries : goal.returns-clause-carries
returns-clause-carries g c = sent_all g.W.Work.plan c.args.member.number c.args.member.epoch c.args.member.generation _ _ _ _ _ _ c.loop-i.invariant.sent (λ d. ap (λ l. add_all l d) (drop_end c.args.parts.now c.loop-i.i (omega arith)))
