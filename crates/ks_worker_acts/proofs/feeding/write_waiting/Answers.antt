use Rattle.std.proofs.Common.{◌≡◌, refl, sym, subst, ◌∙◌, add-one, arith, [], ◌∷◌}
use Rattle.ks_history.specs.declared.journal.Request.TheVariants.{MarkNext}
use Rattle.ks_history.specs.declared.journal.Reply.TheVariants.{Mark as Marked}
use Rattle.ks_worker_client.proofs.Halting.{same_counts}
use Rattle.ks_worker_client.proofs.Moments.{may_later, later_twice, not_later}
use Rattle.ks_worker_acts.specs.Feeds.{marks_to}
use Rattle.ks_worker_state.specs.Gained.{HasMade}
use Rattle.ks_worker_state.proofs.Gains.{made_none, made_one, made_then}
use Rattle.ks_worker_acts.proofs.FedReplicas.{marks_none, marks_all}
use Rattle.std.proofs.lemmas.Result.{IfOk-from_err}
use Rattle.ks_worker_state.proofs.Exits.{counts_out, counts_none}
use Rattle.ks_worker_acts.proofs.feeding.write_waiting.Goals as goal

pub loop-w-preserved : goal.loop-w-preserved
loop-w-preserved g c = record {
  later = later_twice g.W.Work.plan _ _ _ c.loop-w.invariant.later c.mark_next.ensures.later;
  gate = same_counts _ _ c.mark_next.result c.in_ok-mark_next.field-0 c.in_ok-mark_next.was c.mark_next.ensures.gate ∙ c.loop-w.invariant.gate;
  marked = subst (λ n. HasMade c.args.client.now.pass c.mark_next.new.self.pass (marks_to n)) (sym (add-one c.loop-w.w))
      (made_then c.args.client.now.pass c.loop-w.client.pass c.mark_next.new.self.pass (marks_to c.loop-w.w) (MarkNext c.loop-w.w ∷ []) c.loop-w.invariant.marked
      (made_one g.W.Work.plan c.loop-w.client.pass c.mark_next.new.self.pass (MarkNext c.loop-w.w) (Marked c.in_ok-mark_next.field-0) c.in_ok-mark_next.ensures.wrote));
}

pub loop-w-init : goal.loop-w-init
loop-w-init g c = record {
  later = not_later g.W.Work.plan c.args.client.now.pass c.requires.may.history;
  gate = refl;
  marked = made_none g.W.Work.plan c.args.client.now.pass c.args.client.now.pass (not_later g.W.Work.plan c.args.client.now.pass c.requires.may.history) refl;
}

pub returns-then-waiting-eq0-clause-marked : goal.returns-then-waiting-eq0-clause-marked
returns-then-waiting-eq0-clause-marked g c =
    marks_none c.args.waiting c.args.client.now.pass c.args.client.now.pass c.if-waiting-eq0.true
    (made_none g.W.Work.plan c.args.client.now.pass c.args.client.now.pass (not_later g.W.Work.plan c.args.client.now.pass c.requires.may.history) refl)

pub returns-clause-marked : goal.returns-clause-marked
returns-clause-marked g c =
    let all : c.loop-w.w ≡ 17 = omega arith in
    marks_all c.args.waiting c.args.client.now.pass c.loop-w.client.pass c.if-waiting-eq0.false (subst (λ n. HasMade c.args.client.now.pass c.loop-w.client.pass (marks_to n)) all c.loop-w.invariant.marked)

pub mark_next-requires-clause-may : goal.mark_next-requires-clause-may
mark_next-requires-clause-may g c = may_later g.W.Work.plan _ _ _ _ _ c.loop-w.invariant.later c.loop-w.invariant.gate c.requires.may

pub returns-then-waiting-eq0-clause-gate : goal.returns-then-waiting-eq0-clause-gate
returns-then-waiting-eq0-clause-gate g c = counts_none _ _ refl

pub returns-in_err-mark_next-clause-gate : goal.returns-in_err-mark_next-clause-gate
returns-in_err-mark_next-clause-gate g c = counts_out _ _ _ c.mark_next.result c.from_residual.result c.in_err-mark_next.field-0.0 c.loop-w.invariant.gate c.in_err-mark_next.was c.mark_next.ensures.gate c.from_residual.ensures.1

pub returns-in_err-mark_next-clause-later : goal.returns-in_err-mark_next-clause-later
returns-in_err-mark_next-clause-later g c = later_twice g.W.Work.plan _ _ _ c.loop-w.invariant.later c.mark_next.ensures.later

pub returns-in_err-mark_next-clause-marked : goal.returns-in_err-mark_next-clause-marked
returns-in_err-mark_next-clause-marked g c = IfOk-from_err c.from_residual.result _ c.from_residual.ensures.0

pub returns-clause-gate : goal.returns-clause-gate
returns-clause-gate g c = counts_none _ _ c.loop-w.invariant.gate

pub returns-then-waiting-eq0-clause-later : goal.returns-then-waiting-eq0-clause-later
returns-then-waiting-eq0-clause-later g c = not_later g.W.Work.plan c.args.client.now.pass c.requires.may.history
