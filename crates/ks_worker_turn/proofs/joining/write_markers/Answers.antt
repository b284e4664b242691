use Rattle.std.proofs.Common.{◌+◌, refl, ◌∙◌}
use Rattle.ks_worker_client.proofs.Halting.{same_counts}
use Rattle.ks_worker_client.proofs.Moments.{may_later, later_twice, not_later}
use Rattle.ks_worker_state.proofs.Gains.{made_none}
use Rattle.ks_worker_turn.proofs.Requests.{marked_more}
use Rattle.std.proofs.lemmas.Result.{IfOk-from_err}
use Rattle.ks_worker_state.proofs.Exits.{counts_out, counts_in}
use Rattle.ks_worker_turn.proofs.joining.write_markers.Goals as goal

pub mark_next-requires-clause-may : goal.mark_next-requires-clause-may
mark_next-requires-clause-may g c = may_later g.W.Work.plan _ _ _ _ _ c.loop.invariant.later c.loop.invariant.gate c.requires.may

pub loop-init : goal.loop-init
loop-init g c = record {
  later = not_later g.W.Work.plan c.args.client.now.pass c.requires.may.history;
  made = (0, made_none g.W.Work.plan c.args.client.now.pass c.args.client.now.pass (not_later g.W.Work.plan c.args.client.now.pass c.requires.may.history) refl);
  gate = refl;
}

pub loop-preserved : goal.loop-preserved
loop-preserved g c = record {
  later = later_twice g.W.Work.plan _ _ _ c.loop.invariant.later c.mark_next.ensures.later;
  made = (c.loop.invariant.made.0 + 1, marked_more g.W.Work.plan c.args.number c.args.client.now.pass c.loop.client.pass c.mark_next.new.self.pass c.loop.invariant.made.0 c.in_ok-mark_next.field-0 c.loop.invariant.made.1 c.in_ok-mark_next.ensures.wrote);
  gate = same_counts _ _ c.mark_next.result c.in_ok-mark_next.field-0 c.in_ok-mark_next.was c.mark_next.ensures.gate ∙ c.loop.invariant.gate;
}

pub returns-then-is_none-clause-made : goal.returns-then-is_none-clause-made
returns-then-is_none-clause-made g c =
    (c.loop.invariant.made.0 + 1, marked_more g.W.Work.plan c.args.number c.args.client.now.pass c.loop.client.pass c.mark_next.new.self.pass c.loop.invariant.made.0 c.in_ok-mark_next.field-0 c.loop.invariant.made.1 c.in_ok-mark_next.ensures.wrote)

pub returns-in_err-mark_next-clause-gate : goal.returns-in_err-mark_next-clause-gate
returns-in_err-mark_next-clause-gate g c = counts_out _ _ _ c.mark_next.result c.from_residual.result c.in_err-mark_next.field-0.0 c.loop.invariant.gate c.in_err-mark_next.was c.mark_next.ensures.gate c.from_residual.ensures.1

pub returns-in_err-mark_next-clause-later : goal.returns-in_err-mark_next-clause-later
returns-in_err-mark_next-clause-later g c = later_twice g.W.Work.plan _ _ _ c.loop.invariant.later c.mark_next.ensures.later

pub returns-in_err-mark_next-clause-made : goal.returns-in_err-mark_next-clause-made
returns-in_err-mark_next-clause-made g c = IfOk-from_err c.from_residual.result _ c.from_residual.ensures.0

pub returns-then-is_none-clause-gate : goal.returns-then-is_none-clause-gate
returns-then-is_none-clause-gate g c = counts_in _ _ _ c.mark_next.result _ c.loop.invariant.gate c.in_ok-mark_next.was c.mark_next.ensures.gate

pub returns-then-is_none-clause-later : goal.returns-then-is_none-clause-later
returns-then-is_none-clause-later g c = later_twice g.W.Work.plan _ _ _ c.loop.invariant.later c.mark_next.ensures.later
