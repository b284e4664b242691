use Rattle.std.proofs.Common.{inl, inr, sym, ◌∙◌}
use Rattle.std.proofs.lemmas.Result.{IfOk-weaker}
use Rattle.ks_worker_turn.proofs.Offered.{has_one}
use Rattle.ks_worker_turn.proofs.assigning.new_assignment.Goals as goal

pub returns-then-is_some-clause-none : goal.returns-then-is_some-clause-none
returns-then-is_some-clause-none c = λ e. inl (has_one c.args.told.now.assignment (sym c.is_some.ensures ∙ c.if-is_some.true))

pub returns-clause-none : goal.returns-clause-none
returns-clause-none c = IfOk-weaker c.assign_group.result _ _ (λ o h e. inr (h e)) c.assign_group.ensures.none
