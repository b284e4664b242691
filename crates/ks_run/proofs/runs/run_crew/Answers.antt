use Rattle.std.proofs.Common.{inl, sym, subst, ◌∙◌}
use Rattle.std.specs.Prelude.{IfSome}
use Rattle.std.specs.Io.KnownBytes.{Appends}
use Rattle.ks_run_verdict.specs.Journals.{IsGoodAsk}
use Rattle.ks_run_verdict.specs.Told.{wanted_in}
use Rattle.ks_run.proofs.Kept.{judged_query, judged_unanswered, asks_for}
use Rattle.ks_run.proofs.runs.run_crew.Goals as goal

pub returns-in-Ok-write_output-clause-read_fault : goal.returns-in-Ok-write_output-clause-read_fault
returns-in-Ok-write_output-clause-read_fault g c = λ e.
    let fault = c.in-Ok.ensures.read_fault e in
    let written = subst (λ text. Appends (g.K.Sink.held c.args.out.now) (g.K.Sink.held c.write_output.new.out) text) (c.deref.ensures.value ∙ fault.2) c.in-Ok-write_output.ensures.whole in
    (fault.0, fault.1, written, fault.3, fault.4)

pub returns-in-Ok-write_output-clause-journal : goal.returns-in-Ok-write_output-clause-journal
returns-in-Ok-write_output-clause-journal g c = λ h. c.in-Ok.ensures.kept

pub returns-clause-journal : goal.returns-clause-journal
returns-clause-journal g c = λ h. c.in-Ok.ensures.kept

pub returns-in-Ok-write_output-clause-complete : goal.returns-in-Ok-write_output-clause-complete
returns-in-Ok-write_output-clause-complete g c = λ valid good alone calm kept.
    inl (judged_query _ _ (wanted_in c.args.crew.settings.journal c.args.crew.question) _ _ _ _ _ _ _ _ valid (subst (λ o. IfSome o (IsGoodAsk (g.S.Source.left c.args.input.now))) (sym (asks_for c.args.crew.settings.journal c.args.crew.question)) good) alone calm c.in-Ok.ensures)

pub returns-clause-complete : goal.returns-clause-complete
returns-clause-complete g c = λ valid good alone calm kept. absurd (kept c.in-Err.ensures.fault)

pub returns-in-Ok-write_output-clause-refused : goal.returns-in-Ok-write_output-clause-refused
returns-in-Ok-write_output-clause-refused g c = λ ask asks bad calm kept.
    inl (judged_unanswered _ _ (wanted_in c.args.crew.settings.journal c.args.crew.question) _ _ _ _ _ _ _ _ ask (asks_for c.args.crew.settings.journal c.args.crew.question ∙ asks) bad calm c.in-Ok.ensures)

pub returns-clause-refused : goal.returns-clause-refused
returns-clause-refused g c = λ ask asks bad calm kept. absurd (kept c.in-Err.ensures.fault)
