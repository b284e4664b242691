use Rattle.std.proofs.Common.{ℕ, List, inl, inr, refl, subst, ◌∙◌}
use Rattle.std.specs.Io.KnownBytes.{Appends}
use Rattle.ks_hash.specs.Murmur3.{murmur3_of}
use Rattle.ks_def_tasks.specs.Rules.{rules_of}
use Rattle.ks_run_output.specs.Bytes.{AppendsFront}
use Rattle.ks_run.proofs.Audited.{holds_run, audit_status, not_seven, not_eight, says_yes}
use Rattle.ks_run.proofs.command.audit_input.Goals as goal

pub returns-in-Ok-write_output-clause-status : goal.returns-in-Ok-write_output-clause-status
returns-in-Ok-write_output-clause-status g c = audit_status _ c.in-Ok.ensures.only

pub returns-in-Ok-write_output-clause-yes : goal.returns-in-Ok-write_output-clause-yes
returns-in-Ok-write_output-clause-yes g c = λ e.
    let yes = c.in-Ok.ensures.yes e in
    let written = subst (λ text. Appends (g.K.Sink.held c.args.out.now) (g.K.Sink.held c.write_output.new.out) text) (c.deref.ensures.value ∙ yes.3) c.in-Ok-write_output.ensures.whole in
    (yes.0, yes.1, holds_run (rules_of murmur3_of) (g.S.Source.left c.args.input.now) yes.2, written)

pub returns-in-Ok-write_output-clause-answer : goal.returns-in-Ok-write_output-clause-answer
returns-in-Ok-write_output-clause-answer g c = λ written taken.
    (_, c.in-Ok.ensures, subst (λ (text : List ℕ). Appends (g.K.Sink.held c.args.out.now) (g.K.Sink.held c.write_output.new.out) text) c.deref.ensures.value c.in-Ok-write_output.ensures.whole)

pub returns-in-Ok-write_output-clause-write_fault : goal.returns-in-Ok-write_output-clause-write_fault
returns-in-Ok-write_output-clause-write_fault g c = λ e. absurd (not_seven _ c.in-Ok.ensures.only e)

pub returns-in-Ok-write_output-clause-memory : goal.returns-in-Ok-write_output-clause-memory
returns-in-Ok-write_output-clause-memory g c = λ e. absurd (not_eight _ c.in-Ok.ensures.only e)

pub returns-in-Ok-write_output-clause-complete : goal.returns-in-Ok-write_output-clause-complete
returns-in-Ok-write_output-clause-complete g c =
    says_yes (rules_of murmur3_of) (g.S.Source.left c.args.input.now) (g.S.Source.left c.audit_source.new.input) (g.S.Source.faults c.args.input.now) (g.S.Source.faults c.audit_source.new.input) _ _ c.in-Ok.ensures
