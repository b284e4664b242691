use Rattle.std.proofs.Common.{◌≡◌, ◌⊎◌, ℕ, List, refl, sym, ap, subst, ◌∙◌}
use Rattle.std.specs.Prelude.{Option}
use Rattle.std.proofs.lemmas.Bool.{true≢false}
use Rattle.std.specs.Io.KnownBytes.{Appends, IsAtEnd}
use Rattle.ks_edge.specs.Causes.{Rose}
use Rattle.ks_hash.specs.Murmur3.{murmur3_of}
use Rattle.ks_def_tasks.specs.Rules.{rules_of}
use Rattle.ks_words.specs.declared.command.Command.{Command}
use Rattle.ks_run_output.specs.Bytes.{AppendsFront}
use Rattle.ks_run_output.specs.Texts.{read_fault_text}
use Rattle.ks_run_verdict.specs.Answers.{IsRefused, IsBadAsk}
use Rattle.ks_run_verdict.specs.Commands.{HasBadAsk, HasValidJob, IsRun, IsStatusOf, IsJudgedBy, is_audit, is_read_ahead, job_bytes, placing_by, wanted_of}
use Rattle.ks_run_verdict.specs.Journals.{HasJournal, IsSettledRun, IsLateRun, IsCollidedRun, TookFront, IsUndrained, IsEmptyIf, IsWithoutCollision}
use Rattle.ks_run.proofs.Audited.{of_memory, of_audit, not_other, not_plain, is_command, no_job, no_bad_ask}
use Rattle.ks_run.proofs.Kept.{no_journal}
use Rattle.ks_run.proofs.command.top.Goals as goal

pub returns-clause-read_fault : goal.returns-clause-read_fault
returns-clause-read_fault g c = λ plain.
    subst (λ (command : Option Command). c.run_command.result.status ≡ 6 → IsRun command
    × Rose (g.S.Source.faults c.args.input.now) (g.S.Source.faults c.run_command.new.input)
    × TookFront (g.S.Source.left c.args.input.now) (g.S.Source.left c.run_command.new.input) c.run_command.result.journal
    × Appends (g.K.Sink.held c.args.out.now) (g.K.Sink.held c.run_command.new.out) read_fault_text
    × IsUndrained c.run_command.result.journal
    × IsEmptyIf (is_read_ahead command) c.run_command.result.journal)
    c.in-Ok.ensures.told c.run_command.ensures.read_fault

pub returns-clause-bad_job : goal.returns-clause-bad_job
returns-clause-bad_job g c = λ plain.
    let left = g.S.Source.left c.args.input.now in
    subst (λ (command : Option Command). c.run_command.result.status ≡ 2 → (g.S.Source.faults c.run_command.new.input ≡ g.S.Source.faults c.args.input.now)
    × ((text : List ℕ) × IsRefused (job_bytes command left) text × Appends (g.K.Sink.held c.args.out.now) (g.K.Sink.held c.run_command.new.out) text)
    × IsUndrained c.run_command.result.journal
    × IsEmptyIf (is_read_ahead command) c.run_command.result.journal)
    c.in-Ok.ensures.told c.run_command.ensures.bad_job

pub returns-clause-settled : goal.returns-clause-settled
returns-clause-settled g c = λ plain.
    let left = g.S.Source.left c.args.input.now in
    let now = g.S.Source.left c.run_command.new.input in
    subst (λ (command : Option Command). c.run_command.result.status ≡ 0 → (g.S.Source.faults c.run_command.new.input ≡ g.S.Source.faults c.args.input.now)
    × (IsRun command → IsAtEnd now)
    × ((text : List ℕ) × IsSettledRun (rules_of murmur3_of) (placing_by command) (wanted_of command) (job_bytes command left) text c.run_command.result.journal × Appends (g.K.Sink.held c.args.out.now) (g.K.Sink.held c.run_command.new.out) text))
    c.in-Ok.ensures.told c.run_command.ensures.settled

pub returns-clause-late : goal.returns-clause-late
returns-clause-late g c =
    let left = g.S.Source.left c.args.input.now in
    let now = g.S.Source.left c.run_command.new.input in
    subst (λ (command : Option Command). c.run_command.result.status ≡ 3 → (g.S.Source.faults c.run_command.new.input ≡ g.S.Source.faults c.args.input.now)
    × (IsRun command → IsAtEnd now)
    × ((text : List ℕ) × IsLateRun (rules_of murmur3_of) (placing_by command) (wanted_of command) (job_bytes command left) text c.run_command.result.journal × Appends (g.K.Sink.held c.args.out.now) (g.K.Sink.held c.run_command.new.out) text))
    c.in-Ok.ensures.told c.run_command.ensures.late

pub returns-clause-collision : goal.returns-clause-collision
returns-clause-collision g c =
    let left = g.S.Source.left c.args.input.now in
    let now = g.S.Source.left c.run_command.new.input in
    subst (λ (command : Option Command). c.run_command.result.status ≡ 5 → (g.S.Source.faults c.run_command.new.input ≡ g.S.Source.faults c.args.input.now)
    × (IsRun command → IsAtEnd now)
    × ((text : List ℕ) × IsCollidedRun (rules_of murmur3_of) (placing_by command) (wanted_of command) (job_bytes command left) text c.run_command.result.journal × Appends (g.K.Sink.held c.args.out.now) (g.K.Sink.held c.run_command.new.out) text))
    c.in-Ok.ensures.told c.run_command.ensures.collision

pub returns-clause-bad_ask : goal.returns-clause-bad_ask
returns-clause-bad_ask g c =
    let left = g.S.Source.left c.args.input.now in
    let now = g.S.Source.left c.run_command.new.input in
    subst (λ (command : Option Command). c.run_command.result.status ≡ 9 → (g.S.Source.faults c.run_command.new.input ≡ g.S.Source.faults c.args.input.now)
    × IsAtEnd now
    × ((text : List ℕ) × IsBadAsk (wanted_of command) (job_bytes command left) text × Appends (g.K.Sink.held c.args.out.now) (g.K.Sink.held c.run_command.new.out) text)
    × IsUndrained c.run_command.result.journal)
    c.in-Ok.ensures.told c.run_command.ensures.bad_ask

pub returns-clause-write_fault : goal.returns-clause-write_fault
returns-clause-write_fault g c = λ plain.
    let left = g.S.Source.left c.args.input.now in
    let now = g.S.Source.left c.run_command.new.input in
    subst (λ (command : Option Command). c.run_command.result.status ≡ 7 → Rose (g.K.Sink.faults c.args.out.now) (g.K.Sink.faults c.run_command.new.out)
    × ((status : ℕ) × (text : List ℕ)
    × IsJudgedBy command (rules_of murmur3_of) left now (g.S.Source.faults c.args.input.now) (g.S.Source.faults c.run_command.new.input) status text c.run_command.result.journal
    × AppendsFront (g.K.Sink.held c.args.out.now) (g.K.Sink.held c.run_command.new.out) text))
    c.in-Ok.ensures.told c.run_command.ensures.write_fault

pub returns-clause-journal : goal.returns-clause-journal
returns-clause-journal g c =
    let left = g.S.Source.left c.args.input.now in
    subst (λ (command : Option Command). (c.run_command.result.status ≡ 8 → ⊥) → HasJournal (rules_of murmur3_of) (placing_by command) (job_bytes command left) c.run_command.result.journal)
    c.in-Ok.ensures.told c.run_command.ensures.journal

pub returns-clause-unasked : goal.returns-clause-unasked
returns-clause-unasked g c = λ plain.
    subst (λ (command : Option Command). (IsRun command → ⊥) → c.run_command.new.input ≡ c.args.input.now)
    c.in-Ok.ensures.told c.run_command.ensures.unasked

pub returns-clause-complete : goal.returns-clause-complete
returns-clause-complete g c =
    let left = g.S.Source.left c.args.input.now in
    subst (λ (command : Option Command). HasValidJob command left (g.S.Source.faults c.args.input.now) (g.S.Source.faults c.run_command.new.input)
    → IsWithoutCollision (rules_of murmur3_of) (job_bytes command left) c.run_command.result.journal
    → (Rose (g.K.Sink.faults c.args.out.now) (g.K.Sink.faults c.run_command.new.out) → ⊥)
    → (c.run_command.result.status ≡ 0) ⊎ (c.run_command.result.status ≡ 8))
    c.in-Ok.ensures.told c.run_command.ensures.complete

pub returns-clause-refused : goal.returns-clause-refused
returns-clause-refused g c =
    let left = g.S.Source.left c.args.input.now in
    subst (λ (command : Option Command). HasBadAsk command left (g.S.Source.faults c.args.input.now) (g.S.Source.faults c.run_command.new.input)
    → (Rose (g.K.Sink.faults c.args.out.now) (g.K.Sink.faults c.run_command.new.out) → ⊥)
    → (c.run_command.result.status ≡ 9) ⊎ (c.run_command.result.status ≡ 8))
    c.in-Ok.ensures.told c.run_command.ensures.refused

-- ---- the words `audit`
pub returns-then-is_audit-clause-bad_words : goal.returns-then-is_audit-clause-bad_words
returns-then-is_audit-clause-bad_words g c = λ e. absurd (not_other _ 1 refl c.audit_input.ensures.status e)

pub returns-then-is_audit-clause-good_words : goal.returns-then-is_audit-clause-good_words
returns-then-is_audit-clause-good_words g c = λ h. is_command _ _ c.in-Ok.ensures.told (sym c.is_audit.ensures ∙ c.if-is_audit.true)

pub returns-then-is_audit-clause-read_fault : goal.returns-then-is_audit-clause-read_fault
returns-then-is_audit-clause-read_fault g c = λ plain. absurd (not_plain _ _ c.in-Ok.ensures.told (sym c.is_audit.ensures ∙ c.if-is_audit.true) plain)

pub returns-then-is_audit-clause-bad_job : goal.returns-then-is_audit-clause-bad_job
returns-then-is_audit-clause-bad_job g c = λ plain. absurd (not_plain _ _ c.in-Ok.ensures.told (sym c.is_audit.ensures ∙ c.if-is_audit.true) plain)

pub returns-then-is_audit-clause-settled : goal.returns-then-is_audit-clause-settled
returns-then-is_audit-clause-settled g c = λ plain. absurd (not_plain _ _ c.in-Ok.ensures.told (sym c.is_audit.ensures ∙ c.if-is_audit.true) plain)

pub returns-then-is_audit-clause-write_fault : goal.returns-then-is_audit-clause-write_fault
returns-then-is_audit-clause-write_fault g c = λ plain. absurd (not_plain _ _ c.in-Ok.ensures.told (sym c.is_audit.ensures ∙ c.if-is_audit.true) plain)

pub returns-then-is_audit-clause-late : goal.returns-then-is_audit-clause-late
returns-then-is_audit-clause-late g c = λ e. absurd (not_other _ 3 refl c.audit_input.ensures.status e)

pub returns-then-is_audit-clause-collision : goal.returns-then-is_audit-clause-collision
returns-then-is_audit-clause-collision g c = λ e. absurd (not_other _ 5 refl c.audit_input.ensures.status e)

pub returns-then-is_audit-clause-bad_ask : goal.returns-then-is_audit-clause-bad_ask
returns-then-is_audit-clause-bad_ask g c = λ e. absurd (not_other _ 9 refl c.audit_input.ensures.status e)

pub returns-then-is_audit-clause-journal : goal.returns-then-is_audit-clause-journal
returns-then-is_audit-clause-journal g c = λ h. no_journal _ _ _ _ c.audit_input.ensures.journal

pub returns-then-is_audit-clause-complete : goal.returns-then-is_audit-clause-complete
returns-then-is_audit-clause-complete g c = λ valid alone kept.
    absurd (no_job _ _ c.in-Ok.ensures.told (sym c.is_audit.ensures ∙ c.if-is_audit.true) (g.S.Source.left c.args.input.now) (g.S.Source.faults c.args.input.now) (g.S.Source.faults c.audit_input.new.input) valid)

pub returns-then-is_audit-clause-refused : goal.returns-then-is_audit-clause-refused
returns-then-is_audit-clause-refused g c = λ bad kept.
    absurd (no_bad_ask _ _ c.in-Ok.ensures.told (sym c.is_audit.ensures ∙ c.if-is_audit.true) (g.S.Source.left c.args.input.now) (g.S.Source.faults c.args.input.now) (g.S.Source.faults c.audit_input.new.input) bad)

pub returns-then-is_audit-clause-unasked : goal.returns-then-is_audit-clause-unasked
returns-then-is_audit-clause-unasked g c = λ plain none. absurd (not_plain _ _ c.in-Ok.ensures.told (sym c.is_audit.ensures ∙ c.if-is_audit.true) plain)

pub returns-then-is_audit-clause-only : goal.returns-then-is_audit-clause-only
returns-then-is_audit-clause-only g c =
    subst (λ (command : Option Command). IsStatusOf command c.audit_input.result.status) c.in-Ok.ensures.told (of_audit _ _ (sym c.is_audit.ensures ∙ c.if-is_audit.true) c.audit_input.ensures.status)

pub returns-clause-only : goal.returns-clause-only
returns-clause-only g c = subst (λ (command : Option Command). IsStatusOf command c.run_command.result.status) c.in-Ok.ensures.told c.run_command.ensures.only

pub returns-in_default-clause-only : goal.returns-in_default-clause-only
returns-in_default-clause-only g c = of_memory _

pub returns-then-is_audit-clause-audit : goal.returns-then-is_audit-clause-audit
returns-then-is_audit-clause-audit g c = λ e. (c.audit_input.ensures.journal, c.audit_input.ensures.status)

pub returns-clause-audit : goal.returns-clause-audit
returns-clause-audit g c = λ e. absurd (true≢false (sym e ∙ (ap is_audit (sym c.in-Ok.ensures.told) ∙ (sym c.is_audit.ensures ∙ c.if-is_audit.false))))

pub returns-then-is_audit-clause-audited : goal.returns-then-is_audit-clause-audited
returns-then-is_audit-clause-audited g c = λ told yes. c.audit_input.ensures.yes yes

pub returns-clause-audited : goal.returns-clause-audited
returns-clause-audited g c = λ e. absurd (true≢false (sym e ∙ (ap is_audit (sym c.in-Ok.ensures.told) ∙ (sym c.is_audit.ensures ∙ c.if-is_audit.false))))

pub returns-then-is_audit-clause-audit_answer : goal.returns-then-is_audit-clause-audit_answer
returns-then-is_audit-clause-audit_answer g c = λ told. c.audit_input.ensures.answer

pub returns-clause-audit_answer : goal.returns-clause-audit_answer
returns-clause-audit_answer g c = λ e. absurd (true≢false (sym e ∙ (ap is_audit (sym c.in-Ok.ensures.told) ∙ (sym c.is_audit.ensures ∙ c.if-is_audit.false))))

pub returns-then-is_audit-clause-audit_write_fault : goal.returns-then-is_audit-clause-audit_write_fault
returns-then-is_audit-clause-audit_write_fault g c = λ told. c.audit_input.ensures.write_fault

pub returns-clause-audit_write_fault : goal.returns-clause-audit_write_fault
returns-clause-audit_write_fault g c = λ e. absurd (true≢false (sym e ∙ (ap is_audit (sym c.in-Ok.ensures.told) ∙ (sym c.is_audit.ensures ∙ c.if-is_audit.false))))

pub returns-then-is_audit-clause-audit_complete : goal.returns-then-is_audit-clause-audit_complete
returns-then-is_audit-clause-audit_complete g c = λ told. c.audit_input.ensures.complete

pub returns-clause-audit_complete : goal.returns-clause-audit_complete
returns-clause-audit_complete g c = λ e. absurd (true≢false (sym e ∙ (ap is_audit (sym c.in-Ok.ensures.told) ∙ (sym c.is_audit.ensures ∙ c.if-is_audit.false))))
