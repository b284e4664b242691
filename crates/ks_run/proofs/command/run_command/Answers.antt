use Rattle.std.proofs.Common.{◌≡◌, ℕ, List, ap, refl, subst, sym, ◌∙◌}
use Rattle.std.specs.Prelude.{Option, Some}
use Rattle.ks_hash.specs.Murmur3.{murmur3_of}
use Rattle.ks_def_tasks.specs.Rules.{rules_of}
use Rattle.std.specs.Io.KnownBytes.{Appends}
use Rattle.ks_run_output.specs.Bytes.{AppendsFront}
use Rattle.ks_run_output.specs.Texts.{bad_words_text}
use Rattle.ks_words.specs.declared.command.Command.{Command}
use Rattle.ks_words.specs.declared.command.Command.TheVariants.{Run, Load, Ask}
use Rattle.ks_run_verdict.specs.Answers.{IsRefused, IsBadAsk}
use Rattle.ks_run_verdict.specs.Commands.{HasBadAsk, HasValidJob, IsRun, IsStatusOf, IsJudgedBy, is_read_ahead, job_bytes, placing_by, wanted_of}
use Rattle.ks_run_verdict.specs.Journals.{HasJournal, IsSettledRun, IsLateRun, IsCollidedRun, IsWithoutCollision, IsEmptyIf}
use Rattle.ks_run.proofs.Kept.{no_journal}
use Rattle.ks_run.proofs.command.run_command.Goals as goal

pub returns-in-Some-Run-clause-read_fault : goal.returns-in-Some-Run-clause-read_fault
returns-in-Some-Run-clause-read_fault g c = λ e.
    let fault = c.run_job.ensures.read_fault e in
    let run : c.in-Some-Run.field-0 ≡ Run c.in-Some-Run.settings = c.in-Some-Run.field-0-is in
    let command : c.args.command ≡ Some (Run c.in-Some-Run.settings) = c.in-Some-Run.is ∙ ap Some run in
    let is_run = subst IsRun (sym command) tt in
    let empty = subst (λ (command : Option Command). IsEmptyIf (is_read_ahead command) c.run_job.result.journal) (sym command) fault.4 in
    (is_run, fault.0, fault.1, fault.2, fault.3, empty)

pub returns-in-Some-Ask-clause-read_fault : goal.returns-in-Some-Ask-clause-read_fault
returns-in-Some-Ask-clause-read_fault g c = λ e.
    let fault = c.run_asked.ensures.read_fault e in
    let ask : c.in-Some-Ask.field-0 ≡ Ask c.in-Some-Ask.node c.in-Some-Ask.key c.in-Some-Ask.start c.in-Some-Ask.settings = c.in-Some-Ask.field-0-is in
    let command : c.args.command ≡ Some (Ask c.in-Some-Ask.node c.in-Some-Ask.key c.in-Some-Ask.start c.in-Some-Ask.settings) = c.in-Some-Ask.is ∙ ap Some ask in
    let is_run = subst IsRun (sym command) tt in
    let empty = subst (λ (command : Option Command). IsEmptyIf (is_read_ahead command) c.run_asked.result.journal) (sym command) fault.4 in
    (is_run, fault.0, fault.1, fault.2, fault.3, empty)

pub returns-in-Some-Ask-clause-bad_job : goal.returns-in-Some-Ask-clause-bad_job
returns-in-Some-Ask-clause-bad_job g c = λ e.
    let told = c.run_asked.ensures.bad_job e in
    let ask : c.in-Some-Ask.field-0 ≡ Ask c.in-Some-Ask.node c.in-Some-Ask.key c.in-Some-Ask.start c.in-Some-Ask.settings = c.in-Some-Ask.field-0-is in
    let command : c.args.command ≡ Some (Ask c.in-Some-Ask.node c.in-Some-Ask.key c.in-Some-Ask.start c.in-Some-Ask.settings) = c.in-Some-Ask.is ∙ ap Some ask in
    let text = subst (λ (command : Option Command). (text : List ℕ) × IsRefused (job_bytes command (g.S.Source.left c.args.input.now)) text × Appends (g.K.Sink.held c.args.out.now) (g.K.Sink.held c.run_asked.new.out) text) (sym command) told.1 in
    let empty = subst (λ (command : Option Command). IsEmptyIf (is_read_ahead command) c.run_asked.result.journal) (sym command) told.3 in
    (told.0, text, told.2, empty)

pub returns-in-Some-Ask-clause-settled : goal.returns-in-Some-Ask-clause-settled
returns-in-Some-Ask-clause-settled g c = λ e.
    let told = c.run_asked.ensures.settled e in
    let ask : c.in-Some-Ask.field-0 ≡ Ask c.in-Some-Ask.node c.in-Some-Ask.key c.in-Some-Ask.start c.in-Some-Ask.settings = c.in-Some-Ask.field-0-is in
    let command : c.args.command ≡ Some (Ask c.in-Some-Ask.node c.in-Some-Ask.key c.in-Some-Ask.start c.in-Some-Ask.settings) = c.in-Some-Ask.is ∙ ap Some ask in
    let text = subst (λ (command : Option Command). (text : List ℕ) × IsSettledRun (rules_of murmur3_of) (placing_by command) (wanted_of command) (job_bytes command (g.S.Source.left c.args.input.now)) text c.run_asked.result.journal
    × Appends (g.K.Sink.held c.args.out.now) (g.K.Sink.held c.run_asked.new.out) text) (sym command) told.2 in
    (told.0, (λ run. told.1), text)

pub returns-in-Some-Ask-clause-late : goal.returns-in-Some-Ask-clause-late
returns-in-Some-Ask-clause-late g c = λ e.
    let told = c.run_asked.ensures.late e in
    let ask : c.in-Some-Ask.field-0 ≡ Ask c.in-Some-Ask.node c.in-Some-Ask.key c.in-Some-Ask.start c.in-Some-Ask.settings = c.in-Some-Ask.field-0-is in
    let command : c.args.command ≡ Some (Ask c.in-Some-Ask.node c.in-Some-Ask.key c.in-Some-Ask.start c.in-Some-Ask.settings) = c.in-Some-Ask.is ∙ ap Some ask in
    let text = subst (λ (command : Option Command). (text : List ℕ) × IsLateRun (rules_of murmur3_of) (placing_by command) (wanted_of command) (job_bytes command (g.S.Source.left c.args.input.now)) text c.run_asked.result.journal
    × Appends (g.K.Sink.held c.args.out.now) (g.K.Sink.held c.run_asked.new.out) text) (sym command) told.2 in
    (told.0, (λ run. told.1), text)

pub returns-in-Some-Ask-clause-collision : goal.returns-in-Some-Ask-clause-collision
returns-in-Some-Ask-clause-collision g c = λ e.
    let told = c.run_asked.ensures.collision e in
    let ask : c.in-Some-Ask.field-0 ≡ Ask c.in-Some-Ask.node c.in-Some-Ask.key c.in-Some-Ask.start c.in-Some-Ask.settings = c.in-Some-Ask.field-0-is in
    let command : c.args.command ≡ Some (Ask c.in-Some-Ask.node c.in-Some-Ask.key c.in-Some-Ask.start c.in-Some-Ask.settings) = c.in-Some-Ask.is ∙ ap Some ask in
    let text = subst (λ (command : Option Command). (text : List ℕ) × IsCollidedRun (rules_of murmur3_of) (placing_by command) (wanted_of command) (job_bytes command (g.S.Source.left c.args.input.now)) text c.run_asked.result.journal
    × Appends (g.K.Sink.held c.args.out.now) (g.K.Sink.held c.run_asked.new.out) text) (sym command) told.2 in
    (told.0, (λ run. told.1), text)

pub returns-in-Some-Ask-clause-bad_ask : goal.returns-in-Some-Ask-clause-bad_ask
returns-in-Some-Ask-clause-bad_ask g c = λ e.
    let told = c.run_asked.ensures.bad_ask e in
    let ask : c.in-Some-Ask.field-0 ≡ Ask c.in-Some-Ask.node c.in-Some-Ask.key c.in-Some-Ask.start c.in-Some-Ask.settings = c.in-Some-Ask.field-0-is in
    let command : c.args.command ≡ Some (Ask c.in-Some-Ask.node c.in-Some-Ask.key c.in-Some-Ask.start c.in-Some-Ask.settings) = c.in-Some-Ask.is ∙ ap Some ask in
    let text = subst (λ (command : Option Command). (text : List ℕ) × IsBadAsk (wanted_of command) (job_bytes command (g.S.Source.left c.args.input.now)) text × Appends (g.K.Sink.held c.args.out.now) (g.K.Sink.held c.run_asked.new.out) text) (sym command) told.2 in
    (told.0, told.1, text, told.3)

pub returns-in-Some-Ask-clause-write_fault : goal.returns-in-Some-Ask-clause-write_fault
returns-in-Some-Ask-clause-write_fault g c = λ e.
    let told = c.run_asked.ensures.write_fault e in
    let ask : c.in-Some-Ask.field-0 ≡ Ask c.in-Some-Ask.node c.in-Some-Ask.key c.in-Some-Ask.start c.in-Some-Ask.settings = c.in-Some-Ask.field-0-is in
    let command : c.args.command ≡ Some (Ask c.in-Some-Ask.node c.in-Some-Ask.key c.in-Some-Ask.start c.in-Some-Ask.settings) = c.in-Some-Ask.is ∙ ap Some ask in
    let judged = subst (λ (command : Option Command). (status : ℕ) × (text : List ℕ)
    × IsJudgedBy command (rules_of murmur3_of) (g.S.Source.left c.args.input.now) (g.S.Source.left c.run_asked.new.input) (g.S.Source.faults c.args.input.now) (g.S.Source.faults c.run_asked.new.input) status text c.run_asked.result.journal
    × AppendsFront (g.K.Sink.held c.args.out.now) (g.K.Sink.held c.run_asked.new.out) text) (sym command) told.1 in
    (told.0, judged)

pub returns-in-Some-Ask-clause-journal : goal.returns-in-Some-Ask-clause-journal
returns-in-Some-Ask-clause-journal g c = λ kept.
    let ask : c.in-Some-Ask.field-0 ≡ Ask c.in-Some-Ask.node c.in-Some-Ask.key c.in-Some-Ask.start c.in-Some-Ask.settings = c.in-Some-Ask.field-0-is in
    let command : c.args.command ≡ Some (Ask c.in-Some-Ask.node c.in-Some-Ask.key c.in-Some-Ask.start c.in-Some-Ask.settings) = c.in-Some-Ask.is ∙ ap Some ask in
    subst (λ (command : Option Command). HasJournal (rules_of murmur3_of) (placing_by command) (job_bytes command (g.S.Source.left c.args.input.now)) c.run_asked.result.journal) (sym command) (c.run_asked.ensures.journal kept)

pub returns-in-Some-Ask-clause-complete : goal.returns-in-Some-Ask-clause-complete
returns-in-Some-Ask-clause-complete g c = λ valid alone kept.
    let ask : c.in-Some-Ask.field-0 ≡ Ask c.in-Some-Ask.node c.in-Some-Ask.key c.in-Some-Ask.start c.in-Some-Ask.settings = c.in-Some-Ask.field-0-is in
    let command : c.args.command ≡ Some (Ask c.in-Some-Ask.node c.in-Some-Ask.key c.in-Some-Ask.start c.in-Some-Ask.settings) = c.in-Some-Ask.is ∙ ap Some ask in
    let its = subst (λ (command : Option Command). HasValidJob command (g.S.Source.left c.args.input.now) (g.S.Source.faults c.args.input.now) (g.S.Source.faults c.run_asked.new.input)) command valid in
    let apart = subst (λ (command : Option Command). IsWithoutCollision (rules_of murmur3_of) (job_bytes command (g.S.Source.left c.args.input.now)) c.run_asked.result.journal) command alone in
    c.run_asked.ensures.complete its.0 its.1 apart its.2 kept

pub returns-in-Some-Load-clause-write_fault : goal.returns-in-Some-Load-clause-write_fault
returns-in-Some-Load-clause-write_fault g c = λ e.
    let fault = c.run_load.ensures.write_fault e in
    let left = g.S.Source.left c.args.input.now in
    let faults = g.S.Source.faults c.args.input.now in
    let load : c.in-Some-Load.field-0 ≡ Load c.in-Some-Load.orders c.in-Some-Load.settings = c.in-Some-Load.field-0-is in
    let judged = subst (λ (command : Option Command). IsJudgedBy command (rules_of murmur3_of) left left faults faults fault.1.0 fault.1.1 c.run_load.result.journal) (sym (c.in-Some-Load.is ∙ ap Some load)) fault.1.2 in
    (fault.0, (fault.1.0, fault.1.1, judged, fault.1.3))

pub returns-in-None-clause-write_fault : goal.returns-in-None-clause-write_fault
returns-in-None-clause-write_fault g c = λ e.
    let fault = c.refuse_words.ensures.write_fault e in
    let left = g.S.Source.left c.args.input.now in
    let faults = g.S.Source.faults c.args.input.now in
    let judged = subst (λ (command : Option Command). IsJudgedBy command (rules_of murmur3_of) left left faults faults 1 bad_words_text c.refuse_words.result.journal)
    (sym c.in-None.is) (refl, refl, c.refuse_words.ensures.journal) in
    (fault.0, (1, bad_words_text, judged, fault.1))

pub returns-in-None-clause-journal : goal.returns-in-None-clause-journal
returns-in-None-clause-journal g c = λ h. no_journal _ _ _ _ c.refuse_words.ensures.journal

pub returns-in-Some-Ask-clause-refused : goal.returns-in-Some-Ask-clause-refused
returns-in-Some-Ask-clause-refused g c = λ bad kept.
    let ask : c.in-Some-Ask.field-0 ≡ Ask c.in-Some-Ask.node c.in-Some-Ask.key c.in-Some-Ask.start c.in-Some-Ask.settings = c.in-Some-Ask.field-0-is in
    let command : c.args.command ≡ Some (Ask c.in-Some-Ask.node c.in-Some-Ask.key c.in-Some-Ask.start c.in-Some-Ask.settings) = c.in-Some-Ask.is ∙ ap Some ask in
    let its = subst (λ (command : Option Command). HasBadAsk command (g.S.Source.left c.args.input.now) (g.S.Source.faults c.args.input.now) (g.S.Source.faults c.run_asked.new.input)) command bad in
    c.run_asked.ensures.refused its.0 its.1 kept

pub returns-in-Some-Run-clause-only : goal.returns-in-Some-Run-clause-only
returns-in-Some-Run-clause-only g c =
    let run : c.in-Some-Run.field-0 ≡ Run c.in-Some-Run.settings = c.in-Some-Run.field-0-is in
    subst (λ (command : Option Command). IsStatusOf command c.run_job.result.status) (sym (c.in-Some-Run.is ∙ ap Some run)) c.run_job.ensures.only

pub returns-in-Some-Load-clause-only : goal.returns-in-Some-Load-clause-only
returns-in-Some-Load-clause-only g c =
    let load : c.in-Some-Load.field-0 ≡ Load c.in-Some-Load.orders c.in-Some-Load.settings = c.in-Some-Load.field-0-is in
    subst (λ (command : Option Command). IsStatusOf command c.run_load.result.status) (sym (c.in-Some-Load.is ∙ ap Some load)) c.run_load.ensures.only

pub returns-in-Some-Ask-clause-only : goal.returns-in-Some-Ask-clause-only
returns-in-Some-Ask-clause-only g c =
    let ask : c.in-Some-Ask.field-0 ≡ Ask c.in-Some-Ask.node c.in-Some-Ask.key c.in-Some-Ask.start c.in-Some-Ask.settings = c.in-Some-Ask.field-0-is in
    subst (λ (command : Option Command). IsStatusOf command c.run_asked.result.status) (sym (c.in-Some-Ask.is ∙ ap Some ask)) c.run_asked.ensures.only

pub returns-in-None-clause-only : goal.returns-in-None-clause-only
returns-in-None-clause-only g c = subst (λ (command : Option Command). IsStatusOf command c.refuse_words.result.status) (sym c.in-None.is) c.refuse_words.ensures.only
