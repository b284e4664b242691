use Rattle.std.proofs.Common.{refl, ap, ◌∙◌}
use Rattle.std.specs.Prelude.{Err}
use Rattle.std.proofs.lemmas.Result.{IfOk-weaker}
use Rattle.ks_run.proofs.Kept.{no_journal, none_drained, bad_job_read, judged_bad_job, judged_read_fault, judged_run}
use Rattle.ks_run.proofs.outcome.judge_job.Goals as goal

pub settle_job-requires-clause-job : goal.settle_job-requires-clause-job
settle_job-requires-clause-job g c κs within = let opened = rw c.in-Ok-Ok.field-0-is at c.in-Ok-Ok.ensures.opened in opened.readable

pub returns-in-Ok-Ok : goal.returns-in-Ok-Ok
returns-in-Ok-Ok g c =
    let opened = rw c.in-Ok-Ok.field-0-is at c.in-Ok-Ok.ensures.opened in
    let whole = rw c.in-Ok-Ok.field-0-is at c.in-Ok-Ok.ensures.whole in
    IfOk-weaker c.settle_job.result _ _
    (λ a h. judged_run _ _ _ _ _ _ _ _ _ _ _ _ _ a.status a.text.items a.journal opened.readable.fine (λ e. whole (c.is_some-is_whole.ensures ∙ e)) c.in-Ok-Ok.ensures.kept opened.stands h) c.settle_job.ensures

pub returns-in_ok-text-in-Ok-Err : goal.returns-in_ok-text-in-Ok-Err
returns-in_ok-text-in-Ok-Err g c =
    judged_bad_job _ _ _ _ _ _ _ _ _ _ _ refl c.in-Ok-Err.ensures.kept
    (bad_job_read _ c.in-Ok-Err.stop _ (rw c.in-Ok-Err.field-0-is at c.in-Ok-Err.ensures.opened) c.in_ok-text-in-Ok-Err.ensures)
    (none_drained _ c.new.ensures) (λ e. c.new.ensures) (no_journal _ _ _ _ c.new.ensures)

pub returns-in_ok-text-in-Err-Fault : goal.returns-in_ok-text-in-Err-Fault
returns-in_ok-text-in-Err-Fault g c =
    let fault = c.in-Err-Fault.ensures.fault (ap Err c.in-Err-Fault.field-0-is) in
    judged_read_fault _ _ _ _ _ _ _ _ _ _ _ refl fault.0 (record { front = fault.1; unopened = λ none. c.new-in-Err-Fault.ensures }) c.in_ok-text-in-Err-Fault.ensures
    (none_drained _ c.new-in-Err-Fault.ensures) (λ e. c.new-in-Err-Fault.ensures) (no_journal _ _ _ _ c.new-in-Err-Fault.ensures)
