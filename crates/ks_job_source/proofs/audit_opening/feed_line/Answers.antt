use Rattle.std.proofs.Common.{◌≡◌, List, [], ◌++◌, sym, subst, rules}
use Rattle.ks_job.specs.declared.judge.JobItem.{JobItem}
use Rattle.ks_job.specs.Phases.{Fed}
use Rattle.ks_job_source.specs.AuditOpening.{LineFinds}
use Rattle.ks_job_source.proofs.AuditOpens.{line_finds}
use Rattle.ks_job_source.proofs.audit_opening.feed_line.Goals as goal

pub returns : goal.returns
returns c = λ got before.
    let none : c.new-items.result.items ≡ [] = search rules in
    let fed = subst (λ (l : List JobItem). Fed c.args.reader.now c.feed.new.self l c.feed.new.items.items c.args.line.now) none c.in_ok-answer.ensures.fed in
    subst (λ o. LineFinds (got ++ c.args.line.now) c.feed.new.self o) (sym c.or_fault.ensures)
    (line_finds got c.args.line.now c.args.reader.now c.feed.new.self c.feed.new.items.items before fed c.requires.line c.in_ok-answer.answer c.in_ok-answer.ensures.answer c.in-Ok.found c.in-Ok.ensures)
