use Rattle.std.proofs.Common.{sym, ◌∙◌, None}
use Rattle.ks_run.proofs.Audited.{not_asked}
use Rattle.ks_run.proofs.Kept.{asks_for, none_is}
use Rattle.ks_run.proofs.runs.run_job.Goals as goal

pub returns-clause-complete : goal.returns-clause-complete
returns-clause-complete g c = λ valid alone calm kept. c.run_crew.ensures.complete valid tt alone calm kept

pub returns-clause-asked : goal.returns-clause-asked
returns-clause-asked g c = λ e. let bad = ((c.run_crew.ensures.bad_ask e).2).1 in none_is (sym (asks_for c.args.settings.now.journal None) ∙ bad.asked)

pub returns-clause-read_fault : goal.returns-clause-read_fault
returns-clause-read_fault g c = c.run_crew.ensures.read_fault

pub returns-clause-bad_job : goal.returns-clause-bad_job
returns-clause-bad_job g c = c.run_crew.ensures.bad_job

pub returns-clause-settled : goal.returns-clause-settled
returns-clause-settled g c = c.run_crew.ensures.settled

pub returns-clause-late : goal.returns-clause-late
returns-clause-late g c = c.run_crew.ensures.late

pub returns-clause-collision : goal.returns-clause-collision
returns-clause-collision g c = c.run_crew.ensures.collision

pub returns-clause-write_fault : goal.returns-clause-write_fault
returns-clause-write_fault g c = c.run_crew.ensures.write_fault

pub returns-clause-journal : goal.returns-clause-journal
returns-clause-journal g c = c.run_crew.ensures.journal

pub returns-clause-only : goal.returns-clause-only
returns-clause-only g c = not_asked _ c.run_crew.ensures.only (λ e. let bad = ((c.run_crew.ensures.bad_ask e).2).1 in none_is (sym (asks_for c.args.settings.now.journal None) ∙ bad.asked))
