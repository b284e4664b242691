use Rattle.std.proofs.Common.{refl}
use Rattle.ks_run.proofs.runs.run_asked.Goals as goal

pub returns-clause-complete : goal.returns-clause-complete
returns-clause-complete g c = λ valid good alone calm kept. c.run_crew.ensures.complete valid good alone calm kept

pub returns-clause-refused : goal.returns-clause-refused
returns-clause-refused g c = λ bad calm kept. c.run_crew.ensures.refused c.args.ask refl bad calm kept

pub returns-clause-read_fault : goal.returns-clause-read_fault
returns-clause-read_fault g c = c.run_crew.ensures.read_fault

pub returns-clause-bad_job : goal.returns-clause-bad_job
returns-clause-bad_job g c = c.run_crew.ensures.bad_job

pub returns-clause-settled : goal.returns-clause-settled
returns-clause-settled g c = c.run_crew.ensures.settled

pub returns-clause-late : goal.returns-clause-late
returns-clause-late g c = c.run_crew.ensures.late

pub returns-clause-collision : goal.returns-clause-collision
returns-clause-collision g c = c.run_crew.ensures.collision

pub returns-clause-bad_ask : goal.returns-clause-bad_ask
returns-clause-bad_ask g c = c.run_crew.ensures.bad_ask

pub returns-clause-write_fault : goal.returns-clause-write_fault
returns-clause-write_fault g c = c.run_crew.ensures.write_fault

pub returns-clause-journal : goal.returns-clause-journal
returns-clause-journal g c = c.run_crew.ensures.journal
