use Rattle.ks_job_source.proofs.Taking.{ends_stopped, ends_whole}
use Rattle.ks_job_source.proofs.reading.end_job.Goals as goal

pub returns-in-Some : goal.returns-in-Some
returns-in-Some c = ends_stopped c.args.reader c.args.items.items c.in_ok-stop.field-0 c.in-Some.stop c.in_ok-stop.ensures.stop c.in-Some.is

pub returns-in-None : goal.returns-in-None
returns-in-None c = ends_whole c.args.reader c.args.items.items c.end_items.new.items.items c.in_ok-stop.field-0 c.in_ok-stop.ensures.stop c.in-None.is c.in_ok-stop.ensures.ended
