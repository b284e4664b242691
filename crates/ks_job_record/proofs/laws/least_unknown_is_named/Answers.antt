use Rattle.ks_job_record.proofs.Ordered.{ordered_read, unknown_rise, first_is_named}
use Rattle.ks_job_record.proofs.laws.least_unknown_is_named.Goals as goal

pub returns-clause-ordered : goal.returns-clause-ordered
returns-clause-ordered c = ordered_read

pub returns-clause-rising : goal.returns-clause-rising
returns-clause-rising c = unknown_rise

pub returns-clause-named : goal.returns-clause-named
returns-clause-named c = first_is_named
