use Rattle.ks_law_load_job.proofs.Valid.{in_time, well_formed}
use Rattle.ks_law_load_job.proofs.load_job_is_valid.Goals as goal

pub returns-clause-well_formed : goal.returns-clause-well_formed
returns-clause-well_formed c = well_formed

pub returns-clause-in_time : goal.returns-clause-in_time
returns-clause-in_time c = in_time
