use Rattle.ks_law_load_job.proofs.WholeJob.{load_read}
use Rattle.ks_law_load_job.proofs.load_job_is_read.Goals as goal

pub returns : goal.returns
returns c = load_read
