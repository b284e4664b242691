use Rattle.ks_job.proofs.Joined.{same_names}
use Rattle.ks_job.proofs.places.are_same_names.Goals as goal

pub returns : goal.returns
returns c = same_names _ _ _ c.eq.ensures
