use Rattle.ks_law_inputs.proofs.Items.{job_items}
use Rattle.ks_law_inputs.proofs.records_fit.Goals as goal

pub returns : goal.returns
returns c = job_items
