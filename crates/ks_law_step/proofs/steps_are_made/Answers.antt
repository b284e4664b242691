use Rattle.ks_law_step.proofs.Made.{steps_are_made}
use Rattle.ks_law_step.proofs.steps_are_made.Goals as goal

pub returns : goal.returns
returns c = steps_are_made
