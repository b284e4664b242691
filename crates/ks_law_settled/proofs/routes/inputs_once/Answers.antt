use Rattle.ks_law_settled.proofs.Once.{inputs_once}
use Rattle.ks_law_settled.proofs.routes.inputs_once.Goals as goal

pub returns : goal.returns
returns c = inputs_once
