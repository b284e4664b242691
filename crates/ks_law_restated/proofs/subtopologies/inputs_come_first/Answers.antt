use Rattle.ks_law_restated.proofs.WellFormed.{well_formed_inputs_come_first}
use Rattle.ks_law_restated.proofs.subtopologies.inputs_come_first.Goals as goal

pub returns : goal.returns
returns c = well_formed_inputs_come_first
