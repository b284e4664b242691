use Rattle.ks_law_accepted.proofs.Inputs as inputs
use Rattle.ks_law_accepted.proofs.the_answer_is_yes.Goals as goal

pub returns : goal.returns
returns c = inputs.the_answer_is_yes
