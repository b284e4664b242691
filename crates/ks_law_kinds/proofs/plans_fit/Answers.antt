use Rattle.ks_law_kinds.proofs.Plans as plans
use Rattle.ks_law_kinds.proofs.plans_fit.Goals as goal

pub returns : goal.returns
returns c = plans.plans_fit
