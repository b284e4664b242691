use Rattle.ks_plan.specs.Plan.{plan_of}
use Rattle.ks_law_topology.proofs.WellFormed.{well_formed_fits}
use Rattle.ks_law_quiescence.proofs.LateTotals.{late_is_all}
use Rattle.ks_law_quiescence.proofs.windows.late_pairs_are_the_late_count.Goals as goal

pub returns : goal.returns
returns c rules d records schedule good drained = late_is_all rules (plan_of d) (well_formed_fits d good) records schedule drained
