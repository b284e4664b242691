use Rattle.ks_plan.specs.Plan.{plan_of}
use Rattle.ks_law_topology.proofs.WellFormed.{well_formed_fits}
use Rattle.ks_law_quiescence.proofs.PlainRest.{plain_rests}
use Rattle.ks_law_quiescence.proofs.rest.plain_tables_rest.Goals as goal

pub returns : goal.returns
returns c rules d records schedule good drained few n plain =
    plain_rests rules (plan_of d) (well_formed_fits d good) records schedule drained few n plain
