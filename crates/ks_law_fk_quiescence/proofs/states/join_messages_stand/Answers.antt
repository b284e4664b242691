use Rattle.ks_plan.specs.Plan.{plan_of}
use Rattle.ks_plan.specs.Plan.Kind.{ForeignKeyJoin}
use Rattle.ks_law_topology.proofs.Fits.{node_stands}
use Rattle.ks_law_topology.proofs.WellFormed.{well_formed_fits}
use Rattle.ks_law_fk_quiescence.proofs.EachState.{asked_stands, answered_stands, kept_stands}
use Rattle.ks_law_fk_quiescence.proofs.states.join_messages_stand.Goals as goal

pub returns : goal.returns
returns c rules d records schedule good n l r fk kind set is s i m =
    let p = plan_of d in
    let fits = well_formed_fits d good in
    let stands = node_stands p n (ForeignKeyJoin l r fk kind set) is in
    record {
      asked = asked_stands rules p fits n l r fk kind set stands records schedule s i m;
      answered = answered_stands rules p fits n l r fk kind set stands records schedule s i m;
      kept = kept_stands rules p fits n l r fk kind set stands records schedule;
    }
