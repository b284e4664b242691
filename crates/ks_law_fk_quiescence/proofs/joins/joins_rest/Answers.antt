use Rattle.ks_plan.specs.Plan.{plan_of}
use Rattle.ks_plan.specs.Plan.Kind.{ForeignKeyJoin}
use Rattle.ks_law_topology.proofs.Fits.{node_stands}
use Rattle.ks_law_topology.proofs.WellFormed.{well_formed_fits}
use Rattle.ks_law_fk_quiescence.proofs.JoinsRest.{hashes_rest, join_rests}
use Rattle.ks_law_fk_quiescence.proofs.joins.joins_rest.Goals as goal

pub returns-clause-hashes : goal.returns-clause-hashes
returns-clause-hashes c rules d records schedule good drained none n l r fk kind set is u b k =
    let p = plan_of d in
    hashes_rest rules p (well_formed_fits d good) n l r fk kind set (node_stands p n (ForeignKeyJoin l r fk kind set) is) records schedule drained none u b k

pub returns-clause-tables : goal.returns-clause-tables
returns-clause-tables c rules d records schedule good drained none n l r fk kind set is hl hr =
    let p = plan_of d in
    join_rests rules p (well_formed_fits d good) n l r fk kind set (node_stands p n (ForeignKeyJoin l r fk kind set) is) records schedule drained none hl hr
