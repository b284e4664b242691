use Rattle.ks_plan.specs.Plan.{plan_of}
use Rattle.ks_plan.specs.Plan.Kind.{ForeignKeyJoin}
use Rattle.ks_law_topology.proofs.Fits.{node_stands}
use Rattle.ks_law_topology.proofs.WellFormed.{well_formed_fits}
use Rattle.ks_law_fk_quiescence.proofs.EachState.{hashes_are_had, hashes_follow, others_are_forgotten, present_is_answered, results_follow, gone_is_told, alone_is_joined}
use Rattle.ks_law_fk_quiescence.proofs.states.joins_in_each_state.Goals as goal

pub returns-clause-had : goal.returns-clause-had
returns-clause-had c rules d records schedule good none n l r fk kind set is k =
    let p = plan_of d in
    hashes_are_had rules p (well_formed_fits d good) n l r fk kind set (node_stands p n (ForeignKeyJoin l r fk kind set) is) records schedule none k

pub returns-clause-hashes : goal.returns-clause-hashes
returns-clause-hashes c rules d records schedule good none n l r fk kind set is k =
    let p = plan_of d in
    hashes_follow rules p (well_formed_fits d good) n l r fk kind set (node_stands p n (ForeignKeyJoin l r fk kind set) is) records schedule none k

pub returns-clause-others : goal.returns-clause-others
returns-clause-others c rules d records schedule good none n l r fk kind set is k =
    let p = plan_of d in
    others_are_forgotten rules p (well_formed_fits d good) n l r fk kind set (node_stands p n (ForeignKeyJoin l r fk kind set) is) records schedule none k

pub returns-clause-present : goal.returns-clause-present
returns-clause-present c rules d records schedule good none n l r fk kind set is k =
    let p = plan_of d in
    present_is_answered rules p (well_formed_fits d good) n l r fk kind set (node_stands p n (ForeignKeyJoin l r fk kind set) is) records schedule none k

pub returns-clause-results : goal.returns-clause-results
returns-clause-results c rules d records schedule good none n l r fk kind set is k =
    let p = plan_of d in
    results_follow rules p (well_formed_fits d good) n l r fk kind set (node_stands p n (ForeignKeyJoin l r fk kind set) is) records schedule none k

pub returns-clause-gone : goal.returns-clause-gone
returns-clause-gone c rules d records schedule good none n l r fk kind set is k =
    let p = plan_of d in
    gone_is_told rules p (well_formed_fits d good) n l r fk kind set (node_stands p n (ForeignKeyJoin l r fk kind set) is) records schedule none k

pub returns-clause-alone : goal.returns-clause-alone
returns-clause-alone c rules d records schedule good none n l r fk kind set is k =
    let p = plan_of d in
    alone_is_joined rules p (well_formed_fits d good) n l r fk kind set (node_stands p n (ForeignKeyJoin l r fk kind set) is) records schedule none k
