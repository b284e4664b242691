use Rattle.ks_plan.specs.Plan.{plan_of}
use Rattle.ks_plan.specs.Plan.Kind.{TableFilter, TableMap, KeyJoin}
use Rattle.ks_def_tasks.specs.Tasks.{inputs_of}
use Rattle.ks_law_topology.proofs.Fits.{node_stands}
use Rattle.ks_law_topology.proofs.WellFormed.{well_formed_fits}
use Rattle.ks_law_quiescence.proofs.Derived.{filter_follows, map_follows, join_follows}
use Rattle.ks_law_quiescence.proofs.tables.derived_tables_follow.Goals as goal

pub returns-clause-filters : goal.returns-clause-filters
returns-clause-filters c rules d records schedule good n f test is u k =
    filter_follows rules (plan_of d) (well_formed_fits d good) (inputs_of rules (plan_of d) records) schedule u k n f test (node_stands (plan_of d) n (TableFilter f test) is)

pub returns-clause-maps : goal.returns-clause-maps
returns-clause-maps c rules d records schedule good n f set is u k =
    map_follows rules (plan_of d) (well_formed_fits d good) (inputs_of rules (plan_of d) records) schedule u k n f set (node_stands (plan_of d) n (TableMap f set) is)

pub returns-clause-joins : goal.returns-clause-joins
returns-clause-joins c rules d records schedule good n l r kind set is u k =
    join_follows rules (plan_of d) (well_formed_fits d good) (inputs_of rules (plan_of d) records) schedule u k n l r kind set (node_stands (plan_of d) n (KeyJoin l r kind set) is)
