use Rattle.ks_plan.specs.Plan.{plan_of}
use Rattle.ks_plan.specs.Plan.Kind.{TableSource}
use Rattle.ks_def_tasks.specs.Tasks.{inputs_of}
use Rattle.ks_law_topology.proofs.Fits.{each_at, node_stands}
use Rattle.ks_law_topology.proofs.WellFormed.{well_formed_fits}
use Rattle.ks_law_quiescence.proofs.Sources.{latest_run}
use Rattle.ks_law_quiescence.proofs.tables.source_tables_are_latest.Goals as goal

pub returns : goal.returns
returns c rules d records schedule good n t is part k =
    let p = plan_of d in
    let stands = node_stands p n (TableSource t) is in
    latest_run rules p n t stands (each_at p 0 p.kinds n (TableSource t) (well_formed_fits d good) stands) (inputs_of rules p records) schedule part k
