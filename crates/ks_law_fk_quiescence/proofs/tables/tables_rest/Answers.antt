use Rattle.std.proofs.Common.{ap, ◌∙◌}
use Rattle.ks_plan.specs.Plan.{plan_of}
use Rattle.ks_law_topology.proofs.Fits.{node_stands}
use Rattle.ks_law_topology.proofs.WellFormed.{well_formed_fits}
use Rattle.ks_law_fk_quiescence.specs.AtRest.{is_table}
use Rattle.ks_law_fk_quiescence.proofs.TableInputs.{table_inputs}
use Rattle.ks_law_fk_quiescence.proofs.TablesRest.{tables_rest}
use Rattle.ks_law_fk_quiescence.proofs.Waits.{kind_is}
use Rattle.ks_law_fk_quiescence.proofs.tables.tables_rest.Goals as goal

pub returns : goal.returns
returns c rules d records schedule good rest n k is table =
    let p = plan_of d in
    tables_rest rules p (well_formed_fits d good) records schedule rest (table_inputs d good) n (ap is_table (kind_is p n k (node_stands p n k is)) ∙ table)
