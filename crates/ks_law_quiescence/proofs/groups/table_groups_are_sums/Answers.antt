use Rattle.ks_plan.specs.Plan.{plan_of}
use Rattle.ks_plan.specs.Plan.Kind.{TableAggregate}
use Rattle.ks_def_tasks.specs.Tasks.{machine, inputs_of}
use Rattle.ks_def_tasks.proofs.Names.{names}
use Rattle.ks_def_runs.proofs.Runs.{Follows-run}
use Rattle.ks_law_quiescence.specs.States.{state_of}
use Rattle.ks_law_topology.proofs.Fits.{node_stands}
use Rattle.ks_law_quiescence.proofs.SentGroups.{deltas_are_rows, each_beginning}
use Rattle.ks_law_quiescence.proofs.Received.{grouped_run}
use Rattle.ks_law_quiescence.proofs.groups.table_groups_are_sums.Goals as goal

pub returns-clause-senders : goal.returns-clause-senders
returns-clause-senders c rules d records schedule good n f by field is s g =
    let p = plan_of d in
    let follows = Follows-run (machine rules p) (names rules p) (inputs_of rules p records) schedule in
    deltas_are_rows rules p n f by field (node_stands p n (TableAggregate f by field) is) records (state_of rules p records schedule) follows s g

pub returns-clause-beginnings : goal.returns-clause-beginnings
returns-clause-beginnings c rules d records schedule good few n f by field is s g beginning rest e =
    let p = plan_of d in
    let follows = Follows-run (machine rules p) (names rules p) (inputs_of rules p records) schedule in
    each_beginning rules p n f by field (node_stands p n (TableAggregate f by field) is) records (state_of rules p records schedule) follows s g few beginning rest e

pub returns-clause-stored : goal.returns-clause-stored
returns-clause-stored c rules d records schedule good few n f by field is g =
    let p = plan_of d in
    (grouped_run rules p n f by field (node_stands p n (TableAggregate f by field) is) records schedule).groups few g
