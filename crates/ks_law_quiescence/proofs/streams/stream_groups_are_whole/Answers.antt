use Rattle.ks_plan.specs.Plan.{plan_of}
use Rattle.ks_plan.specs.Plan.Kind.{StreamAggregate}
use Rattle.ks_law_topology.proofs.Fits.{node_stands}
use Rattle.ks_law_topology.proofs.WellFormed.{well_formed_fits}
use Rattle.ks_law_quiescence.proofs.StreamsWhole.{stream_whole}
use Rattle.ks_law_quiescence.proofs.streams.stream_groups_are_whole.Goals as goal

pub returns : goal.returns
returns c rules d records schedule good n f by field through is g =
    let p = plan_of d in
    stream_whole rules p (well_formed_fits d good) records schedule n f g by field through (node_stands p n (StreamAggregate f by field through) is)
