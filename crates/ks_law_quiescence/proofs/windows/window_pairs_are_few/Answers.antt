use Rattle.ks_plan.specs.Plan.{plan_of}
use Rattle.ks_plan.specs.Plan.Kind.{Windowed}
use Rattle.ks_law_quiescence.specs.States.{state_of}
use Rattle.ks_law_topology.proofs.Fits.{node_stands, each_at}
use Rattle.ks_law_topology.proofs.WellFormed.{well_formed_fits}
use Rattle.ks_law_quiescence.proofs.WindowsOnce.{pairs_bound}
use Rattle.ks_law_quiescence.proofs.windows.window_pairs_are_few.Goals as goal

pub returns : goal.returns
returns c rules d records schedule good n f by w through is k =
    let p = plan_of d in
    let h = each_at p 0 p.kinds n (Windowed f by w through) (well_formed_fits d good) (node_stands p n (Windowed f by w through) is) in
    pairs_bound k w h.3 p f by (state_of rules p records schedule).taken
