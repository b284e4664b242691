use Rattle.ks_plan.specs.Plan.{plan_of}
use Rattle.ks_plan.specs.Plan.Kind.{Windowed}
use Rattle.ks_law_topology.proofs.Fits.{node_stands}
use Rattle.ks_law_topology.proofs.WellFormed.{well_formed_fits}
use Rattle.ks_law_quiescence.proofs.WindowsWhole.{window_whole}
use Rattle.ks_law_quiescence.proofs.windows.windows_are_whole.Goals as goal

pub returns : goal.returns
returns c rules d records schedule good n f by w through is k =
    let p = plan_of d in
    let h = window_whole rules p (well_formed_fits d good) records schedule n f w k by through (node_stands p n (Windowed f by w through) is) in
    record { count = h.count; stored = h.stored; whole = h.whole }
