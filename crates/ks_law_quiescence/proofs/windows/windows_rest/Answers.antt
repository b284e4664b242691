use Rattle.std.proofs.Common.{◌<◌, ◌+◌, length, arith}
use Rattle.ks_plan.specs.Plan.{plan_of}
use Rattle.ks_plan.specs.Plan.Kind.{Windowed}
use Rattle.ks_law_topology.proofs.Fits.{node_stands, each_at, stands_within}
use Rattle.ks_law_topology.proofs.WellFormed.{well_formed_fits}
use Rattle.ks_law_quiescence.proofs.WindowsRest.{window_rests}
use Rattle.ks_law_quiescence.proofs.windows.windows_rest.Goals as goal

pub returns : goal.returns
returns c rules d records schedule good drained late n f by w through is u k =
    let p = plan_of d in
    let fits = well_formed_fits d good in
    let stands = node_stands p n (Windowed f by w through) is in
    let before = (each_at p 0 p.kinds n (Windowed f by w through) fits stands).0 in
    let within : f < 0 + length p.kinds = stands_within 0 p.kinds n (Windowed f by w through) stands before in
    window_rests rules p fits records schedule n f w (omega arith) before drained k by through stands late u
