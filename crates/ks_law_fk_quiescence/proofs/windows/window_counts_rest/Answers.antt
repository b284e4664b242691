use Rattle.std.proofs.Common.{◌<◌, ◌+◌, length, arith}
use Rattle.ks_plan.specs.Plan.{plan_of}
use Rattle.ks_plan.specs.Plan.Kind.{Windowed}
use Rattle.ks_law_topology.proofs.Fits.{node_stands, each_at, stands_within}
use Rattle.ks_law_topology.proofs.WellFormed.{well_formed_fits}
use Rattle.ks_law_fk_quiescence.proofs.WindowCounts.{windows_count_less}
use Rattle.ks_law_fk_quiescence.proofs.windows.window_counts_rest.Goals as goal

pub returns : goal.returns
returns c rules d records schedule good drained short n f by w through is k =
    let p = plan_of d in
    let fits = well_formed_fits d good in
    let stands = node_stands p n (Windowed f by w through) is in
    let before = (each_at p 0 p.kinds n (Windowed f by w through) fits stands).0 in
    let within : f < 0 + length p.kinds = stands_within 0 p.kinds n (Windowed f by w through) stands before in
    let h = windows_count_less rules p fits records schedule n f w k (omega arith) before drained short by through stands in
    record { count = h.count; stored = h.stored; shown = h.shown; few = h.few; sums = h.sums; at_most = h.at_most }
