use Rattle.std.proofs.Common.{List, length, ap, arith}
use Rattle.ks_plan.specs.Drafts.{Name}
use Rattle.ks_topo.specs.Topologies.{draft_of}
use Rattle.ks_run_audit.proofs.Windows.{name_is}
use Rattle.ks_run_audit.proofs.output.name_at.Goals as goal

pub returns : goal.returns
returns c =
    let names = c.print-names.ensures in
    name_is c.print-names.result.now (draft_of c.args.topology.now).print c.args.i c.index-names-i.result c.as_slice.result.now names (omega (arith, c.requires, ap (λ (l : List Name). length l) names)) c.index-names-i.is c.as_slice.ensures
