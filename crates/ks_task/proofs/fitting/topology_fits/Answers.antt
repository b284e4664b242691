use Rattle.std.proofs.Common.{subst}
use Rattle.std.specs.List.{AllByRecursion}
use Rattle.ks_topo.specs.Topologies.{draft_of}
use Rattle.ks_law_kinds.specs.Fitting.{FitsOp}
use Rattle.ks_law_kinds.proofs.Plans as plans
use Rattle.ks_task.proofs.fitting.topology_fits.Goals as goal

pub returns : goal.returns
returns c = plans.plans_fit (draft_of c.args.topology.now) (subst (AllByRecursion (λ n. FitsOp n.op)) c.nodes.ensures.drafts c.nodes_fit.ensures)
