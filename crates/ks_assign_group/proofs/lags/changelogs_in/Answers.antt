use Rattle.std.proofs.Common.{◌∙◌}
use Rattle.ks_topo.specs.Topologies.{draft_of}
use Rattle.ks_assign_group.proofs.Subs.{logs_there}
use Rattle.ks_assign_group.proofs.lags.changelogs_in.Goals as goal

pub returns : goal.returns
returns c = c.changelogs.ensures ∙ logs_there (draft_of c.args.topology.now) c.nodes-nodes.ensures.well_formed c.args.sub
