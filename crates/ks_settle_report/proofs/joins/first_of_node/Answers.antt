use Rattle.std.proofs.Common.{◌∙◌, sym, arith}
use Rattle.ks_topo.specs.Topologies.{draft_of}
use Rattle.ks_settle_report.proofs.LeftSides.{left_has}
use Rattle.ks_settle_report.proofs.joins.first_of_node.Goals as goal

pub first_in_changelog-requires-clause-changelog : goal.first_in_changelog-requires-clause-changelog
first_in_changelog-requires-clause-changelog g c κs within = left_has (draft_of c.args.topology.now) c.args.place (omega (arith, c.requires.node)) c.node_at-node.result.now c.node_at-node.ensures c.in-Some.left c.in-Some.ensures
