use Rattle.std.proofs.Common.{◌∙◌}
use Rattle.ks_topo.specs.Topologies.{draft_of}
use Rattle.ks_cluster.specs.View.{setup_of, state_of}
use Rattle.ks_settle.proofs.Folds.{table_is, is_part}
use Rattle.ks_settle.proofs.node_tables.table_of.Goals as goal

pub node_rows-requires-clause-parts : goal.node_rows-requires-clause-parts
node_rows-requires-clause-parts g c κs within = is_part (draft_of c.args.topology.now) (setup_of g.W.Work.plan c.args.cluster.now) c.args.name.now _ _ c.find_changelog-topic.ensures c.requires.counts

pub returns : goal.returns
returns g c =
    table_is (draft_of c.args.topology.now) (state_of g.W.Work.plan c.args.cluster.now) c.args.name.now _ _ c.in_ok-clone.field-0 c.of.result c.find_changelog-topic.ensures
    c.in_ok-clone.ensures.cases (c.of.ensures ∙ c.in_ok-rows.ensures)
