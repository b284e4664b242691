use Rattle.ks_topo.specs.Topologies.{draft_of}
use Rattle.ks_cluster.specs.View.{state_of}
use Rattle.ks_settle.proofs.Folds.{printed_at, one_table_more}
use Rattle.ks_settle.proofs.node_tables.tables.Goals as goal

pub table_of-requires-clause-printed : goal.table_of-requires-clause-printed
table_of-requires-clause-printed g c κs within =
    printed_at (draft_of c.args.topology.now) c.print-names.result.now c.loop-i.i c.index-names-i.result c.as_slice.result.now c.print-names.ensures c.loop-i-test.true c.index-names-i.is c.as_slice.ensures

pub loop-i-preserved : goal.loop-i-preserved
loop-i-preserved g c =
    one_table_more (draft_of c.args.topology.now) (state_of g.W.Work.plan c.args.cluster.now) c.print-names.result.now c.loop-i.i c.index-names-i.result c.as_slice.result.now c.loop-i.tables.items c.push.new.self.items
    c.in_ok-table_of.field-0 c.loop-i-test.true c.index-names-i.is c.as_slice.ensures c.loop-i.invariant c.in_ok-table_of.ensures c.in_ok-push.ensures.items
