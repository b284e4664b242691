use Rattle.std.proofs.Common.{arith}
use Rattle.ks_group.specs.Committed.{row_with}
use Rattle.ks_group.proofs.Each.{one_more}
use Rattle.ks_group.proofs.committed.commit_rows.Goals as goal

pub loop-i-preserved : goal.loop-i-preserved
loop-i-preserved c = one_more (row_with c.args.pending.now) c.args.rows.now.items c.loop-i.rows.items c.loop-i.i c.index_mut-row.result.now c.commit.new.self c.loop-i.invariant (omega arith) c.index_mut-row.ensures.value c.commit.ensures
