use Rattle.std.proofs.Common.{arith}
use Rattle.ks_group.specs.Committed.{pair_with}
use Rattle.ks_group.proofs.Each.{one_more}
use Rattle.ks_group.proofs.committed.commit_offsets.Goals as goal

pub loop-i-preserved : goal.loop-i-preserved
loop-i-preserved c = one_more (pair_with c.args.named.now) c.args.offsets.now.items c.loop-i.offsets.items c.loop-i.i c.index_mut.result.now c.commit_pair.new.pair c.loop-i.invariant (omega arith) c.index_mut.ensures.value c.commit_pair.ensures
