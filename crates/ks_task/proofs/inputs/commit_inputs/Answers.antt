use Rattle.std.proofs.Common.{arith}
use Rattle.ks_task.specs.Views.{with_committed}
use Rattle.ks_task.proofs.Changing.{one_more}
use Rattle.ks_task.proofs.inputs.commit_inputs.Goals as goal

pub loop-i-preserved : goal.loop-i-preserved
loop-i-preserved c = one_more with_committed c.args.inputs.now.items c.loop-i.inputs.items c.loop-i.i c.index_mut.result.now c.commit_one.new.input c.loop-i.invariant (omega arith) c.index_mut.ensures.value c.commit_one.ensures
