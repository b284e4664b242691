use Rattle.std.proofs.Common.{arith}
use Rattle.ks_topo.specs.Topologies.{draft_of}
use Rattle.ks_settle.proofs.Publishing.{one_more_told}
use Rattle.ks_settle.proofs.committed.tell.Goals as goal

pub loop-i-preserved : goal.loop-i-preserved
loop-i-preserved c =
    one_more_told (draft_of c.args.topology.now) c.args.worked.now c.args.ends.now c.loop-i.i c.args.tasks.now.items c.loop-i.tasks.items c.index_mut.result.now c.tell_task.new.task
    c.loop-i.invariant (omega (arith, c.loop-i-test.true, c.len-i-end.ensures, c.loop-i.invariant.count)) c.index_mut.ensures.value c.in_ok-tell_task.ensures
