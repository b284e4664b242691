use Rattle.std.proofs.Common.{arith}
use Rattle.ks_task.specs.Views.{ended}
use Rattle.ks_task.proofs.Changing.{one_more}
use Rattle.ks_task.proofs.changelogs.end_changelogs.Goals as goal

pub loop-i-preserved : goal.loop-i-preserved
loop-i-preserved c = one_more (ended c.args.ends.now) c.args.changelogs.now.items c.loop-i.changelogs.items c.loop-i.i c.index_mut.result.now c.end_one.new.changelog c.loop-i.invariant (omega arith) c.index_mut.ensures.value c.in_ok-end_one.ensures.ok
