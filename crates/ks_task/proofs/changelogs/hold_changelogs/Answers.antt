use Rattle.std.proofs.Common.{arith}
use Rattle.ks_task.specs.Views.{holding}
use Rattle.ks_task.proofs.Changing.{one_more}
use Rattle.ks_task.proofs.PlainLogs.{plain_stays}
use Rattle.ks_task.proofs.changelogs.hold_changelogs.Goals as goal

pub loop-i-preserved : goal.loop-i-preserved
loop-i-preserved c = (
  one_more (holding c.args.cache) c.args.changelogs.now.items c.loop-i.changelogs.items c.loop-i.i c.index_mut.result.now c.hold_one.new.changelog c.loop-i.invariant.0 (omega arith) c.index_mut.ensures.value c.in_ok-hold_one.ensures.ok,
  plain_stays c.args.cache c.args.changelogs.now.items c.loop-i.changelogs.items c.loop-i.i c.index_mut.result.now c.hold_one.new.changelog c.loop-i.invariant.0 (omega arith) c.index_mut.ensures.value c.hold_one.ensures.plain c.loop-i.invariant.1,
)

pub returns-in_err-hold_one-clause-plain : goal.returns-in_err-hold_one-clause-plain
returns-in_err-hold_one-clause-plain c =
    plain_stays c.args.cache c.args.changelogs.now.items c.loop-i.changelogs.items c.loop-i.i c.index_mut.result.now c.hold_one.new.changelog c.loop-i.invariant.0 (omega arith) c.index_mut.ensures.value c.hold_one.ensures.plain c.loop-i.invariant.1
