use Rattle.std.proofs.Common.{arith, ap, ◌∙◌, drop}
use Rattle.ks_standby.specs.Replicas.{numbers_of}
use Rattle.ks_task.specs.Views.{log_after}
use Rattle.ks_task.proofs.Changing.{one_more}
use Rattle.ks_task.proofs.Orders.{numbers_stay_in, numbers_kept}
use Rattle.ks_task.proofs.changelogs.keep_records.Goals as goal

pub loop-i-preserved : goal.loop-i-preserved
loop-i-preserved c = one_more (log_after c.args.part (drop c.args.from c.args.made.now)) c.args.changelogs.now.items c.loop-i.changelogs.items c.loop-i.i c.index_mut.result.now c.keep_in.new.changelog c.loop-i.invariant (omega arith) c.index_mut.ensures.value c.in_ok-keep_in.ensures.ok

pub returns-in_err-keep_in-clause-numbers : goal.returns-in_err-keep_in-clause-numbers
returns-in_err-keep_in-clause-numbers c = numbers_stay_in c.args.part (drop c.args.from c.args.made.now) c.args.changelogs.now.items c.loop-i.changelogs.items c.loop-i.i c.index_mut.result.now c.keep_in.new.changelog c.loop-i.invariant (omega arith) c.index_mut.ensures.value c.keep_in.ensures.number ∙ (ap numbers_of c.loop-i.invariant ∙ numbers_kept c.args.part (drop c.args.from c.args.made.now) c.args.changelogs.now.items c.loop-i.i)

pub returns-clause-numbers : goal.returns-clause-numbers
returns-clause-numbers c = ap numbers_of c.loop-i.invariant ∙ numbers_kept c.args.part (drop c.args.from c.args.made.now) c.args.changelogs.now.items c.loop-i.i
