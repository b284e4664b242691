use Rattle.std.proofs.Common.{refl, arith}
use Rattle.ks_record.specs.Records.{placed_of_list}
use Rattle.ks_task.proofs.Placing.{kept_more, kept_through}
use Rattle.ks_task.proofs.changelogs.keep_all.Goals as goal

pub loop-place-preserved : goal.loop-place-preserved
loop-place-preserved c =
    kept_more c.args.part c.args.made.now c.loop-place.place c.part.result (placed_of_list c.args.made.now c.loop-place.place) c.loop-place.store c.keep_own.new.store _ (omega arith) c.part.ensures refl
    c.in_ok-keep_own.ensures c.loop-place.invariant

pub returns : goal.returns
returns c = kept_through c.args.part c.args.made.now c.loop-place.place c.loop-place.store _ (omega arith) c.loop-place.invariant
