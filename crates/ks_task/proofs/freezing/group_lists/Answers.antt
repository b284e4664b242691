use Rattle.std.proofs.Common.{refl, arith}
use Rattle.ks_record.specs.Records.{placed_of_list}
use Rattle.ks_task.proofs.Placing.{grouped_more, grouped_through}
use Rattle.ks_task.proofs.freezing.group_lists.Goals as goal

pub loop-place-preserved : goal.loop-place-preserved
loop-place-preserved c =
    grouped_more c.args.made.now c.loop-place.place c.part.result (placed_of_list c.args.made.now c.loop-place.place) c.loop-place.outs.items c.add_output.new.outs.items _ (omega arith) c.part.ensures refl
    c.in_ok-add_output.ensures c.loop-place.invariant

pub returns : goal.returns
returns c = grouped_through c.args.made.now c.loop-place.place c.loop-place.outs.items _ (omega arith) c.loop-place.invariant
