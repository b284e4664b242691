use Rattle.std.proofs.Common.{◌<◌, length, sym, subst, ◌∙◌, arith, refl}
use Rattle.std.proofs.lemmas.List.{length-set}
use Rattle.ks_task.specs.Tasks.{IsTaskOf}
use Rattle.ks_worker_acts.proofs.Told.{none_told, one_more_told, all_told}
use Rattle.ks_worker_acts.proofs.commit.committed.tell_dirty.Goals as goal

pub loop-i-init : goal.loop-i-init
loop-i-init c = record { count = refl; told = λ d all. none_told d c.args.ends.now c.args.tasks.now.items }

pub loop-i-preserved : goal.loop-i-preserved
loop-i-preserved c =
    let old = c.index_mut.result.now in
    record {
      count = length-set c.loop-i.tasks.items c.loop-i.i c.tell_task.new.task ∙ c.loop-i.invariant.count;
      told = λ d all.
          let inside : c.loop-i.i < length c.loop-i.tasks.items = omega (arith, c.loop-i-test.true, c.len-i-end.ensures, c.loop-i.invariant.count) in
          let was = c.loop-i.invariant.told d all in
          let at = c.index_mut.ensures.value in
          one_more_told d c.args.ends.now c.loop-i.i c.args.tasks.now.items c.loop-i.tasks.items old c.tell_task.new.task was inside at
          (c.in_ok-tell_task.ensures d (subst (IsTaskOf d) (sym (at ∙ was.rest c.loop-i.i old (omega arith))) (all c.loop-i.i old (omega (arith, inside, c.loop-i.invariant.count)))));
    }

pub returns : goal.returns
returns c = λ d all. all_told d c.args.ends.now c.loop-i.i c.args.tasks.now.items c.loop-i.tasks.items (c.loop-i.invariant.told d all) (omega (arith, c.loop-i-test.false, c.len-i-end.ensures, c.loop-i.invariant.count))
