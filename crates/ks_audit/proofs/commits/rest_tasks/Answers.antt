use Rattle.std.proofs.Common.{◌≡◌, length, arith, refl, ◌∙◌}
use Rattle.std.proofs.lemmas.List.{length-set}
use Rattle.ks_audit.proofs.Resting.{resting_begins, resting_more, resting_ends}
use Rattle.ks_audit.proofs.commits.rest_tasks.Goals as goal

pub loop-place-init : goal.loop-place-init
loop-place-init c = (refl, λ d setup journal w epoch made has names judged. (names, resting_begins d setup journal w epoch c.args.tasks.now.items judged))

pub loop-place-preserved : goal.loop-place-preserved
loop-place-preserved c = (
  length-set c.loop-place.tasks.items c.loop-place.place c.rest_task.new.task ∙ c.loop-place.invariant.0,
  λ d setup journal w epoch made has names judged.
      resting_more d setup journal w epoch c.loop-place.place c.loop-place.tasks.items c.index_mut.result.now c.rest_task.new.task (c.loop-place.invariant.1 d setup journal w epoch made has names judged)
      (omega (arith, c.loop-place-test.true, c.len-place-end.ensures, c.loop-place.invariant.0)) c.index_mut.ensures.value (c.in_ok-rest_task.ensures d setup journal w epoch made has),
)

pub returns : goal.returns
returns c = λ d setup journal w epoch made has names judged.
    let now = c.loop-place.invariant.1 d setup journal w epoch made has names judged in
    (now.0, resting_ends d setup journal w epoch c.loop-place.place c.loop-place.tasks.items now.1 (omega (arith, c.loop-place-test.false, c.len-place-end.ensures, c.loop-place.invariant.0)))
