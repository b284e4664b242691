use Rattle.std.proofs.Common.{◌≡◌, option_map, refl, ap, sym, ◌∙◌}
use Rattle.ks_audit.proofs.Resting.{task_moved, task_stays}
use Rattle.ks_audit.proofs.commits.rest_task.Goals as goal

pub returns-in_ok-rest-in-Some : goal.returns-in_ok-rest-in-Some
returns-in_ok-rest-in-Some c = λ d setup journal w epoch made has judged.
    let some = sym c.pending_for.ensures ∙ ap (option_map (λ p. p.now)) c.in-Some.is in
    task_moved d setup journal w epoch made c.args.open.now has c.id.result c.in-Some.field-0.now c.args.task.now c.rest.new.self c.id.ensures some judged
    (λ q may. c.in_ok-rest-in-Some.ensures.rests d setup journal w epoch q may) (c.in_ok-rest-in-Some.ensures.name d)

pub returns-in-None : goal.returns-in-None
returns-in-None c = λ d setup journal w epoch made has judged.
    let none = sym c.pending_for.ensures ∙ ap (option_map (λ p. p.now)) c.in-None.is in
    (task_stays d setup journal w epoch made c.args.open.now has c.id.result c.args.task.now c.id.ensures none judged, refl)
