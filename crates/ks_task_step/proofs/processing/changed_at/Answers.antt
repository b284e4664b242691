use Rattle.std.proofs.Common.{◌≡◌, Option, subst, ap, ◌∙◌}
use Rattle.std.specs.Prelude.{IfOk}
use Rattle.ks_task_values.specs.Changes.{changed_bytes}
use Rattle.ks_task_values.specs.declared.live.LiveValue.{LiveValue}
use Rattle.ks_task_values.specs.Values.{olds_at, old_or, new_or}
use Rattle.ks_task_values.proofs.LiveValues.{unchanged}
use Rattle.ks_task_step.proofs.processing.changed_at.Goals as goal

pub returns-in-Some : goal.returns-in-Some
returns-in-Some c =
    let values = c.args.values.now in
    let old = olds_at values.step.now c.args.number in
    subst (λ (o : Option LiveValue). IfOk c.changed_value.result (λ b. b ≡ changed_bytes (old_or old o) (new_or old o))) c.in-Some.ensures c.changed_value.ensures

pub returns-in-None : goal.returns-in-None
returns-in-None c =
    let values = c.args.values.now in
    let old = olds_at values.step.now c.args.number in
    unchanged old ∙ ap (λ (o : Option LiveValue). changed_bytes (old_or old o) (new_or old o)) c.in-None.ensures
