use Rattle.std.proofs.Common.{◌≡◌, Option, subst, ◌∙◌}
use Rattle.std.specs.Prelude.{IfOk, option_map}
use Rattle.ks_def_tasks.specs.Messages.{Stored, shown}
use Rattle.ks_task_values.specs.Values.{olds_at}
use Rattle.ks_task_values.proofs.LiveValues.{new_there, new_stays}
use Rattle.ks_task_values.proofs.step.new_row.Goals as goal

pub returns-in-Some : goal.returns-in-Some
returns-in-Some c =
    let values = c.args.values.now in
    subst (λ (o : Option Stored). IfOk c.row_after.result (λ r. r ≡ option_map shown o)) (new_there (olds_at values.step.now) values.live.now c.args.number c.in-Some.live.now c.in-Some.ensures) c.row_after.ensures

pub returns-in-None : goal.returns-in-None
returns-in-None c =
    let values = c.args.values.now in
    subst (λ (o : Option Stored). IfOk c.stored_row.result (λ r. r ≡ option_map shown o)) (c.stored_here.ensures ∙ new_stays (olds_at values.step.now) values.live.now c.args.number c.in-None.ensures) c.stored_row.ensures
