use Rattle.std.proofs.Common.{◌≡◌, Option, subst, ◌∙◌}
use Rattle.std.specs.Prelude.{IfOk, option_map}
use Rattle.ks_def_tasks.specs.Messages.{Stored, shown}
use Rattle.ks_task_values.specs.Values.{olds_at}
use Rattle.ks_task_values.proofs.LiveValues.{old_there, old_stays}
use Rattle.ks_task_values.proofs.step.old_row.Goals as goal

pub returns-in-Some : goal.returns-in-Some
returns-in-Some c =
    let values = c.args.values.now in
    subst (λ (o : Option Stored). IfOk c.stored_row.result (λ r. r ≡ option_map shown o)) (old_there (olds_at values.step.now) values.live.now c.args.number c.in-Some.live.now c.in-Some.ensures) c.stored_row.ensures

pub returns-in-None : goal.returns-in-None
returns-in-None c =
    let values = c.args.values.now in
    subst (λ (o : Option Stored). IfOk c.stored_row-in-None.result (λ r. r ≡ option_map shown o)) (c.stored_here.ensures ∙ old_stays (olds_at values.step.now) values.live.now c.args.number c.in-None.ensures) c.stored_row-in-None.ensures
