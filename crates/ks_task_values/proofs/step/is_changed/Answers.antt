use Rattle.ks_task_values.specs.Values.{olds_at}
use Rattle.ks_task_values.proofs.LiveValues.{change_there, change_stays}
use Rattle.ks_task_values.proofs.step.is_changed.Goals as goal

pub returns-in-Some : goal.returns-in-Some
returns-in-Some c =
    let values = c.args.values.now in
    change_there (olds_at values.step.now) values.live.now c.args.number c.in-Some.live.now c.in-Some.ensures

pub returns-in-None : goal.returns-in-None
returns-in-None c =
    let values = c.args.values.now in
    change_stays (olds_at values.step.now) values.live.now c.args.number c.in-None.ensures
