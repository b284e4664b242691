use Rattle.ks_worker_state.specs.Names.{task_names}
use Rattle.ks_worker_turn.proofs.PlacesHeld.{none_placed, one_placed, all_placed, some_is}
use Rattle.ks_worker_turn.proofs.having.has_tasks.Goals as goal

pub loop-i-init : goal.loop-i-init
loop-i-init c = none_placed c.args.number (task_names c.args.tasks.now)

pub loop-i-preserved : goal.loop-i-preserved
loop-i-preserved c =
    one_placed c.args.number (task_names c.args.tasks.now) c.args.places.now c.loop-i.i _ c.loop-i-test.true (λ own. c.find_task.ensures (some_is c.find_task.result c.in-Some.index c.in-Some.is) own) c.loop-i.invariant

pub returns : goal.returns
returns c = λ e. all_placed c.args.number (task_names c.args.tasks.now) c.args.places.now c.loop-i.i c.loop-i-test.false c.loop-i.invariant
