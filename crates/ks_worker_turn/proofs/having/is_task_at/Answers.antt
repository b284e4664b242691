use Rattle.std.proofs.Common.{refl, sym, ◌∙◌}
use Rattle.ks_worker_turn.proofs.PlacesHeld.{task_found}
use Rattle.ks_worker_turn.proofs.having.is_task_at.Goals as goal

pub returns : goal.returns
returns c = λ e. task_found c.args.tasks.now c.args.index c.index-tasks-index.result c.args.task c.id.result _ c.if-index-tasks.false refl c.index-tasks-index.is c.id.ensures (sym c.is.ensures ∙ e)
