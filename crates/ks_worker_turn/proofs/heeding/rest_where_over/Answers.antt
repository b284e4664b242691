use Rattle.ks_worker_turn.proofs.Rested.{rested_not, rested_all}
use Rattle.ks_worker_turn.proofs.Placed.{ok_both}
use Rattle.ks_worker_turn.proofs.heeding.rest_where_over.Goals as goal

pub returns-then-not-is_over : goal.returns-then-not-is_over
returns-then-not-is_over c = rested_not c.args.is_over c.args.tasks.now.items c.args.replicas.now.items c.if-not-is_over.true

pub returns : goal.returns
returns c =
    ok_both c.rest_tasks.result
    (λ none left. rested_all c.args.is_over c.args.tasks.now.items c.rest_tasks.new.tasks.items c.args.replicas.now.items c.rest_tasks.new.replicas.items c.if-not-is_over.false none left)
    c.rest_tasks.ensures.tasks c.rest_tasks.ensures.replicas
