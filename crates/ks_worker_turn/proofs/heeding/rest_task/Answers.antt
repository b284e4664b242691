use Rattle.std.proofs.lemmas.Result.{on_ok_weaker}
use Rattle.ks_worker_turn.proofs.Rested.{one_rested, none_rested}
use Rattle.ks_worker_turn.proofs.heeding.rest_task.Goals as goal

pub returns-in-Ok : goal.returns-in-Ok
returns-in-Ok c =
    on_ok_weaker c.put_replica.result (λ put. one_rested c.args.task c.in-Ok.replica c.args.replicas.now.items c.put_replica.new.replicas.items c.in-Ok.ensures.view c.in-Ok.ensures.changelogs c.in-Ok.ensures.clean put) c.put_replica.ensures

pub returns-in-Err : goal.returns-in-Err
returns-in-Err c = none_rested c.args.task c.args.replicas.now.items c.in-Err.ensures.dirty
