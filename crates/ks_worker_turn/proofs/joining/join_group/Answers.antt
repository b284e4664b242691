use Rattle.std.proofs.Common.{true, refl}
use Rattle.ks_worker_state.proofs.Workers.{worker_later}
use Rattle.ks_worker_turn.proofs.Keeping.{network_later}
use Rattle.ks_worker_turn.proofs.Joined.{now_listed}
use Rattle.ks_worker_turn.proofs.Requests.{joined_on, joined_only, epoch_then}
use Rattle.std.proofs.lemmas.Result.{IfOk-from_err}
use Rattle.ks_worker_client.proofs.Halting.{same_counts}
use Rattle.ks_worker_client.proofs.Moments.{may_later, later_twice}
use Rattle.ks_worker_state.proofs.Exits.{counts_out, counts_in}
use Rattle.ks_worker_turn.proofs.joining.join_group.Goals as goal

pub returns-clause-worker : goal.returns-clause-worker
returns-clause-worker g c = λ hash d runs w.
    let begun = c.begin_epoch.new.state in
    now_listed g.W.Work.plan d c.enter_group.new.client.pass begun.member true begun.session.last begun.session.numbers.items begun.tasks.items begun.replicas.items (λ e. absurd cc)
    (worker_later g.W.Work.plan begun.session.client.pass c.enter_group.new.client.pass c.enter_group.ensures.later
    (network_later g.W.Work.plan _ _ c.begin_epoch.ensures.later.later c.requires.may.network) d begun.member begun.session.last begun.session.numbers.items begun.tasks.items begun.replicas.items
    (c.in_ok-begin_epoch.ensures.worker hash d runs w))

pub returns-clause-made : goal.returns-clause-made
returns-clause-made g c =
    joined_only g.W.Work.plan c.args.state.now c.enter_group.new.client.pass
    (joined_on g.W.Work.plan c.args.state.now c.begin_epoch.new.state c.enter_group.new.client.pass c.begin_epoch.ensures.later c.in_ok-begin_epoch.ensures.made c.in_ok-enter_group.ensures.made)

pub returns-clause-joined : goal.returns-clause-joined
returns-clause-joined g c = λ outside.
    joined_on g.W.Work.plan c.args.state.now c.begin_epoch.new.state c.enter_group.new.client.pass c.begin_epoch.ensures.later c.in_ok-begin_epoch.ensures.made c.in_ok-enter_group.ensures.made

pub returns-clause-begun : goal.returns-clause-begun
returns-clause-begun g c = λ outside. epoch_then g.W.Work.plan c.args.state.now c.begin_epoch.new.state c.enter_group.new.client true c.enter_group.ensures.later c.in_ok-begin_epoch.ensures.begun

pub enter_group-requires-clause-may : goal.enter_group-requires-clause-may
enter_group-requires-clause-may g c = may_later g.W.Work.plan _ _ _ _ _ c.begin_epoch.ensures.later.later (same_counts _ _ c.begin_epoch.result _ c.in_ok-begin_epoch.was c.begin_epoch.ensures.gate) c.requires.may

pub returns-in_err-begin_epoch-clause-gate : goal.returns-in_err-begin_epoch-clause-gate
returns-in_err-begin_epoch-clause-gate g c = counts_out _ _ _ c.begin_epoch.result c.from_residual.result c.in_err-begin_epoch.field-0.0 refl c.in_err-begin_epoch.was c.begin_epoch.ensures.gate c.from_residual.ensures.1

pub returns-in_err-begin_epoch-clause-made : goal.returns-in_err-begin_epoch-clause-made
returns-in_err-begin_epoch-clause-made g c = IfOk-from_err c.from_residual.result _ c.from_residual.ensures.0

pub returns-in_err-begin_epoch-clause-worker : goal.returns-in_err-begin_epoch-clause-worker
returns-in_err-begin_epoch-clause-worker g c = IfOk-from_err c.from_residual.result _ c.from_residual.ensures.0

pub returns-in_err-begin_epoch-clause-member : goal.returns-in_err-begin_epoch-clause-member
returns-in_err-begin_epoch-clause-member g c = IfOk-from_err c.from_residual.result _ c.from_residual.ensures.0

pub returns-in_err-begin_epoch-clause-joined : goal.returns-in_err-begin_epoch-clause-joined
returns-in_err-begin_epoch-clause-joined g c = IfOk-from_err c.from_residual.result _ c.from_residual.ensures.0

pub returns-in_err-begin_epoch-clause-begun : goal.returns-in_err-begin_epoch-clause-begun
returns-in_err-begin_epoch-clause-begun g c = IfOk-from_err c.from_residual.result _ c.from_residual.ensures.0

pub returns-in_err-enter_group-clause-gate : goal.returns-in_err-enter_group-clause-gate
returns-in_err-enter_group-clause-gate g c =
    counts_out _ _ _ c.enter_group.result c.from_residual-in_err-enter_group.result c.in_err-enter_group.field-0.0 (same_counts _ _ c.begin_epoch.result _ c.in_ok-begin_epoch.was c.begin_epoch.ensures.gate) c.in_err-enter_group.was c.enter_group.ensures.gate c.from_residual-in_err-enter_group.ensures.1

pub returns-in_err-enter_group-clause-later : goal.returns-in_err-enter_group-clause-later
returns-in_err-enter_group-clause-later g c = record {
  later = later_twice g.W.Work.plan _ _ _ c.begin_epoch.ensures.later.later c.enter_group.ensures.later;
  number = c.begin_epoch.ensures.later.number;
  instance = c.begin_epoch.ensures.later.instance;
  cache = c.begin_epoch.ensures.later.cache;
}

pub returns-in_err-enter_group-clause-made : goal.returns-in_err-enter_group-clause-made
returns-in_err-enter_group-clause-made g c = IfOk-from_err c.from_residual-in_err-enter_group.result _ c.from_residual-in_err-enter_group.ensures.0

pub returns-in_err-enter_group-clause-worker : goal.returns-in_err-enter_group-clause-worker
returns-in_err-enter_group-clause-worker g c = IfOk-from_err c.from_residual-in_err-enter_group.result _ c.from_residual-in_err-enter_group.ensures.0

pub returns-in_err-enter_group-clause-member : goal.returns-in_err-enter_group-clause-member
returns-in_err-enter_group-clause-member g c = IfOk-from_err c.from_residual-in_err-enter_group.result _ c.from_residual-in_err-enter_group.ensures.0

pub returns-in_err-enter_group-clause-joined : goal.returns-in_err-enter_group-clause-joined
returns-in_err-enter_group-clause-joined g c = IfOk-from_err c.from_residual-in_err-enter_group.result _ c.from_residual-in_err-enter_group.ensures.0

pub returns-in_err-enter_group-clause-begun : goal.returns-in_err-enter_group-clause-begun
returns-in_err-enter_group-clause-begun g c = IfOk-from_err c.from_residual-in_err-enter_group.result _ c.from_residual-in_err-enter_group.ensures.0

pub returns-clause-gate : goal.returns-clause-gate
returns-clause-gate g c = counts_in _ _ _ c.enter_group.result _ (same_counts _ _ c.begin_epoch.result _ c.in_ok-begin_epoch.was c.begin_epoch.ensures.gate) c.in_ok-enter_group.was c.enter_group.ensures.gate

pub returns-clause-later : goal.returns-clause-later
returns-clause-later g c = record {
  later = later_twice g.W.Work.plan _ _ _ c.begin_epoch.ensures.later.later c.enter_group.ensures.later;
  number = c.begin_epoch.ensures.later.number;
  instance = c.begin_epoch.ensures.later.instance;
  cache = c.begin_epoch.ensures.later.cache;
}
