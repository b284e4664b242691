use Rattle.std.proofs.Common.{subst}
use Rattle.ks_worker_state.specs.Names.{task_names, replica_names}
use Rattle.ks_worker_turn.specs.Held.{AreHeld}
use Rattle.ks_worker_turn.specs.Places.{has_place}
use Rattle.ks_worker_turn.proofs.PlacesHeld.{has_all}
use Rattle.ks_worker_turn.proofs.having.has_places.Goals as goal

pub returns-clause-all : goal.returns-clause-all
returns-clause-all c = λ e.
    has_all c.args.assignment.now c.args.number (task_names c.args.tasks.now) (replica_names c.args.replicas.now) c.as_slice.result.now c.as_slice-2.result.now c.as_slice-3.result.now c.as_slice.ensures c.as_slice-2.ensures c.as_slice-3.ensures
    (c.has_tasks.ensures c.if-not-has_tasks.false) (c.has_replicas.ensures c.if-not-has_replicas.false) (c.has_replicas-2.ensures e)

pub returns-clause-active : goal.returns-clause-active
returns-clause-active c = λ e.
    subst (λ xs. AreHeld (λ u. has_place u c.args.number xs) (task_names c.args.tasks.now)) c.as_slice.ensures (c.has_tasks.ensures c.if-not-has_tasks.false)
