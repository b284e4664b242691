-- What a request asks of its caller after other requests.
use Rattle.std.proofs.Common.{ℕ, ap, ◌∙◌}
use Rattle.atomic_table.specs.Seated.{TableId}
use Rattle.ks_history.specs.Machine.{TaskPlan}
use Rattle.ks_worker_client.specs.Turns.{HasRoomFor}
use Rattle.ks_worker_client.specs.declared.session.Session.{Session}
use Rattle.ks_worker_commit.specs.Premises.{MayRequest}
use Rattle.ks_worker_commit.specs.Outcomes.{Requests}

pub may_later : {W G : Type 0} (plan : W → TaskPlan) (lock : TableId) (w : ℕ) (old new : Session W G) → MayRequest lock w old →
    Requests plan old.client.pass new.client.pass w → HasRoomFor new.client.gate → MayRequest lock w new
may_later plan lock w old new may requests room = record {
  own = ap (λ p. p.lock) requests.same ∙ may.own;
  free = ap (λ p. p.holds) requests.same ∙ may.free;
  room = room;
  worker = may.worker;
}
