-- A worker that crashes, and one that does nothing.
use Rattle.std.proofs.Common.{◌≡◌, ◌≤◌, ℕ, List, [], Result, Ok, Err, OnOk, refl, sym, ap, subst, ◌∙◌}
use Rattle.atomic_table.specs.Seated.{TableId}
use Rattle.ks_plan.specs.Drafts.{DraftView}
use Rattle.ks_history.specs.Machine.{TaskPlan}
use Rattle.ks_history.specs.History.{IsHistory}
use Rattle.ks_shared.specs.Calls.{setup_in}
use Rattle.ks_worker_client.specs.declared.client.ClusterClient.{ClusterClient}
use Rattle.ks_worker_client.specs.declared.member.Member.{Member}
use Rattle.ks_worker_client.specs.declared.session.Session.{Session}
use Rattle.ks_worker_client.specs.Calls.{MayCall, Later}
use Rattle.ks_worker_client.proofs.Moments.{same_frame, not_later}
use Rattle.ks_worker_state.specs.declared.state.WorkerState.{WorkerState}
use Rattle.ks_worker_state.specs.Worker.{IsWorker, lost}
use Rattle.ks_worker_state.specs.State.{IsWorkerState, LaterState}
use Rattle.ks_worker_state.proofs.Workers.{crashed}

-- ---- answers
pub on_ok : {A E : Type 0} (P Q : Type 0) (r : Result A E) → (P → Q) → OnOk r P → OnOk r Q
on_ok P Q (Ok a) f h = f h
on_ok P Q (Err e) f h = tt

pub always_ok : {A E : Type 0} (P : Type 0) (r : Result A E) → P → OnOk r P
always_ok P (Ok a) h = h
always_ok P (Err e) h = tt

-- ---- a worker that lost all
-- what `crash` leaves
pub record IsLost {W G : Type 0} (old new : WorkerState W G) : Type 0 where
  pub member : new.member ≡ lost old.member
  pub tasks : new.tasks.items ≡ []
  pub replicas : new.replicas.items ≡ []
  pub last : new.session.last ≡ 0
  pub numbers : new.session.numbers.items ≡ []
  pub client : new.session.client ≡ old.session.client

module _ {W G : Type 0} (plan : W → TaskPlan) where
  history_later : (old mid : WorkerState W G) → LaterState plan old mid → IsHistory (setup_in plan mid.session.client.pass.frame) mid.session.client.pass.seen
  history_later old mid l =
      subst (λ f. IsHistory (setup_in plan f) mid.session.client.pass.seen) (sym (same_frame plan old.session.client.pass mid.session.client.pass l.later))
      (subst (IsHistory (setup_in plan old.session.client.pass.frame)) (sym l.later.seen) l.later.history)

  -- one that crashed is a worker still
  pub lost_is_worker : (d : DraftView) (old mid new : WorkerState W G) → LaterState plan old mid → old.member.number ≤ 15 → old.member.instance ≤ 3 → IsLost mid new → IsWorkerState plan d new
  lost_is_worker d old mid new l few small k =
      let here : IsWorker plan d mid.session.client.pass (lost mid.member) 0 [] [] [] =
      crashed plan d mid.session.client.pass mid.member (subst (λ n. n ≤ 15) (sym l.number) few) (subst (λ n. n ≤ 3) (sym l.instance) small) (history_later old mid l) in
      subst (λ (c : ClusterClient W G). IsWorker plan d c.pass new.member new.session.last new.session.numbers.items new.tasks.items new.replicas.items) (sym k.client)
      (subst (λ (m : Member). IsWorker plan d mid.session.client.pass m new.session.last new.session.numbers.items new.tasks.items new.replicas.items) (sym k.member)
      (subst (λ n. IsWorker plan d mid.session.client.pass (lost mid.member) n new.session.numbers.items new.tasks.items new.replicas.items) (sym k.last)
      (subst (λ ns. IsWorker plan d mid.session.client.pass (lost mid.member) 0 ns new.tasks.items new.replicas.items) (sym k.numbers)
      (subst (λ ts. IsWorker plan d mid.session.client.pass (lost mid.member) 0 [] ts new.replicas.items) (sym k.tasks)
      (subst (λ rs. IsWorker plan d mid.session.client.pass (lost mid.member) 0 [] [] rs) (sym k.replicas) here)))))

  -- it crashed at a later moment
  pub lost_later : (old mid new : WorkerState W G) → LaterState plan old mid → IsLost mid new → LaterState plan old new
  lost_later old mid new l k = record {
    later = subst (Later plan old.session.client.pass) (sym (ap (λ (c : ClusterClient W G). c.pass) k.client)) l.later;
    number = ap (λ (m : Member). m.number) k.member ∙ l.number;
    instance = ap (λ (m : Member). m.instance) k.member ∙ l.instance;
    cache = ap (λ (m : Member). m.cache) k.member ∙ l.cache;
  }

  -- ---- one that made no call
  pub unmoved : (lock : TableId) (old new : WorkerState W G) → MayCall plan lock old.session.client.pass old.session.client.gate → new.member ≡ old.member → new.session ≡ old.session → LaterState plan old new
  unmoved lock old new may member session = record {
    later = subst (Later plan old.session.client.pass) (sym (ap (λ (s : Session W G). s.client.pass) session)) (not_later plan old.session.client.pass may.history);
    number = ap (λ (m : Member). m.number) member;
    instance = ap (λ (m : Member). m.instance) member;
    cache = ap (λ (m : Member). m.cache) member;
  }
