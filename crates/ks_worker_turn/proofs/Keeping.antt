-- What a part of a turn keeps, from part to part.
use Rattle.std.proofs.Common.{◌≡◌, ◌<◌, ℕ, Bool, List, refl, sym, ap, subst, ◌∙◌}
use Rattle.atomic_table.specs.Seated.{TableId}
use Rattle.ks_plan.specs.Drafts.{DraftView}
use Rattle.ks_history.specs.declared.journal.Entry.{Entry}
use Rattle.ks_history.specs.Machine.{TaskPlan, IsNetwork}
use Rattle.ks_growing.specs.Passes.{PassView}
use Rattle.ks_shared.specs.declared.state.Frame.{Frame}
use Rattle.ks_shared.specs.Calls.{setup_in}
use Rattle.ks_history.specs.declared.journal.Status.{Status}
use Rattle.ks_history.specs.Reads.{status}
use Rattle.ks_worker_client.specs.declared.client.ClusterClient.{ClusterClient}
use Rattle.ks_worker_client.specs.declared.member.Member.{Member}
use Rattle.ks_worker_client.specs.Calls.{Later, state_seen}
use Rattle.ks_history.specs.History.{IsHistory}
use Rattle.ks_worker_client.proofs.Moments.{same_frame, not_later}
use Rattle.ks_worker_state.specs.declared.state.WorkerState.{WorkerState}
use Rattle.ks_worker_state.specs.State.{LaterState, MayAct}
use Rattle.ks_worker_state.proofs.States.{runs_later, may_act_on}
use Rattle.ks_worker_state.proofs.Workers.{worker_later}
use Rattle.ks_worker_turn.specs.Acting.{KeepsWorker}

pub network_later : {W : Type 0} (plan : W → TaskPlan) (old new : PassView Entry (Frame W)) → Later plan old new → IsNetwork (setup_in plan old.frame).plan → IsNetwork (setup_in plan new.frame).plan
network_later plan old new l net = subst (λ f. IsNetwork (setup_in plan f).plan) (sym (same_frame plan old new l)) net

-- a moment that was come to is one later than itself
pub later_still : {W : Type 0} (plan : W → TaskPlan) (old new : PassView Entry (Frame W)) → Later plan old new → Later plan new new
later_still plan old new l =
    not_later plan new (subst (λ f. IsHistory (setup_in plan f) new.seen) (sym (same_frame plan old new l)) (subst (IsHistory (setup_in plan old.frame)) (sym l.seen) l.history))

module _ {W G : Type 0} (plan : W → TaskPlan) where
  pub keeps_both : (a b c : WorkerState W G) → LaterState plan a b → KeepsWorker plan a b → KeepsWorker plan b c → KeepsWorker plan a c
  keeps_both a b c l one two hash d runs w = two hash d (runs_later plan hash d a b l runs) (one hash d runs w)

  -- the status is that of what the pass has seen
  pub told_state : (old new : WorkerState W G) (s : Status) → Later plan old.session.client.pass new.session.client.pass → s ≡ status (setup_in plan old.session.client.pass.frame) (state_seen plan new.session.client.pass) →
      s ≡ status (setup_in plan new.session.client.pass.frame) (state_seen plan new.session.client.pass)
  told_state old new s l is = is ∙ ap (λ f. status (setup_in plan f) (state_seen plan new.session.client.pass)) (sym (same_frame plan old.session.client.pass new.session.client.pass l))

  -- a later moment of its client alone
  pub acts_on : (hash : List ℕ → ℕ) (lock : TableId) (d : DraftView) (s : WorkerState W G) (client : ClusterClient W G) → MayAct plan hash lock d s → Later plan s.session.client.pass client.pass →
      client.gate ≡ s.session.client.gate → MayAct plan hash lock d (record s { session = record s.session { client = client } })
  acts_on hash lock d s client may l gate =
      may_act_on plan hash lock d s (record s { session = record s.session { client = client } }) may (record { later = l; number = refl; instance = refl; cache = refl }) gate
      (worker_later plan s.session.client.pass client.pass l may.call.network d s.member s.session.last s.session.numbers.items s.tasks.items s.replicas.items may.worker)

-- its own generation is the same
pub still_rested : (old new : Member) (b : Bool) (generation : ℕ) → new ≡ record old { is_member = b } → new.generation < generation → old.generation < generation
still_rested old new b generation is lt = subst (λ (m : Member). m.generation < generation) is lt
