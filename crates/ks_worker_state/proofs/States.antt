-- A worker's state from one part of a turn to the next.
use Rattle.std.proofs.Common.{◌≡◌, ℕ, List, refl, sym, subst, ◌∙◌}
use Rattle.atomic_table.specs.Seated.{TableId}
use Rattle.ks_plan.specs.Drafts.{DraftView}
use Rattle.ks_history.specs.Machine.{TaskPlan}
use Rattle.ks_shared.specs.Calls.{setup_in}
use Rattle.ks_worker_client.proofs.Moments.{same_frame, may_later, later_twice, not_later}
use Rattle.ks_worker_client.specs.Calls.{MayCall}
use Rattle.ks_worker_state.specs.declared.state.WorkerState.{WorkerState}
use Rattle.ks_worker_state.specs.Topology.{RunsTopology}
use Rattle.ks_worker_state.specs.State.{IsWorkerState, MayAct, LaterState}

module _ {W G : Type 0} (plan : W → TaskPlan) where
  pub runs_later : (hash : List ℕ → ℕ) (d : DraftView) (old new : WorkerState W G) → LaterState plan old new → RunsTopology hash d (setup_in plan old.session.client.pass.frame) → RunsTopology hash d (setup_in plan new.session.client.pass.frame)
  runs_later hash d old new l runs = subst (λ f. RunsTopology hash d (setup_in plan f)) (sym (same_frame plan old.session.client.pass new.session.client.pass l.later)) runs

  -- where the gate counted nothing and the worker is one, it may go on
  pub may_act_on : (hash : List ℕ → ℕ) (lock : TableId) (d : DraftView) (old new : WorkerState W G) → MayAct plan hash lock d old → LaterState plan old new → new.session.client.gate ≡ old.session.client.gate → IsWorkerState plan d new →
      MayAct plan hash lock d new
  may_act_on hash lock d old new may l gate is = record {
    call = may_later plan lock old.session.client.pass new.session.client.pass old.session.client.gate new.session.client.gate l.later gate may.call;
    topology = runs_later hash d old new l may.topology;
    worker = is;
  }

  pub state_later_twice : (old mid new : WorkerState W G) → LaterState plan old mid → LaterState plan mid new → LaterState plan old new
  state_later_twice old mid new l k = record {
    later = later_twice plan old.session.client.pass mid.session.client.pass new.session.client.pass l.later k.later;
    number = k.number ∙ l.number;
    instance = k.instance ∙ l.instance;
    cache = k.cache ∙ l.cache;
  }

  pub same_state : (lock : TableId) (s : WorkerState W G) → MayCall plan lock s.session.client.pass s.session.client.gate → LaterState plan s s
  same_state lock s may = record { later = not_later plan s.session.client.pass may.history; number = refl; instance = refl; cache = refl }
