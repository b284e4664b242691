-- A worker that goes on, with one turn less.
use Rattle.std.proofs.Common.{◌≡◌, ◌≤◌, ◌+◌, ℕ, List, inl, inr, ap, arith}
use Rattle.atomic_table.specs.Seated.{TableId}
use Rattle.ks_plan.specs.Drafts.{DraftView}
use Rattle.ks_history.specs.Machine.{TaskPlan}
use Rattle.ks_cluster.specs.Placed.{PlacementTest}
use Rattle.ks_assign.specs.declared.clients.Placing.{Placing}
use Rattle.ks_worker_client.specs.Turns.{GateCounts}
use Rattle.ks_worker_state.specs.declared.state.WorkerState.{WorkerState}
use Rattle.ks_worker_state.specs.State.{IsWorkerState, LaterState}
use Rattle.ks_worker.specs.Beginning.{MayRun}
use Rattle.ks_worker.specs.Running.{HasCounted, IsCutOnce}
use Rattle.ks_worker.proofs.Turning.{may_run_on}

pub counted_cut : (a b : GateCounts) → IsCutOnce a b → HasCounted a b 1
counted_cut a b (inl same) =
    let asked : b.asked ≡ a.asked = ap (λ (k : GateCounts). k.asked) same in
    let stops : b.stops ≡ a.stops = ap (λ (k : GateCounts). k.stops) same in
    let calls : b.calls ≡ a.calls = ap (λ (k : GateCounts). k.calls) same in
    let cuts : b.cuts ≡ a.cuts = ap (λ (k : GateCounts). k.cuts) same in
    record { asked = omega arith; stops = omega arith; calls = omega arith; cuts = omega arith; asked_most = omega arith; stops_most = omega arith; calls_most = omega arith; cuts_most = omega arith }
counted_cut a b (inr cut) =
    let asked : b.asked ≡ a.asked = ap (λ (k : GateCounts). k.asked) cut in
    let stops : b.stops ≡ a.stops = ap (λ (k : GateCounts). k.stops) cut in
    let calls : b.calls ≡ a.calls = ap (λ (k : GateCounts). k.calls) cut in
    let cuts : b.cuts ≡ a.cuts + 1 = ap (λ (k : GateCounts). k.cuts) cut in
    record { asked = omega arith; stops = omega arith; calls = omega arith; cuts = omega arith; asked_most = omega arith; stops_most = omega arith; calls_most = omega arith; cuts_most = omega arith }

module _ {W G : Type 0} (plan : W → TaskPlan) (good : W → PlacementTest) (hash : List ℕ → ℕ) (lock : TableId) (d : DraftView) (placing : Placing) (turns : ℕ) (old : WorkerState W G)
    (may : MayRun plan good hash lock d placing turns old) (some : 1 ≤ turns) where
  pub may_once : MayRun plan good hash lock d placing 1 old
  may_once = record {
    act = may.act;
    serves = may.serves;
    room = record {
      asked = omega (arith, may.room.asked, some);
      stops = omega (arith, may.room.stops, some);
      calls = omega (arith, may.room.calls, some);
      cuts = omega (arith, may.room.cuts, some);
    };
  }

  pub goes_on : (left : ℕ) (new : WorkerState W G) (now : Placing) → left + 1 ≡ turns → now ≡ placing → LaterState plan old new → IsWorkerState plan d new → HasCounted old.session.client.gate new.session.client.gate 1 →
      MayRun plan good hash lock d now left new
  goes_on left new now e same l worker counts = may_run_on plan good hash lock d placing now turns 1 left old new may l same worker counts (omega (arith, e))
