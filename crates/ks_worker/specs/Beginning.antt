-- A worker before its first turn, and when it may take turns.
use Rattle.std.specs.Prelude.{◌≡◌, ◌≤◌, ◌<◌, ◌+◌, ◌-◌, ◌^◌, ℕ, false, List, []}
use Rattle.atomic_table.specs.Seated.{TableId}
use Rattle.ks_plan.specs.Drafts.{DraftView}
use Rattle.ks_history.specs.Machine.{TaskPlan}
use Rattle.ks_shared.specs.Calls.{setup_in}
use Rattle.ks_assign.specs.declared.clients.Placing.{Placing}
use Rattle.ks_cluster.specs.Placed.{PlacementTest}
use Rattle.ks_worker_client.specs.Turns.{GateCounts}
use Rattle.ks_worker_client.specs.Calls.{MayCall}
use Rattle.ks_worker_state.specs.declared.state.WorkerState.{WorkerState}
use Rattle.ks_worker_state.specs.Topology.{RunsTopology}
use Rattle.ks_worker_state.specs.State.{MayAct}
use Rattle.ks_worker_turn.specs.Placing.{PlacesBy}

-- it knows nothing and has nothing
pub record IsNew {W G : Type 0} (number instance : ℕ) (s : WorkerState W G) : Type 0 where
  pub member : s.member ≡ record { number = number; instance = instance; epoch = 0; generation = 0; is_member = false; cache = s.member.cache }
  pub last : s.session.last ≡ 0
  pub numbers : s.session.numbers.items ≡ []
  pub tasks : s.tasks.items ≡ []
  pub replicas : s.replicas.items ≡ []

-- the gate can count so many turns
pub record HasRoomForTurns (c : GateCounts) (turns : ℕ) : Type 0 where
  pub asked : c.asked + turns < 2 ^ 64 - 1
  pub stops : c.stops + turns < 2 ^ 64 - 1
  pub calls : c.calls + turns < 2 ^ 64 - 1
  pub cuts : c.cuts + turns < 2 ^ 64 - 1

-- the worker may act on the cluster of this lock, for which its placing serves, and its gate can count so many turns
pub record MayRun {W G : Type 0} (plan : W → TaskPlan) (good : W → PlacementTest) (hash : List ℕ → ℕ) (lock : TableId) (d : DraftView) (placing : Placing) (turns : ℕ) (s : WorkerState W G) : Type 0 where
  pub act : MayAct plan hash lock d s
  pub serves : PlacesBy good placing d s.session.client.pass.frame
  pub room : HasRoomForTurns s.session.client.gate turns
