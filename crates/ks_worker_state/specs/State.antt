-- A worker's state as a whole: what each part of its turn asks of it, and what it leaves (Kafka Streams: a StreamThread's run loop).
use Rattle.std.specs.Prelude.{◌≡◌, ℕ, List}
use Rattle.atomic_table.specs.Seated.{TableId}
use Rattle.ks_plan.specs.Drafts.{DraftView}
use Rattle.ks_history.specs.Machine.{TaskPlan}
use Rattle.ks_shared.specs.Calls.{setup_in}
use Rattle.ks_worker_client.specs.Calls.{MayCall, Later}
use Rattle.ks_worker_state.specs.declared.state.WorkerState.{WorkerState}
pub use Rattle.ks_worker_state.specs.Names.{task_names, replica_names}
use Rattle.ks_worker_state.specs.Topology.{RunsTopology}
use Rattle.ks_worker_state.specs.Worker.{IsWorker}

-- it is a worker's, by what its pass has seen
abbrev pub IsWorkerState : {W G : Type 0} → (W → TaskPlan) → DraftView → WorkerState W G → Type 0
IsWorkerState plan d s = IsWorker plan d s.session.client.pass s.member s.session.last s.session.numbers.items s.tasks.items s.replicas.items

-- the worker may call the cluster of this lock, which runs the topology's tasks
pub record MayAct {W G : Type 0} (plan : W → TaskPlan) (hash : List ℕ → ℕ) (lock : TableId) (d : DraftView) (s : WorkerState W G) : Type 0 where
  pub call : MayCall plan lock s.session.client.pass s.session.client.gate
  pub topology : RunsTopology hash d (setup_in plan s.session.client.pass.frame)
  pub worker : IsWorkerState plan d s

-- whatever came of a part of a turn: a later moment of the worker's pass, and the same number, instance and cache
pub record LaterState {W G : Type 0} (plan : W → TaskPlan) (old new : WorkerState W G) : Type 0 where
  pub later : Later plan old.session.client.pass new.session.client.pass
  pub number : new.member.number ≡ old.member.number
  pub instance : new.member.instance ≡ old.member.instance
  pub cache : new.member.cache ≡ old.member.cache

-- it knows of itself and its producer what it knew
pub record KnowsTheSame {W G : Type 0} (old new : WorkerState W G) : Type 0 where
  pub member : new.member ≡ old.member
  pub last : new.session.last ≡ old.session.last
  pub numbers : new.session.numbers.items ≡ old.session.numbers.items
