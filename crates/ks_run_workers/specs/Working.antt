-- A team before it works, and after it.
use Rattle.std.specs.Prelude.{◌≡◌, ◌<◌, ℕ, Bool, false, IfSome, List, length, slice_index_or}
use Rattle.std.specs.List.{All, list_any}
use Rattle.atomic_table.specs.Seated.{TableId}
use Rattle.ks_plan.specs.Drafts.{DraftView}
use Rattle.ks_history.specs.Machine.{TaskPlan}
use Rattle.ks_cluster.specs.Placed.{PlacementTest}
use Rattle.ks_worker_state.specs.State.{IsWorkerState}
use Rattle.ks_worker.specs.Beginning.{MayRun}
use Rattle.ks_worker.specs.Running.{HasCounted, HasEndedBy, ShowsCalls}
use Rattle.ks_worker.specs.Turns.{HasTakenTurns}
use Rattle.ks_worker.specs.declared.worker.Worker.{Worker}
use Rattle.ks_run_feed.specs.declared.feeding.JobFeed.{JobFeed}
use Rattle.ks_run_feed.specs.Feeding.{MayFeed}
use Rattle.ks_run_workers.specs.Asking.{MayAsk}
use Rattle.ks_run_workers.specs.declared.working.WorkerThread.{WorkerThread}
use Rattle.ks_run_workers.specs.declared.working.Team.{Team}

-- there are workers, each may take its turns on the cluster of this lock, the feeder may feed it, and who asks may ask it
pub record MayWork {W G : Type 0} (plan : W → TaskPlan) (good : W → PlacementTest) (hash : List ℕ → ℕ) (lock : TableId) (d : DraftView) (team : Team W G) (feeder : JobFeed W) : Type 0 where
  pub some : 0 < length team.crew.threads.members.items
  pub may : All (λ m. MayRun plan good hash lock d m.worker.placing team.crew.threads.turns m.worker.state) team.crew.threads.members.items
  pub feed : MayFeed plan lock d feeder
  pub ask : IfSome team.crew.asker (MayAsk plan lock d)

-- a worker took its turns, one after another: it is one still, its gate stopped it or it took all of them, and its acts on the group
-- show
pub record HasTurned {W G : Type 0} (plan : W → TaskPlan) (d : DraftView) (turns : ℕ) (old new : Worker W G) : Type 0 where
  pub worker : IsWorkerState plan d new.state
  pub taken : HasTakenTurns plan d turns old new
  pub counts : HasCounted old.state.session.client.gate new.state.session.client.gate turns
  pub ended : HasEndedBy turns old.state.session.client.gate new.state.session.client.gate
  pub shown : ShowsCalls old.state.member.number old.state.session.client.pass new.state.session.client.pass
      old.state.session.client.gate new.state.session.client.gate

-- a member that isn't marked as starved took its turns
pub record TurnedUnlessStarved {W G : Type 0} (plan : W → TaskPlan) (d : DraftView) (turns : ℕ) (old new : WorkerThread W G) : Type 0 where
  pub turned : new.is_starved ≡ false → HasTurned plan d turns old.worker new.worker

-- and so did each of these members
pub record AllTurnedUnlessStarved {W G : Type 0} (plan : W → TaskPlan) (d : DraftView) (turns : ℕ) (old new : List (WorkerThread W G)) : Type 0 where
  pub each : (k : ℕ) (m : WorkerThread W G) → k < length old →
      TurnedUnlessStarved plan d turns (slice_index_or old k m) (slice_index_or new k m)

-- whether one of them is marked as starved
abbrev pub is_one_starved : {W G : Type 0} → List (WorkerThread W G) → Bool
is_one_starved ms = list_any (λ m. m.is_starved) ms

-- no member is marked as starved, and each took its turns
pub record HaveTurned {W G : Type 0} (plan : W → TaskPlan) (d : DraftView) (turns : ℕ) (old new : List (WorkerThread W G)) : Type 0 where
  pub nobody : All (λ m. m.is_starved ≡ false) new
  pub turned : (k : ℕ) (m : WorkerThread W G) → k < length old →
      HasTurned plan d turns (slice_index_or old k m).worker (slice_index_or new k m).worker
