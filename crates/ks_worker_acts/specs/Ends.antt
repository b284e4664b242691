-- What a commit of its tasks makes of a worker.
use Rattle.std.specs.Prelude.{◌≡◌, ◌≢◌, ◌⊎◌, List, []}
use Rattle.std.specs.List.{All}
use Rattle.ks_plan.specs.Drafts.{DraftView}
use Rattle.ks_history.specs.Machine.{TaskPlan}
use Rattle.ks_history.specs.State.{pending_of}
use Rattle.ks_law_restore.specs.Views.{WorkView}
use Rattle.ks_commit.specs.Sending.{pendings_of}
use Rattle.ks_shared.specs.Calls.{setup_in}
use Rattle.ks_worker_client.specs.declared.member.Member.{Member}
use Rattle.ks_worker_commit.specs.declared.outcome.Outcome.{Outcome}
use Rattle.ks_worker_commit.specs.declared.outcome.Outcome.TheVariants.{Aborted as IsAborted, Fenced, Touched}
use Rattle.ks_worker_commit.specs.Ends.{IsCommitted, IsEnded}
use Rattle.ks_worker_commit.specs.Leaves.{HasNoMarker}
use Rattle.ks_worker_state.specs.declared.state.WorkerState.{WorkerState}
use Rattle.ks_worker_state.specs.Worker.{lost}
use Rattle.ks_worker_acts.specs.declared.commit.commit_end.CommitEnd.{CommitEnd}
use Rattle.ks_worker_acts.specs.declared.commit.commit_end.CommitEnd.TheVariants.{Clean, Committed, Aborted, Crashed}
use Rattle.ks_worker_acts.specs.Works.{IsCleanTask, AreWorksOf, AreCleanOf}
use Rattle.ks_worker_acts.specs.Told.{AreTold}

-- nothing was to be committed
pub record WasClean {W G : Type 0} (old new : WorkerState W G) : Type 0 where
  pub clean : All IsCleanTask old.tasks.items
  pub same : new ≡ old

-- these works, at least one, are those of the worker's dirty tasks
pub record AreWorks {W G : Type 0} (plan : W → TaskPlan) (s : WorkerState W G) (works : List WorkView) : Type 0 where
  pub of_tasks : AreWorksOf (setup_in plan s.session.client.pass.frame).plan s.tasks.items works
  pub some : works ≢ []

-- it is the same member, with the same replicas
pub record StaysMember {W G : Type 0} (old new : WorkerState W G) : Type 0 where
  pub member : new.member ≡ old.member
  pub replicas : new.replicas ≡ old.replicas

-- its tasks' positions are committed, each dirty task knows it, and none is dirty any more
pub record HasCommittedTasks {W G : Type 0} (plan : W → TaskPlan) (d : DraftView) (old new : WorkerState W G) : Type 0 where
  pub works : List WorkView
  pub are : AreWorks plan old works
  pub committed : IsCommitted plan old.session.client.pass new.session.client.pass old.member.number old.member.epoch (λ t. pending_of t (pendings_of works))
  pub told : AreTold d new.session.ends.items old.tasks.items new.tasks.items
  pub clean : All IsCleanTask new.tasks.items
  pub stays : StaysMember old new

-- the journal has one of the five ends of a commit of these works, which came to this, and no commit of the worker's own was accepted
pub record HasOneEnd {W G : Type 0} (plan : W → TaskPlan) (old new : WorkerState W G) (o : Outcome) : Type 0 where
  pub works : List WorkView
  pub are : AreWorks plan old works
  pub case : IsEnded plan old.session.client.pass new.session.client.pass old.member.number old.member.epoch old.member.generation old.session.last (λ t. pending_of t (pendings_of works)) o

-- none of its requests was refused by `Fenced`; it has only its clean tasks any more, and no marker of it waits
pub record HasDroppedDirty {W G : Type 0} (plan : W → TaskPlan) (old new : WorkerState W G) : Type 0 where
  pub end : HasOneEnd plan old new IsAborted
  pub kept : AreCleanOf old.tasks.items new.tasks.items
  pub marked : HasNoMarker (setup_in plan old.session.client.pass.frame) new.session.client.pass.seen old.member.number
  pub stays : StaysMember old new

-- it has nothing any more, and its producer remembers nothing
pub record HasLostAll {W G : Type 0} (m : Member) (new : WorkerState W G) : Type 0 where
  pub member : new.member ≡ lost m
  pub tasks : new.tasks.items ≡ []
  pub replicas : new.replicas.items ≡ []
  pub last : new.session.last ≡ 0
  pub numbers : new.session.numbers.items ≡ []

-- one of its requests was refused by `Fenced`, or somebody else used its number
pub record HasCrashed {W G : Type 0} (plan : W → TaskPlan) (old new : WorkerState W G) : Type 0 where
  pub end : HasOneEnd plan old new Fenced ⊎ HasOneEnd plan old new Touched
  pub all : HasLostAll old.member new

abbrev pub HasEnded : {W G : Type 0} → (W → TaskPlan) → DraftView → WorkerState W G → WorkerState W G → CommitEnd → Type 0
HasEnded plan d old new Clean = WasClean old new
HasEnded plan d old new Committed = HasCommittedTasks plan d old new
HasEnded plan d old new Aborted = HasDroppedDirty plan old new
HasEnded plan d old new Crashed = HasCrashed plan old new
