-- What each act does to a worker (Kafka Streams: one pass of a StreamThread's run loop).
use Rattle.std.specs.Prelude.{◌≡◌, ◌≢◌, ◌⊎◌, ◌≤◌, ◌<◌, ℕ, List, [], ◌∷◌, ◌++◌}
use Rattle.std.specs.List.{filter}
use Rattle.ks_record.specs.declared.record.TaskId.{TaskId}
use Rattle.ks_edge.specs.declared.gate.Act.{Act}
use Rattle.ks_edge.specs.declared.gate.Act.TheVariants.{Work, Commit, Abort, Crash, Leave, Pump, Probe, Evict, Stop}
use Rattle.ks_plan.specs.Drafts.{DraftView}
use Rattle.ks_plan.specs.Plan.{plan_of}
use Rattle.ks_plan.specs.Infos.{changelog_numbers}
use Rattle.ks_history.specs.Machine.{TaskPlan}
use Rattle.ks_history.specs.declared.journal.Request.TheVariants.{Expire, Hold, Probe as ProbeOf}
use Rattle.ks_shared.specs.Calls.{setup_in}
use Rattle.ks_worker_state.specs.declared.state.WorkerState.{WorkerState}
use Rattle.ks_worker_state.specs.Worker.{lost}
use Rattle.ks_worker_state.specs.State.{KnowsTheSame, task_names, replica_names}
use Rattle.ks_worker_acts.specs.Inputs.{HaveReadOn, HasMoved, HaveReadAll}
use Rattle.ks_worker_acts.specs.Picking.{HasPicked}
use Rattle.ks_worker_acts.specs.Feeds.{AreFed, marks_of}
use Rattle.ks_worker_state.specs.Gained.{HasMade}
use Rattle.ks_worker_acts.specs.Telling.{is_clean_task, outside, parks, positions_held}
use Rattle.ks_worker_acts.specs.declared.commit.commit_end.CommitEnd.{CommitEnd}
use Rattle.ks_worker_acts.specs.Ends.{HasEnded}

-- it read, and wrote nothing: an input position rose, or its tasks stayed as they were, and nothing stable of what its pass had seen is left
pub record HasWorked {W G : Type 0} (plan : W → TaskPlan) (pick : ℕ) (old new : WorkerState W G) : Type 0 where
  pub same : KnowsTheSame old new
  pub made : new.session.client.pass.made ≡ old.session.client.pass.made
  pub replicas : new.replicas ≡ old.replicas
  pub names : task_names new.tasks.items ≡ task_names old.tasks.items
  pub read : HaveReadOn old.tasks.items new.tasks.items
  pub either : (HasMoved old.tasks.items new.tasks.items × HasPicked plan pick old new)
      ⊎ ((new.tasks.items ≡ old.tasks.items) × HaveReadAll (setup_in plan old.session.client.pass.frame) old.session.client.pass.seen new.tasks.items)

-- it fed its replicas, and where so many markers waited it wrote one of each producer: each position rose, or nothing stable of what
-- its pass had seen is left
pub record HasPumped {W G : Type 0} (plan : W → TaskPlan) (waiting : ℕ) (old new : WorkerState W G) : Type 0 where
  pub same : KnowsTheSame old new
  pub made : HasMade old.session.client.pass new.session.client.pass (marks_of waiting)
  pub tasks : new.tasks ≡ old.tasks
  pub names : replica_names new.replicas.items ≡ replica_names old.replicas.items
  pub fed : AreFed (setup_in plan old.session.client.pass.frame) old.session.client.pass.seen old.replicas.items new.replicas.items

-- it dropped its dirty tasks
pub record HasAborted {W G : Type 0} (old new : WorkerState W G) : Type 0 where
  pub member : new.member ≡ old.member
  pub session : new.session ≡ old.session
  pub replicas : new.replicas ≡ old.replicas
  pub tasks : new.tasks.items ≡ filter is_clean_task old.tasks.items

-- it lost all that it had, and what it knew
pub record HasLostAll {W G : Type 0} (old new : WorkerState W G) : Type 0 where
  pub member : new.member ≡ lost old.member
  pub last : new.session.last ≡ 0
  pub tasks : new.tasks.items ≡ []
  pub replicas : new.replicas.items ≡ []

-- it lost all, and made no request
pub record HasForgotten {W G : Type 0} (old new : WorkerState W G) : Type 0 where
  pub all : HasLostAll old new
  pub client : new.session.client ≡ old.session.client

-- it parked its replicas and those of its clean tasks, removed itself, made no other request, and is no member any more
pub record HasLeft {W G : Type 0} (old new : WorkerState W G) : Type 0 where
  pub member : new.member ≡ outside old.member
  pub tasks : new.tasks.items ≡ []
  pub replicas : new.replicas.items ≡ []
  pub made : HasMade old.session.client.pass new.session.client.pass
      (parks old.member.instance (replica_names old.replicas.items ++ task_names (filter is_clean_task old.tasks.items))
      ++ Expire old.member.number ∷ [])

-- what it has and knows is the same
pub record HasTheSame {W G : Type 0} (old new : WorkerState W G) : Type 0 where
  pub same : KnowsTheSame old new
  pub tasks : new.tasks ≡ old.tasks
  pub replicas : new.replicas ≡ old.replicas

-- it told its positions, asked for a new generation, and made no other request
pub record HasProbed {W G : Type 0} (d : DraftView) (old new : WorkerState W G) : Type 0 where
  pub same : HasTheSame old new
  pub made : HasMade old.session.client.pass new.session.client.pass
      (Hold old.member.number (positions_held (changelog_numbers (plan_of d)) old.tasks.items old.replicas.items)
      ∷ ProbeOf old.member.number old.member.generation ∷ [])

-- it removed a worker from the group, and made no other request
pub record HasEvicted {W G : Type 0} (w : ℕ) (old new : WorkerState W G) : Type 0 where
  pub same : HasTheSame old new
  pub made : w ≤ 15 → HasMade old.session.client.pass new.session.client.pass (Expire w ∷ [])
  pub none : 15 < w → new.session.client.pass.made ≡ old.session.client.pass.made

-- what each act does, of a worker that was told that so many markers waited
abbrev pub Does : {W G : Type 0} → (W → TaskPlan) → DraftView → ℕ → Act → WorkerState W G → WorkerState W G → Type 0
Does plan d waiting (Work pick) old new = HasWorked plan pick old new
Does plan d waiting Commit old new = (end : CommitEnd) × HasEnded plan d old new end
Does plan d waiting Abort old new = HasAborted old new
Does plan d waiting Crash old new = HasForgotten old new
Does plan d waiting Leave old new = HasLeft old new
Does plan d waiting Pump old new = HasPumped plan waiting old new
Does plan d waiting Probe old new = HasProbed d old new
Does plan d waiting (Evict w) old new = HasEvicted w old new
Does plan d waiting Stop old new = new ≡ old
