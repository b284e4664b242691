-- What an act did, from the clauses of its call.
use Rattle.std.proofs.Common.{◌≡◌, ◌⊎◌, inl, inr, ℕ, Bool, true, false, List, [], Result, Ok, Err, refl}
use Rattle.std.specs.Prelude.{OnOk}
use Rattle.ks_history.specs.declared.journal.Entry.{Entry}
use Rattle.ks_history.specs.declared.journal.Request.{Request}
use Rattle.ks_history.specs.Machine.{TaskPlan}
use Rattle.ks_growing.specs.Passes.{PassView}
use Rattle.ks_shared.specs.declared.state.Frame.{Frame}
use Rattle.ks_shared.specs.Calls.{setup_in}
use Rattle.ks_worker_state.specs.Gained.{HasMade}
use Rattle.ks_worker_state.specs.declared.state.WorkerState.{WorkerState}
use Rattle.ks_worker_state.specs.State.{KnowsTheSame, task_names, replica_names}
use Rattle.ks_worker_acts.specs.Feeds.{AreFed, marks_of}
use Rattle.ks_worker_acts.specs.Inputs.{HaveReadOn, HasMoved, HaveReadAll}
use Rattle.ks_worker_acts.specs.Picking.{HasPicked}
use Rattle.ks_worker.specs.Acts.{HasWorked, HasPumped}

module _ {W G : Type 0} (plan : W → TaskPlan) (old new : WorkerState W G) where
  -- the tasks read, where one moved or none
  pub has_worked : (pick : ℕ) (moved : Bool) → KnowsTheSame old new → new.session.client.pass.made ≡ old.session.client.pass.made → new.replicas ≡ old.replicas → task_names new.tasks.items ≡ task_names old.tasks.items →
      HaveReadOn old.tasks.items new.tasks.items → (moved ≡ true → HasMoved old.tasks.items new.tasks.items) → (moved ≡ true → HasPicked plan pick old new) →
      (moved ≡ false → new.tasks.items ≡ old.tasks.items) → (moved ≡ false → HaveReadAll (setup_in plan old.session.client.pass.frame) old.session.client.pass.seen new.tasks.items) → HasWorked plan pick old new
  has_worked pick moved same made replicas names read moves first stays dry = record {
    same = same;
    made = made;
    replicas = replicas;
    names = names;
    read = read;
    either = by moved moves first stays dry;
  }
    where
      by : (b : Bool) → (b ≡ true → HasMoved old.tasks.items new.tasks.items) → (b ≡ true → HasPicked plan pick old new) →
          (b ≡ false → new.tasks.items ≡ old.tasks.items) → (b ≡ false → HaveReadAll (setup_in plan old.session.client.pass.frame) old.session.client.pass.seen new.tasks.items) →
          (HasMoved old.tasks.items new.tasks.items × HasPicked plan pick old new)
          ⊎ ((new.tasks.items ≡ old.tasks.items) × HaveReadAll (setup_in plan old.session.client.pass.frame) old.session.client.pass.seen new.tasks.items)
      by true m f s d = inl (m refl, f refl)
      by false m f s d = inr (s refl, d refl)

  -- the replicas were fed
  pub has_pumped : {A E : Type 0} (waiting : ℕ) (r : Result A E) → KnowsTheSame old new → new.tasks ≡ old.tasks → OnOk r (replica_names new.replicas.items ≡ replica_names old.replicas.items) →
      OnOk r (AreFed (setup_in plan old.session.client.pass.frame) old.session.client.pass.seen old.replicas.items new.replicas.items) →
      OnOk r (HasMade old.session.client.pass new.session.client.pass (marks_of waiting)) → OnOk r (HasPumped plan waiting old new)
  has_pumped waiting (Ok x) same tasks names fed made = record {
    same = same;
    made = made;
    tasks = tasks;
    names = names;
    fed = fed;
  }
  has_pumped waiting (Err e) same tasks names fed made = tt
