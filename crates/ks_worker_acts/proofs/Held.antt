-- The tasks of a worker are its own after a commit or an abort.
use Rattle.std.proofs.Common.{◌≡◌, inl, inr, ℕ, ◌<◌, true, List, length, get_or, sym, ap, subst, ◌∙◌, arith, cond}
use Rattle.std.specs.List.{All}
use Rattle.ks_record.specs.declared.record.PartId.{PartId}
use Rattle.ks_record.specs.declared.record.TaskId.{TaskId}
use Rattle.ks_plan.specs.Drafts.{DraftView}
use Rattle.ks_plan.specs.Plan.{plan_of}
use Rattle.ks_plan.specs.Infos.{changelog_numbers}
use Rattle.ks_history.specs.declared.journal.Entry.{Entry}
use Rattle.ks_history.specs.Machine.{has_topic}
use Rattle.ks_history.specs.State.{Setup, offset_in}
use Rattle.ks_history.specs.Follows.{TaskView}
use Rattle.ks_law_restore.specs.Views.{WorkView}
use Rattle.ks_law_commit.specs.Held.{IsHeld}
use Rattle.ks_task.specs.declared.task.Task.{Task}
use Rattle.ks_task.specs.Tasks.{task_view}
use Rattle.ks_task.specs.Views.{own_ends}
use Rattle.ks_task.proofs.Viewing.{own_offset}
use Rattle.ks_worker_client.specs.declared.member.Member.{Member}
use Rattle.ks_worker_commit.specs.Leaves.{ends_for, TellTheSame, RestsAreHeld, WorkedAreHeld}
use Rattle.ks_worker_state.specs.Tasks.{IsHeldTask}
use Rattle.ks_worker_state.specs.Worker.{HaveOwnNames}
use Rattle.ks_worker_acts.specs.Works.{IsCleanTask, IsDirtyTask, AreWorksOf, AreCleanOf}
use Rattle.ks_worker_acts.specs.Told.{IsCommittedTask, IsToldTask, AreTold}
use Rattle.ks_worker_acts.proofs.Works.{HasWork, clean_rests, dirty_has}
use Rattle.ks_worker_acts.proofs.Told.{kept_all}

module _ (setup : Setup) (journal now : List Entry) (d : DraftView) (m : Member) (last next : ℕ) (fs : List WorkView) (rests : RestsAreHeld setup journal now m last next fs)
    (ts : List Task) (names : HaveOwnNames ts) (held : All (IsHeldTask d setup journal m last) ts) (are : AreWorksOf setup.plan ts fs) where
  -- a clean one
  clean_held : (k : ℕ) (t : Task) → k < length ts → IsCleanTask (get_or ts k t) → IsHeldTask d setup now m next (get_or ts k t)
  clean_held k t lt clean =
      let own = held k t lt in
      record { of = own.of; held = rests (task_view (get_or ts k t)) (clean_rests setup.plan ts fs k t names are lt clean) own.held; inside = own.inside; cache = own.cache }

  pub kept_held : (xs : List Task) → AreCleanOf ts xs → All (IsHeldTask d setup now m next) xs
  kept_held xs kept = kept_all (IsHeldTask d setup now m next) ts xs kept clean_held

  module _ (ends : List (TaskId × PartId × ℕ)) (worked : WorkedAreHeld setup journal now m last next fs ends) (logs : (sub : ℕ) → setup.plan.changelogs sub ≡ changelog_numbers (plan_of d) sub) where
    -- the ends of its own changelogs tell of these what all do
    own_tell : (t : TaskId) (all : List (ℕ × ℕ)) → TellTheSame setup t (own_ends (changelog_numbers (plan_of d) t.sub) all) all
    own_tell t all topic old there =
        own_offset (changelog_numbers (plan_of d) t.sub) topic old all ∙ ap (λ b. cond b (offset_in old topic all) old) (subst (λ l. has_topic topic l ≡ true) (logs t.sub) there)

    committed_held : (k : ℕ) (t new : Task) → k < length ts → IsDirtyTask (get_or ts k t) → IsCommittedTask d ends (get_or ts k t) new → IsHeldTask d setup now m next new
    committed_held k t new lt dirty c =
        let old : Task = get_or ts k t in
        let has : HasWork setup.plan old fs = dirty_has setup.plan ts fs k t are lt dirty in
        record {
          of = c.of;
          held = subst (IsHeld setup now m.number m.generation next) (sym c.view)
              (worked (task_view old) has.work (own_ends (changelog_numbers (plan_of d) (task_view old).task.sub) (ends_for (task_view old).task ends)) has.one has.frozen
              (own_tell (task_view old).task (ends_for (task_view old).task ends)) (held k t lt).held);
          inside = λ sends q some. absurd (some (ap (λ (v : TaskView). v.made q) c.view));
          cache = c.cache ∙ (held k t lt).cache;
        }

    pub told_held : (xs : List Task) → AreTold d ends ts xs → All (IsHeldTask d setup now m next) xs
    told_held xs told k t lt = by (told.told k t inside)
      where
        inside : k < length ts
        inside = omega (arith, lt, told.count)

        by : IsToldTask d ends (get_or ts k t) (get_or xs k t) → IsHeldTask d setup now m next (get_or xs k t)
        by (inl c) = subst (IsHeldTask d setup now m next) (sym c.1) (clean_held k t inside c.0)
        by (inr w) = committed_held k t (get_or xs k t) inside w.0 w.1
