-- Tasks after a commit: each that had work is told where its changelogs end; the others are as they were.
use Rattle.std.proofs.Common.{◌≡◌, ℕ, ◌+◌, Bool, true, false, cond, List, [], ◌∷◌, ◌++◌, refl, sym, ap, subst, ◌∙◌, Option, Some, None}
use Rattle.std.specs.Prelude.{option_map, ◌==◌}
use Rattle.std.proofs.lemmas.Bool.{true≢false, eqb-true}
use Rattle.ks_record.specs.declared.record.TaskId.{TaskId}
use Rattle.ks_record.specs.Parts.{same_task}
use Rattle.ks_plan.specs.Drafts.{DraftView}
use Rattle.ks_plan.specs.Plan.{plan_of}
use Rattle.ks_plan.specs.Infos.{changelog_numbers}
use Rattle.ks_def_tasks.proofs.Names.{same_task-is}
use Rattle.ks_history.specs.declared.journal.Entry.{Entry}
use Rattle.ks_history.specs.Machine.{IsNetwork, part_of, has_topic}
use Rattle.ks_history.specs.State.{State, Setup, pending_of, offset_in}
use Rattle.ks_history.specs.Follows.{TaskView}
use Rattle.ks_history.specs.History.{at, IsHistory}
use Rattle.ks_law_restore.specs.Views.{Stands, WorkView, pending_work, committed_view, AreEnds, IsPast}
use Rattle.ks_law_restore.specs.Commits.{commits_for, commit_by, NoCommit, OneCommit}
use Rattle.ks_law_restore.proofs.Lasting.{longer_stands}
use Rattle.ks_law_restore.proofs.Committing.{committed_stands}
use Rattle.ks_commit.specs.Committed.{EachEnds, tasks_in}
use Rattle.ks_commit.specs.Sending.{pendings_of}
use Rattle.ks_task.specs.Views.{own_ends}
use Rattle.ks_settle.specs.Drained.{work_for, IsToldBy, IsTold, ends_for, told_view, IsDrainedTo, IsFilledTo, ArePublished}
use Rattle.ks_settle.proofs.Topics.{committed_on, stood_on}

pending_is : (t : TaskId) (fs : List WorkView) → pending_of t (pendings_of fs) ≡ option_map pending_work (work_for t fs)
pending_is t [] = refl
pending_is t (f ∷ fs) = by (same_task t f.task) (pending_is t fs)
  where
    by : (b : Bool) → pending_of t (pendings_of fs) ≡ option_map pending_work (work_for t fs) → cond b (Some (pending_work f)) (pending_of t (pendings_of fs)) ≡ option_map pending_work (cond b (Some f) (work_for t fs))
    by true e = refl
    by false e = e

work_named : (t : TaskId) (fs : List WorkView) (f : WorkView) → work_for t fs ≡ Some f → f.task ≡ t
work_named t [] f e = cc
work_named t (g ∷ fs) f e = by (same_task t g.task) refl e (λ n. work_named t fs f n)
  where
    by : (b : Bool) → same_task t g.task ≡ b → cond b (Some g) (work_for t fs) ≡ Some f → (work_for t fs ≡ Some f → f.task ≡ t) → f.task ≡ t
    by true h n more = let is : g ≡ f = cc in ap (λ (x : WorkView). x.task) (sym is) ∙ sym ((same_task-is t g.task).0 h)
    by false h n more = more n

no_ends : (t : TaskId) (fs : List WorkView) (es : List (List (ℕ × ℕ))) → work_for t fs ≡ None → ends_for t (tasks_in fs) es ≡ None
no_ends t [] es e = refl
no_ends t (g ∷ fs) [] e = refl
no_ends t (g ∷ fs) (x ∷ es) e = by (same_task t g.task) e (λ n. no_ends t fs es n)
  where
    by : (b : Bool) → cond b (Some g) (work_for t fs) ≡ None → (work_for t fs ≡ None → ends_for t (tasks_in fs) es ≡ None) → cond b (Some x) (ends_for t (tasks_in fs) es) ≡ None
    by true n more = absurd (cc)
    by false n more = more n

-- the ends of a work
record HasEnds (setup : Setup) (s : State) (t : TaskId) (f : WorkView) (fs : List WorkView) (es : List (List (ℕ × ℕ))) : Type 0 where
  ends : List (ℕ × ℕ)
  is : ends_for t (tasks_in fs) es ≡ Some ends
  are : AreEnds setup s f ends

some_ends : (setup : Setup) (s : State) (t : TaskId) (f : WorkView) (fs : List WorkView) (es : List (List (ℕ × ℕ))) → EachEnds setup s fs es → work_for t fs ≡ Some f → HasEnds setup s t f fs es
some_ends setup s t f [] es each e = absurd (cc)
some_ends setup s t f (g ∷ fs) [] each e = absurd (true≢false (sym each))
some_ends setup s t f (g ∷ fs) (x ∷ es) each e = by (same_task t g.task) refl e (λ n. some_ends setup s t f fs es each.1 n)
  where
    by : (b : Bool) → same_task t g.task ≡ b → cond b (Some g) (work_for t fs) ≡ Some f → (work_for t fs ≡ Some f → HasEnds setup s t f fs es) → HasEnds setup s t f (g ∷ fs) (x ∷ es)
    by true h n more = record { ends = x; is = ap (λ b. cond b (Some x) (ends_for t (tasks_in fs) es)) h; are = let is : g ≡ f = cc in subst (λ y. AreEnds setup s y x) is each.0 }
    by false h n more = let m = more n in record { ends = m.ends; is = ap (λ b. cond b (Some x) (ends_for t (tasks_in fs) es)) h ∙ m.is; are = m.are }

-- ---- the ends of a task's own changelogs tell the same
own_same : (numbers : List ℕ) (old topic : ℕ) (ends : List (ℕ × ℕ)) → has_topic topic numbers ≡ true → offset_in old topic (own_ends numbers ends) ≡ offset_in old topic ends
own_same numbers old topic [] h = refl
own_same numbers old topic (e ∷ es) h = by (has_topic e.0 numbers) refl (own_same numbers old topic es h)
  where
    by : (b : Bool) → has_topic e.0 numbers ≡ b → offset_in old topic (own_ends numbers es) ≡ offset_in old topic es →
        offset_in old topic (cond b (e ∷ own_ends numbers es) (own_ends numbers es)) ≡ cond (topic == e.0) e.1 (offset_in old topic es)
    by true n more = ap (cond (topic == e.0) e.1) more
    by false n more = apart (topic == e.0) refl
      where
        apart : (b : Bool) → (topic == e.0) ≡ b → offset_in old topic (own_ends numbers es) ≡ cond b e.1 (offset_in old topic es)
        apart true s = absurd (true≢false (sym h ∙ ap (λ u. has_topic u numbers) (eqb-true topic e.0 s) ∙ n))
        apart false s = more

own_are : (setup : Setup) (s : State) (f : WorkView) (ends : List (ℕ × ℕ)) → AreEnds setup s f ends → AreEnds setup s f (own_ends (setup.plan.changelogs f.task.sub) ends)
own_are setup s f ends a = record {
  named = λ topic old h some. subst (IsPast s (part_of topic f.task)) (sym (own_same (setup.plan.changelogs f.task.sub) old topic ends h)) (a.named topic old h some);
  others = λ topic old h none. own_same (setup.plan.changelogs f.task.sub) old topic ends h ∙ a.others topic old h none;
}

-- ---- one task
pub one_told : (d : DraftView) (setup : Setup) (journal new : List Entry) (topic : ℕ) (fs : List WorkView) (es : List (List (ℕ × ℕ))) (v : TaskView) → IsNetwork setup.plan →
    ((sub : ℕ) → setup.plan.changelogs sub ≡ changelog_numbers (plan_of d) sub) → ArePublished setup journal new topic fs es → IsFilledTo setup journal topic v → IsTold setup.plan fs v →
    IsDrainedTo setup new (topic + 1) (told_view d v (ends_for v.task (tasks_in fs) es))
one_told d setup journal new topic fs es v net logs done filled told = by (work_for v.task fs) refl told
  where
    hist : IsHistory setup (journal ++ done.more)
    hist = subst (IsHistory setup) done.is done.history

    by : (f : Option WorkView) → work_for v.task fs ≡ f → IsToldBy setup.plan v f → IsDrainedTo setup new (topic + 1) (told_view d v (ends_for v.task (tasks_in fs) es))
    by None e clean =
        let none : NoCommit setup (at setup journal) done.more v.task = done.commits v.task ∙ ap (commit_by done.worker) (pending_is v.task fs ∙ ap (option_map pending_work) e) in
        let stands : Stands setup new v = subst (λ j. Stands setup j v) (sym done.is) (longer_stands setup journal done.more v net hist none filled.stands) in
        subst (λ o. IsDrainedTo setup new (topic + 1) (told_view d v o)) (sym (no_ends v.task fs es e)) (stood_on setup journal new topic v filled clean stands done.same)
    by (Some f) e frozen =
        let has : HasEnds setup (at setup new) v.task f fs es = some_ends setup (at setup new) v.task f fs es done.ends e in
        let own = own_ends (setup.plan.changelogs f.task.sub) has.ends in
        let are : AreEnds setup (at setup (journal ++ done.more)) f own = subst (λ j. AreEnds setup (at setup j) f own) done.is (own_are setup (at setup new) f has.ends has.are) in
        let one : OneCommit setup (at setup journal) done.more (pending_work f) = (
          done.worker,
          ap (λ t. commits_for setup (at setup journal) done.more t) (work_named v.task fs f e)
              ∙ done.commits v.task ∙ ap (commit_by done.worker) (pending_is v.task fs ∙ ap (option_map pending_work) e),
        ) in
        let stands : Stands setup (journal ++ done.more) (committed_view v own) = committed_stands setup journal done.more v f own net hist filled.stands frozen one are in
        let same : own ≡ own_ends (changelog_numbers (plan_of d) v.task.sub) has.ends = ap (λ l. own_ends l has.ends) (ap (λ (t : TaskId). setup.plan.changelogs t.sub) (work_named v.task fs f e) ∙ logs v.task.sub) in
        let there : Stands setup new (committed_view v (own_ends (changelog_numbers (plan_of d) v.task.sub) has.ends)) = subst (λ o. Stands setup new (committed_view v o)) same (subst (λ j. Stands setup j (committed_view v own)) (sym done.is) stands) in
        subst (λ o. IsDrainedTo setup new (topic + 1) (told_view d v o)) (sym has.is) (committed_on setup journal new topic v (own_ends (changelog_numbers (plan_of d) v.task.sub) has.ends) filled there done.same)

pub told_some : (d : DraftView) (v w : TaskView) (t : TaskId) (worked : List TaskId) (es : List (List (ℕ × ℕ))) (own : List (ℕ × ℕ)) → w ≡ committed_view v (own_ends (changelog_numbers (plan_of d) v.task.sub) own) →
    ends_for t worked es ≡ Some own → t ≡ v.task → w ≡ told_view d v (ends_for v.task worked es)
told_some d v w t worked es own is ends named = is ∙ ap (told_view d v) (sym (ap (λ u. ends_for u worked es) (sym named) ∙ ends))
