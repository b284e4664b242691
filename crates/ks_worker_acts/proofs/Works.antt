-- The works of a worker's tasks may be committed.
use Rattle.std.proofs.Common.{◌≡◌, ◌≢◌, ◌⊎◌, inl, inr, ℕ, zero, suc, ◌<◌, ◌||◌, Bool, true, false, cond, List, [], ◌∷◌, ◌++◌, length, get_or, refl, sym, ap, subst, ◌∙◌, arith}
use Rattle.std.specs.List.{All}
use Rattle.std.proofs.lemmas.Bool.{true≢false}
use Rattle.std.proofs.lemmas.List.Elements.{All-head, All-tail}
use Rattle.ks_record.specs.declared.record.TaskId.{TaskId}
use Rattle.ks_record.specs.Parts.{same_task}
use Rattle.ks_plan.specs.Drafts.{DraftView}
use Rattle.ks_plan.specs.Plan.{plan_of}
use Rattle.ks_history.specs.declared.journal.Entry.{Entry}
use Rattle.ks_history.specs.Machine.{TaskPlan}
use Rattle.ks_history.specs.State.{Setup, has_task, are_once}
use Rattle.ks_history.specs.History.{at}
use Rattle.ks_history.proofs.Names.{same_task-is, same_task-refl}
use Rattle.ks_law_topology.specs.WellFormed.{IsWellFormed}
use Rattle.ks_law_restore.specs.Views.{WorkView, IsFrozen, SendsInside, are_topics_once}
use Rattle.ks_law_settled.proofs.Once.{inputs_once}
use Rattle.ks_law_settled.proofs.Inside.{topologies_send_inside}
use Rattle.ks_commit.specs.Committed.{EachOf, AreApart, tasks_in}
use Rattle.ks_def_tasks.specs.Rules.{rules_of}
use Rattle.ks_task.specs.declared.task.Task.{Task}
use Rattle.ks_task.specs.Tasks.{task_view}
use Rattle.ks_worker_client.specs.declared.member.Member.{Member}
use Rattle.ks_worker_commit.specs.Underway.{AreActiveWorks}
use Rattle.ks_worker_commit.specs.Leaves.{IsOneOf}
use Rattle.ks_worker_state.specs.Tasks.{IsHeldTask}
use Rattle.ks_worker_state.specs.Topology.{RunsTopology}
use Rattle.ks_worker_state.specs.Worker.{IsNoneOf, HaveOwnNames}
use Rattle.ks_worker_acts.specs.Works.{IsCleanTask, IsDirtyTask, AreWorksOf}
use Rattle.ks_worker_acts.proofs.Outputs.{of_cluster}

-- ---- what a topology's cluster keeps
module _ (hash : List ℕ → ℕ) (d : DraftView) (setup : Setup) (runs : RunsTopology hash d setup) where
  pub runs_inside : IsWellFormed d → SendsInside setup
  runs_inside well = subst SendsInside (sym runs.setup_is) (topologies_send_inside (rules_of hash) d well)

  pub runs_once : (sub : ℕ) → are_topics_once (setup.plan.inputs sub) ≡ true
  runs_once sub = subst (λ (s : Setup). are_topics_once (s.plan.inputs sub) ≡ true) (sym runs.setup_is) (inputs_once (plan_of d) sub)

-- ---- each work
module _ (setup : Setup) (journal : List Entry) (d : DraftView) (m : Member) (last : ℕ) (once : (sub : ℕ) → are_topics_once (setup.plan.inputs sub) ≡ true) where
  pub active_works : (ts : List Task) (fs : List WorkView) → All (IsHeldTask d setup journal m last) ts → AreWorksOf setup.plan ts fs → AreActiveWorks setup journal m.number m.generation last fs
  active_works [] [] held are = tt
  active_works [] (f ∷ fs) held are = absurd are
  active_works (t ∷ ts) [] held are = tt
  active_works (t ∷ ts) (f ∷ fs) held are =
      by (active_works ts (f ∷ fs) (All-tail (IsHeldTask d setup journal m last) t ts held)) (active_works ts fs (All-tail (IsHeldTask d setup journal m last) t ts held)) (All-head (IsHeldTask d setup journal m last) t ts held) are
    where
      by : (AreWorksOf setup.plan ts (f ∷ fs) → AreActiveWorks setup journal m.number m.generation last (f ∷ fs)) → (AreWorksOf setup.plan ts fs → AreActiveWorks setup journal m.number m.generation last fs) → IsHeldTask d setup journal m last t →
          (IsCleanTask t × AreWorksOf setup.plan ts (f ∷ fs)) ⊎ (IsDirtyTask t × IsFrozen setup.plan (task_view t) f × AreWorksOf setup.plan ts fs) → AreActiveWorks setup journal m.number m.generation last (f ∷ fs)
      by same more own (inl c) = same c.1
      by same more own (inr w) = (record { view = task_view t; active = own.held.active; frozen = w.1; once = once (task_view t).task.sub }, more w.2)

  pub each_of : SendsInside setup → (ts : List Task) (fs : List WorkView) → All (IsHeldTask d setup journal m last) ts → AreWorksOf setup.plan ts fs → EachOf setup (at setup journal) fs
  each_of sends [] [] held are = tt
  each_of sends [] (f ∷ fs) held are = absurd are
  each_of sends (t ∷ ts) [] held are = tt
  each_of sends (t ∷ ts) (f ∷ fs) held are =
      by (each_of sends ts (f ∷ fs) (All-tail (IsHeldTask d setup journal m last) t ts held)) (each_of sends ts fs (All-tail (IsHeldTask d setup journal m last) t ts held)) (All-head (IsHeldTask d setup journal m last) t ts held) are
    where
      by : (AreWorksOf setup.plan ts (f ∷ fs) → EachOf setup (at setup journal) (f ∷ fs)) → (AreWorksOf setup.plan ts fs → EachOf setup (at setup journal) fs) → IsHeldTask d setup journal m last t →
          (IsCleanTask t × AreWorksOf setup.plan ts (f ∷ fs)) ⊎ (IsDirtyTask t × IsFrozen setup.plan (task_view t) f × AreWorksOf setup.plan ts fs) → EachOf setup (at setup journal) (f ∷ fs)
      by same more own (inl c) = same c.1
      by same more own (inr w) = (of_cluster setup journal m.number m.generation last (task_view t) f (once (task_view t).task.sub) own.held (own.inside sends) w.1, more w.2)

  -- where there is a work there is a task
  pub works_well : (ts : List Task) (fs : List WorkView) → fs ≢ [] → All (IsHeldTask d setup journal m last) ts → AreWorksOf setup.plan ts fs → IsWellFormed d
  works_well [] [] some held are = absurd (some refl)
  works_well [] (f ∷ fs) some held are = absurd are
  works_well (t ∷ ts) fs some held are = (All-head (IsHeldTask d setup journal m last) t ts held).of.well_formed

-- ---- names
symmetric : (t u : TaskId) → same_task t u ≡ false → same_task u t ≡ false
symmetric t u h = by (same_task u t) refl
  where
    by : (b : Bool) → same_task u t ≡ b → b ≡ false
    by true e = absurd (true≢false (sym (ap (λ (n : TaskId). same_task t n) (same_task-is u t e) ∙ same_task-refl t) ∙ h))
    by false e = refl

abbrev IsOther : TaskId → Task → Type 0
IsOther n other = same_task n (task_view other).task ≡ false

-- a name that no task has is no work's
pub unworked : (plan : TaskPlan) (n : TaskId) (ts : List Task) (fs : List WorkView) → IsNoneOf n ts → AreWorksOf plan ts fs → has_task n (tasks_in fs) ≡ false
unworked plan n [] [] none are = refl
unworked plan n [] (f ∷ fs) none are = absurd are
unworked plan n (t ∷ ts) [] none are = refl
unworked plan n (t ∷ ts) (f ∷ fs) none are = by (unworked plan n ts (f ∷ fs) (All-tail (IsOther n) t ts none)) (unworked plan n ts fs (All-tail (IsOther n) t ts none)) (All-head (IsOther n) t ts none) are
  where
    by : (AreWorksOf plan ts (f ∷ fs) → has_task n (tasks_in (f ∷ fs)) ≡ false) → (AreWorksOf plan ts fs → has_task n (tasks_in fs) ≡ false) → IsOther n t →
        (IsCleanTask t × AreWorksOf plan ts (f ∷ fs)) ⊎ (IsDirtyTask t × IsFrozen plan (task_view t) f × AreWorksOf plan ts fs) → has_task n (tasks_in (f ∷ fs)) ≡ false
    by same more other (inl c) = same c.1
    by same more other (inr w) = ap (λ b. b || has_task n (tasks_in fs)) (ap (same_task n) w.1.task ∙ other) ∙ more w.2

-- no task has two works
pub apart : (plan : TaskPlan) (ts : List Task) (fs : List WorkView) → HaveOwnNames ts → AreWorksOf plan ts fs → AreApart fs
apart plan [] [] names are = refl
apart plan [] (f ∷ fs) names are = absurd are
apart plan (t ∷ ts) [] names are = refl
apart plan (t ∷ ts) (f ∷ fs) names are = by (apart plan ts (f ∷ fs) names.1) (apart plan ts fs names.1) are
  where
    by : (AreWorksOf plan ts (f ∷ fs) → AreApart (f ∷ fs)) → (AreWorksOf plan ts fs → AreApart fs) →
        (IsCleanTask t × AreWorksOf plan ts (f ∷ fs)) ⊎ (IsDirtyTask t × IsFrozen plan (task_view t) f × AreWorksOf plan ts fs) → AreApart (f ∷ fs)
    by same more (inl c) = same c.1
    by same more (inr w) = ap (λ b. cond b false (are_once (tasks_in fs))) (ap (λ n. has_task n (tasks_in fs)) w.1.task ∙ unworked plan (task_view t).task ts fs names.0 w.2) ∙ more w.2

-- ---- the k-th task
-- it has no work where it is clean
pub clean_rests : (plan : TaskPlan) (ts : List Task) (fs : List WorkView) (k : ℕ) (d : Task) → HaveOwnNames ts → AreWorksOf plan ts fs → k < length ts → IsCleanTask (get_or ts k d) → has_task (task_view (get_or ts k d)).task (tasks_in fs) ≡ false
clean_rests plan [] fs k d names are lt clean = absurd (omega (arith, lt))
clean_rests plan (t ∷ ts) [] k d names are lt clean = refl
clean_rests plan (t ∷ ts) (f ∷ fs) zero d names are lt clean = by are
  where
    by : (IsCleanTask t × AreWorksOf plan ts (f ∷ fs)) ⊎ (IsDirtyTask t × IsFrozen plan (task_view t) f × AreWorksOf plan ts fs) → has_task (task_view t).task (tasks_in (f ∷ fs)) ≡ false
    by (inl c) = unworked plan (task_view t).task ts (f ∷ fs) names.0 c.1
    by (inr w) = absurd (w.0 clean)
clean_rests plan (t ∷ ts) (f ∷ fs) (suc k) d names are lt clean =
    by (λ more. clean_rests plan ts (f ∷ fs) k d names.1 more (omega (arith, lt)) clean) (λ more. clean_rests plan ts fs k d names.1 more (omega (arith, lt)) clean) are
  where
    other : same_task (task_view (get_or ts k d)).task (task_view t).task ≡ false
    other = symmetric (task_view t).task (task_view (get_or ts k d)).task (names.0 k d (omega (arith, lt)))

    by : (AreWorksOf plan ts (f ∷ fs) → has_task (task_view (get_or ts k d)).task (tasks_in (f ∷ fs)) ≡ false) → (AreWorksOf plan ts fs → has_task (task_view (get_or ts k d)).task (tasks_in fs) ≡ false) →
        (IsCleanTask t × AreWorksOf plan ts (f ∷ fs)) ⊎ (IsDirtyTask t × IsFrozen plan (task_view t) f × AreWorksOf plan ts fs) → has_task (task_view (get_or ts k d)).task (tasks_in (f ∷ fs)) ≡ false
    by same more (inl c) = same c.1
    by same more (inr w) = ap (λ b. b || has_task (task_view (get_or ts k d)).task (tasks_in fs)) (ap (same_task (task_view (get_or ts k d)).task) w.1.task ∙ other) ∙ more w.2

-- it has one where it is dirty
pub record HasWork (plan : TaskPlan) (t : Task) (fs : List WorkView) : Type 0 where
  pub work : WorkView
  pub one : IsOneOf work fs
  pub frozen : IsFrozen plan (task_view t) work

pub dirty_has : (plan : TaskPlan) (ts : List Task) (fs : List WorkView) (k : ℕ) (d : Task) → AreWorksOf plan ts fs → k < length ts → IsDirtyTask (get_or ts k d) → HasWork plan (get_or ts k d) fs
dirty_has plan [] fs k d are lt dirty = absurd (omega (arith, lt))
dirty_has plan (t ∷ ts) [] zero d are lt dirty = absurd (dirty are.0)
dirty_has plan (t ∷ ts) [] (suc k) d are lt dirty = dirty_has plan ts [] k d are.1 (omega (arith, lt)) dirty
dirty_has plan (t ∷ ts) (f ∷ fs) zero d are lt dirty = by are
  where
    by : (IsCleanTask t × AreWorksOf plan ts (f ∷ fs)) ⊎ (IsDirtyTask t × IsFrozen plan (task_view t) f × AreWorksOf plan ts fs) → HasWork plan t (f ∷ fs)
    by (inl c) = absurd (dirty c.0)
    by (inr w) = record { work = f; one = inl refl; frozen = w.1 }
dirty_has plan (t ∷ ts) (f ∷ fs) (suc k) d are lt dirty = by (λ more. dirty_has plan ts (f ∷ fs) k d more (omega (arith, lt)) dirty) (λ more. dirty_has plan ts fs k d more (omega (arith, lt)) dirty) are
  where
    by : (AreWorksOf plan ts (f ∷ fs) → HasWork plan (get_or ts k d) (f ∷ fs)) → (AreWorksOf plan ts fs → HasWork plan (get_or ts k d) fs) →
        (IsCleanTask t × AreWorksOf plan ts (f ∷ fs)) ⊎ (IsDirtyTask t × IsFrozen plan (task_view t) f × AreWorksOf plan ts fs) → HasWork plan (get_or ts k d) (f ∷ fs)
    by same more (inl c) = same c.1
    by same more (inr w) = let r = more w.2 in record { work = r.work; one = inr r.one; frozen = r.frozen }

-- all are clean where there is no work
pub no_works : (plan : TaskPlan) (ts : List Task) → AreWorksOf plan ts [] → (k : ℕ) (d : Task) → k < length ts → IsCleanTask (get_or ts k d)
no_works plan [] are k d lt = absurd (omega (arith, lt))
no_works plan (t ∷ ts) are zero d lt = are.0
no_works plan (t ∷ ts) are (suc k) d lt = no_works plan ts are.1 k d (omega (arith, lt))

-- ---- one task more
pub clean_more : (plan : TaskPlan) (ts : List Task) (t : Task) (fs : List WorkView) → AreWorksOf plan ts fs → IsCleanTask t → AreWorksOf plan (ts ++ t ∷ []) fs
clean_more plan [] t [] are clean = (clean, tt)
clean_more plan [] t (f ∷ fs) are clean = absurd are
clean_more plan (x ∷ ts) t [] are clean = (are.0, clean_more plan ts t [] are.1 clean)
clean_more plan (x ∷ ts) t (f ∷ fs) are clean = by (λ more. clean_more plan ts t (f ∷ fs) more clean) (λ more. clean_more plan ts t fs more clean) are
  where
    by : (AreWorksOf plan ts (f ∷ fs) → AreWorksOf plan (ts ++ t ∷ []) (f ∷ fs)) → (AreWorksOf plan ts fs → AreWorksOf plan (ts ++ t ∷ []) fs) →
        (IsCleanTask x × AreWorksOf plan ts (f ∷ fs)) ⊎ (IsDirtyTask x × IsFrozen plan (task_view x) f × AreWorksOf plan ts fs) → AreWorksOf plan (x ∷ (ts ++ t ∷ [])) (f ∷ fs)
    by same more (inl c) = inl (c.0, same c.1)
    by same more (inr w) = inr (w.0, w.1, more w.2)

pub dirty_more : (plan : TaskPlan) (ts : List Task) (t : Task) (fs : List WorkView) (f : WorkView) → AreWorksOf plan ts fs → IsDirtyTask t → IsFrozen plan (task_view t) f → AreWorksOf plan (ts ++ t ∷ []) (fs ++ f ∷ [])
dirty_more plan [] t [] f are dirty frozen = inr (dirty, frozen, tt)
dirty_more plan [] t (g ∷ fs) f are dirty frozen = absurd are
dirty_more plan (x ∷ ts) t [] f are dirty frozen = inl (are.0, dirty_more plan ts t [] f are.1 dirty frozen)
dirty_more plan (x ∷ ts) t (g ∷ fs) f are dirty frozen = by (λ more. dirty_more plan ts t (g ∷ fs) f more dirty frozen) (λ more. dirty_more plan ts t fs f more dirty frozen) are
  where
    by : (AreWorksOf plan ts (g ∷ fs) → AreWorksOf plan (ts ++ t ∷ []) ((g ∷ fs) ++ f ∷ [])) → (AreWorksOf plan ts fs → AreWorksOf plan (ts ++ t ∷ []) (fs ++ f ∷ [])) →
        (IsCleanTask x × AreWorksOf plan ts (g ∷ fs)) ⊎ (IsDirtyTask x × IsFrozen plan (task_view x) g × AreWorksOf plan ts fs) → AreWorksOf plan (x ∷ (ts ++ t ∷ [])) (g ∷ (fs ++ f ∷ []))
    by same more (inl c) = inl (c.0, same c.1)
    by same more (inr w) = inr (w.0, w.1, more w.2)
