-- Once all is sent, the commit is faithful in what the pass has seen.
use Rattle.std.proofs.Common.{◌≡◌, ◌≤◌, ℕ, ◌||◌, Bool, true, false, cond, List, [], ◌∷◌, ◌++◌, length, Option, Some, None, refl, sym, ap, subst, ◌∙◌}
use Rattle.std.proofs.lemmas.Bool.{true≢false}
use Rattle.ks_record.specs.declared.record.PartId.{PartId}
use Rattle.ks_record.specs.declared.record.TaskId.{TaskId}
use Rattle.ks_record.specs.Parts.{same_task}
use Rattle.ks_history.specs.declared.journal.Entry.{Entry}
use Rattle.ks_history.specs.declared.journal.Request.TheVariants.{Decide}
use Rattle.ks_history.specs.declared.transaction.Pending.{Pending}
use Rattle.ks_history.specs.Machine.{TaskPlan}
use Rattle.ks_history.specs.State.{State, Setup, has_part, has_task}
use Rattle.ks_history.specs.Follows.{TaskView}
use Rattle.ks_history.specs.History.{at, IsHistory, CommitsFaithfully}
use Rattle.ks_history.specs.Touched.{touched}
use Rattle.ks_law_restore.specs.Views.{WorkView, IsWork, recs_at, pending_work}
use Rattle.ks_law_restore.proofs.Freezing.{frozen_is_work}
use Rattle.ks_law_sharing.specs.Tasks.{IsActive}
use Rattle.ks_law_commit.specs.Building.{Contents, no_contents}
use Rattle.ks_law_commit.specs.Committing.{Holds, HoldsWork}
use Rattle.ks_law_commit.proofs.Stages.{sending_keeps_active, sending_is_faithful}
use Rattle.ks_commit.specs.Committed.{tasks_in, AreApart, EachOf}
use Rattle.ks_growing.specs.Passes.{PassView}
use Rattle.ks_shared.specs.declared.state.Frame.{Frame}
use Rattle.ks_shared.specs.Calls.{setup_in}
use Rattle.ks_worker_commit.specs.Outputs.{parts_in, add_all, put_all, send_all, contents_of}
use Rattle.ks_worker_commit.specs.Underway.{Memory, IsActiveWork, AreActiveWorks, IsUnderway}
use Rattle.ks_worker_commit.proofs.Requesting.{active_in}
use Rattle.ks_worker_commit.proofs.Filling.{IsFirst, first_of, first_pending, send_pending, put_pending, whole_records, whole_tasks}
use Rattle.ks_worker_commit.proofs.Rising.{once_in, absent_in}

work_in : (setup : Setup) (journal : List Entry) (w g last : ℕ) (t : TaskId) (fs : List WorkView) (f : WorkView) → IsFirst t fs f → AreActiveWorks setup journal w g last fs → IsActiveWork setup journal w g last f
work_in setup journal w g last t [] f h works = absurd h
work_in setup journal w g last t (k ∷ ks) f h works = by (same_task t k.task) h (λ later. work_in setup journal w g last t ks f later works.1)
  where
    by : (b : Bool) → cond b (f ≡ k) (IsFirst t ks f) → (IsFirst t ks f → IsActiveWork setup journal w g last f) → IsActiveWork setup journal w g last f
    by true is on = subst (IsActiveWork setup journal w g last) (sym is) works.0
    by false later on = on later

task_in : (setup : Setup) (s : State) (t : TaskId) (fs : List WorkView) (f : WorkView) → IsFirst t fs f → EachOf setup s fs → has_task f.task setup.tasks ≡ true
task_in setup s t [] f h each = absurd h
task_in setup s t (k ∷ ks) f h each = by (same_task t k.task) h (λ later. task_in setup s t ks f later each.1)
  where
    by : (b : Bool) → cond b (f ≡ k) (IsFirst t ks f) → (IsFirst t ks f → has_task f.task setup.tasks ≡ true) → has_task f.task setup.tasks ≡ true
    by true is on = subst (λ (x : WorkView). has_task x.task setup.tasks ≡ true) (sym is) each.0.task
    by false later on = on later

some_is : (p q : Pending) → Some p ≡ Some q → p ≡ q
some_is p q e = cc

pub added_none : (ps : List PartId) (c : Contents) (t : TaskId) → c.pending t ≡ None → (add_all ps c).pending t ≡ None
added_none [] c t h = h
added_none (p ∷ ps) c t h = added_none ps _ t h

module _ (fs : List WorkView) (apart : AreApart fs) where
  -- a task of which offsets are pending has a work
  pending_has : (t : TaskId) (p : Pending) → (contents_of fs).pending t ≡ Some p → has_task t (tasks_in fs) ≡ true
  pending_has t p is = by (has_task t (tasks_in fs)) refl
    where
      none : has_task t (tasks_in fs) ≡ false → (contents_of fs).pending t ≡ None
      none has = send_pending fs _ t has ∙ put_pending (parts_in [] fs) fs (add_all (parts_in [] fs) no_contents) t ∙ added_none (parts_in [] fs) no_contents t refl

      by : (b : Bool) → has_task t (tasks_in fs) ≡ b → has_task t (tasks_in fs) ≡ true
      by true has = has
      by false has = let e : Some p ≡ None = sym is ∙ none has in absurd cc

  pub holds_first : (t : TaskId) (f : WorkView) → IsFirst t fs f → f.task ≡ t → Holds (contents_of fs) f
  holds_first t f first is = record {
    pending = first_pending fs _ f.task f apart (subst (λ u. IsFirst u fs f) (sym is) first);
    records = λ q. whole_records f.task q (parts_in [] fs) fs f no_contents apart (subst (λ u. IsFirst u fs f) (sym is) first) (once_in fs) refl ∙ by q (has_part q (parts_in [] fs)) refl;
  }
    where
      by : (q : PartId) (b : Bool) → has_part q (parts_in [] fs) ≡ b → cond b (recs_at q f.outputs) [] ≡ recs_at q f.outputs
      by q true has = refl
      by q false has = sym (absent_in q [] fs t f first has)

module _ {W : Type 0} (plan : W → TaskPlan) (from now : PassView Entry (Frame W)) (w e g first : ℕ) (mem : Memory) (fs : List WorkView)
    (u : IsUnderway plan from now w e g first mem fs (contents_of fs)) (apart : AreApart fs) (s : State) (each : EachOf (setup_in plan from.frame) s fs)
    (mine : touched w from.seen ≡ first) (place : touched w now.seen ≡ mem.last) (same : (at (setup_in plan from.frame) now.seen).generation ≡ g) where
  abbrev here : Setup
  here = setup_in plan from.frame

  active_now : (v : TaskView) → IsActive here from.seen w g first v → IsActive here now.seen w g mem.last v
  active_now v active = subst (λ l. IsActive here l w g mem.last v) (sym u.requests.seen)
      (sending_keeps_active here from.seen u.requests.more w e g (length u.requests.own) first mem.last (contents_of fs) v u.worker.network (subst (IsHistory here) u.requests.seen u.history) u.worker.seen (u.sending mine) active)

  is_work : (t : TaskId) (f : WorkView) → IsFirst t fs f → IsWork here (at here now.seen) f
  is_work t f is_first =
      let k = work_in here from.seen w g first t fs f is_first u.worker.works in
      frozen_is_work here now.seen k.view f u.worker.network ((active_now k.view k.active).follows same place) k.frozen
      (subst (λ x. has_task x here.tasks ≡ true) k.frozen.task (task_in here s t fs f is_first each)) k.once

  holds_all : HoldsWork here (at here now.seen) (contents_of fs)
  holds_all = record {
    named = λ t has.
        let f = first_of t fs (whole_tasks (parts_in [] fs) fs no_contents t refl has) in
        (pending_work f.0, first_pending fs _ t f.0 apart f.1);
    each = λ t p is.
        let f = first_of t fs (pending_has fs apart t p is) in
        (f.0, f.2, holds_first fs apart t f.0 f.1 f.2, is_work t f.0 f.1);
  }

  pub may_decide : CommitsFaithfully here (at here now.seen) (Decide w e true)
  may_decide =
      subst (λ l. CommitsFaithfully here (at here l) (Decide w e true)) (sym u.requests.seen)
      (sending_is_faithful here from.seen u.requests.more w e g (length u.requests.own) first mem.last (contents_of fs) u.worker.network (subst (IsHistory here) u.requests.seen u.history) u.worker.seen
      (u.worker.idle mine) (u.sending mine) (subst (λ l. HoldsWork here (at here l) (contents_of fs)) u.requests.seen holds_all)
      (λ t p is. active_in here from.seen w g first t fs (pending_has fs apart t p is) u.worker.works) (ap (λ l. (at here l).generation) (sym u.requests.seen) ∙ same))

  pub may_decide_now : CommitsFaithfully (setup_in plan now.frame) (at (setup_in plan now.frame) now.seen) (Decide w e true)
  may_decide_now = subst (λ (k : Setup). CommitsFaithfully k (at k now.seen) (Decide w e true)) (sym (ap (λ (k : PassView Entry (Frame W)). setup_in plan k.frame) u.requests.same)) may_decide
