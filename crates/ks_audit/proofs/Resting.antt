-- The tasks behind one entry more.
use Rattle.std.proofs.Common.{◌≡◌, ℕ, zero, suc, ◌+◌, ◌<◌, ◌≤◌, Bool, true, false, List, [], ◌∷◌, ◌++◌, length, set, get_or, Option, Some, None, refl, sym, ap, ap₂, subst, ◌∙◌, arith, ⊎_elim, append_assoc, append-nil}
use Rattle.std.specs.Prelude.{◌⊎◌}
use Rattle.std.proofs.lemmas.List.{set_at, get_or_at, length-append}
use Rattle.ks_record.specs.declared.record.PartId.{PartId}
use Rattle.ks_record.specs.declared.record.TaskId.{TaskId}
use Rattle.ks_record.specs.declared.assignment.Refused.{Refused}
use Rattle.ks_plan.specs.Drafts.{DraftView}
use Rattle.ks_history.specs.declared.journal.Request.TheVariants.{Decide}
use Rattle.ks_history.specs.declared.journal.Entry.{Entry}
use Rattle.ks_history.specs.declared.transaction.Pending.{Pending}
use Rattle.ks_history.specs.Machine.{IsNetwork}
use Rattle.ks_history.specs.State.{State, Setup, has_task, pending_of}
use Rattle.ks_history.specs.Step.{refusal, pending_at}
use Rattle.ks_history.specs.History.{at, IsHistory}
use Rattle.ks_law_restore.specs.Commits.{NoCommit, commits_by, commit_by}
use Rattle.ks_law_audit.specs.Laws.{last_end, commit_of}
use Rattle.ks_law_audit.specs.Logged.{logged}
use Rattle.ks_law_audit.proofs.Resting.{rested_stays}
use Rattle.ks_law_audit.proofs.Behind.{end_stays}
use Rattle.ks_audit_ledger.specs.declared.account.Open.{Open}
use Rattle.ks_audit_ledger.specs.Accounts.{opened, last_of}
use Rattle.ks_audit_ledger.specs.Offsets.{logged_in}
use Rattle.ks_task.specs.Tasks.{task_view, IsTaskOf}
use Rattle.ks_audit_commit.specs.declared.audited.AuditedTask.{AuditedTask}
use Rattle.ks_audit_commit.specs.Judging.{IsAudited, MayRest, name_of}
use Rattle.ks_audit.specs.Playing.{names_in, AreAudited, HasJudged, HasNoPart, IsJudged, AreJudged, HasOpen, IsMade, AreResting}
use Rattle.ks_audit.proofs.Judged.{pending_is, names_set, next_of}

-- ---- an entry that commits nothing for a task
pub audited_stays : (d : DraftView) (setup : Setup) (journal : List Entry) (entry : Entry) (t : AuditedTask) → IsNetwork setup.plan → IsHistory setup (journal ++ entry ∷ []) → NoCommit setup (at setup journal) (entry ∷ []) (name_of t) → IsAudited d setup journal t →
    IsAudited d setup (journal ++ entry ∷ []) t
audited_stays d setup journal entry t net history none audited = record {
  of = audited.of;
  known = audited.known;
  rests = rested_stays setup journal entry (task_view t.task) net history none audited.rests;
  ends = λ q. audited.ends q ∙ sym (end_stays setup journal entry (name_of t) q net history none);
}

pub all_stay : (d : DraftView) (setup : Setup) (journal : List Entry) (entry : Entry) (ts : List AuditedTask) → IsNetwork setup.plan → IsHistory setup (journal ++ entry ∷ []) → ((t : TaskId) → NoCommit setup (at setup journal) (entry ∷ []) t) → AreAudited d setup journal ts →
    AreAudited d setup (journal ++ entry ∷ []) ts
all_stay d setup journal entry [] net history none all = tt
all_stay d setup journal entry (t ∷ ts) net history none all = (audited_stays d setup journal entry t net history (none (name_of t)) all.0, all_stay d setup journal entry ts net history none all.1)

-- ---- a commit
no_part : (setup : Setup) (journal : List Entry) (w epoch : ℕ) (t : TaskId) → refusal setup (at setup journal) (Decide w epoch true) ≡ None → pending_of t (pending_at ((at setup journal).producer w)) ≡ None → NoCommit setup (at setup journal) (commit_of w epoch ∷ []) t
no_part setup journal w epoch t accepted none =
    append-nil (commits_by (at setup journal) (Decide w epoch true) (refusal setup (at setup journal) (Decide w epoch true)) t)
    ∙ ap (λ (r : Option Refused). commits_by (at setup journal) (Decide w epoch true) r t) accepted
    ∙ ap (commit_by w) none

module _ (d : DraftView) (setup : Setup) (journal : List Entry) (w epoch : ℕ) (made : IsMade setup journal w epoch) (o : Open) (has : HasOpen setup journal w o) where
  pub may_rest : (t : AuditedTask) (j : HasJudged d setup journal w t) → MayRest d setup journal w epoch o j.p t
  may_rest t j = record {
    network = made.network;
    before = made.before;
    history = made.history;
    accepted = made.accepted;
    of = j.of;
    known = j.known;
    pending = ap (λ (u : TaskId). pending_of u (pending_at ((at setup journal).producer w))) j.own ∙ j.pending;
    took = j.took;
    offsets = λ q. ap (λ (x : Option Open). logged_in (name_of t) q (opened x).sent) (sym has.is) ∙ has.kept.offsets (name_of t) q;
    ends = j.ends;
  }

  -- the offsets were pending, and the task moved on; or none were, and it stays
  pub task_moved : (id : TaskId) (p : Pending) (old new : AuditedTask) → id ≡ name_of old → last_of id o.pending ≡ Some p → IsJudged d setup journal w old → ((q : Pending) → MayRest d setup journal w epoch o q old → IsAudited d setup (journal ++ commit_of w epoch ∷ []) new) →
      (IsTaskOf d old.task → name_of new ≡ name_of old) → IsAudited d setup (journal ++ commit_of w epoch ∷ []) new × (name_of new ≡ name_of old)
  task_moved id p old new named some judged rests name = ⊎_elim
      (λ (j : HasJudged d setup journal w old). (rests j.p (may_rest old j), name j.of))
      (λ (n : HasNoPart d setup journal w old). absurd (let g : None ≡ Some p = sym n.none ∙ sym (pending_is setup journal w o has (name_of old)) ∙ ap (λ (k : TaskId). last_of k o.pending) (sym named) ∙ some in cc))
      judged

  pub task_stays : (id : TaskId) (old : AuditedTask) → id ≡ name_of old → last_of id o.pending ≡ None → IsJudged d setup journal w old → IsAudited d setup (journal ++ commit_of w epoch ∷ []) old
  task_stays id old named none judged = ⊎_elim
      (λ (j : HasJudged d setup journal w old). absurd (let g : None ≡ Some j.p = sym none ∙ ap (λ (k : TaskId). last_of k o.pending) named ∙ pending_is setup journal w o has (name_of old) ∙ j.pending in cc))
      (λ (n : HasNoPart d setup journal w old). audited_stays d setup journal (commit_of w epoch) old made.network made.history (no_part setup journal w epoch (name_of old) made.accepted n.none) n.audited)
      judged

-- ---- in a loop
audited_both : (d : DraftView) (setup : Setup) (journal : List Entry) (xs : List AuditedTask) (t : AuditedTask) → AreAudited d setup journal xs → IsAudited d setup journal t → AreAudited d setup journal (xs ++ t ∷ [])
audited_both d setup journal [] t all one = (one, tt)
audited_both d setup journal (x ∷ xs) t all one = (all.0, audited_both d setup journal xs t all.1 one)

module _ (d : DraftView) (setup : Setup) (journal : List Entry) (w epoch : ℕ) where
  pub resting_begins : (ts : List AuditedTask) → AreJudged d setup journal w ts → AreResting d setup journal w epoch 0 ts
  resting_begins ts judged = record { done = []; rest = ts; both = refl; count = refl; audited = tt; judged = judged }

  pub resting_more : (i : ℕ) (ts : List AuditedTask) (x y : AuditedTask) → (names_in ts ≡ setup.tasks) × AreResting d setup journal w epoch i ts → i < length ts → x ≡ get_or ts i x →
      (IsJudged d setup journal w x → IsAudited d setup (journal ++ commit_of w epoch ∷ []) y × (name_of y ≡ name_of x)) → (names_in (set ts i y) ≡ setup.tasks) × AreResting d setup journal w epoch (i + 1) (set ts i y)
  resting_more i ts x y before lt read rests =
      let resting = before.1 in
      let n = next_of resting.done resting.rest i resting.count (subst (λ l. i < length l) resting.both lt) in
      let there : ts ≡ resting.done ++ n.0 ∷ n.1 = resting.both ∙ ap (λ l. resting.done ++ l) n.2 in
      let it : x ≡ n.0 = read ∙ ap (λ l. get_or l i x) there ∙ get_or_at resting.done n.0 n.1 x i resting.count in
      let now : set ts i y ≡ resting.done ++ y ∷ n.1 = ap (λ l. set l i y) there ∙ set_at resting.done n.0 n.1 y i resting.count in
      let those : AreJudged d setup journal w (n.0 ∷ n.1) = subst (AreJudged d setup journal w) n.2 resting.judged in
      let one = rests (subst (IsJudged d setup journal w) (sym it) those.0) in (
        ap names_in now ∙ names_set resting.done n.0 y n.1 (one.1 ∙ ap name_of it) ∙ ap names_in (sym there) ∙ before.0,
        record {
          done = resting.done ++ y ∷ [];
          rest = n.1;
          both = now ∙ sym (append_assoc resting.done (y ∷ []) n.1);
          count = length-append resting.done (y ∷ []) ∙ ap (λ k. k + 1) resting.count;
          audited = audited_both d setup (journal ++ commit_of w epoch ∷ []) resting.done y resting.audited one.0;
          judged = those.1;
        },
      )

  pub resting_ends : (i : ℕ) (ts : List AuditedTask) → AreResting d setup journal w epoch i ts → length ts ≤ i → AreAudited d setup (journal ++ commit_of w epoch ∷ []) ts
  resting_ends i ts resting le = subst (AreAudited d setup (journal ++ commit_of w epoch ∷ [])) (sym (whole resting.rest resting.both)) resting.audited
    where
      whole : (rest : List AuditedTask) → ts ≡ resting.done ++ rest → ts ≡ resting.done
      whole [] both = both ∙ append-nil resting.done
      whole (x ∷ xs) both = absurd (let long : length ts ≡ length resting.done + suc (length xs) = ap length both ∙ length-append resting.done (x ∷ xs) in omega (arith, le, resting.count, long))
