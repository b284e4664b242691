-- What is kept beside the cluster, behind one entry more.
use Rattle.std.proofs.Common.{◌≡◌, ℕ, ◌<◌, ◌≤◌, Bool, true, false, cond, List, [], ◌∷◌, ◌++◌, length, get_or, Option, Some, None, is_some, refl, sym, ap, ap₂, subst, ◌∙◌, arith, append-nil}
use Rattle.std.specs.Prelude.{◌↔◌, ◌==◌}
use Rattle.std.proofs.lemmas.Bool.{true≢false, and_parts}
use Rattle.ks_record.specs.declared.record.TaskId.{TaskId}
use Rattle.ks_record.specs.declared.assignment.Refused.{Refused}
use Rattle.ks_plan.specs.Drafts.{DraftView}
use Rattle.ks_history.specs.declared.journal.Request.{Request}
use Rattle.ks_history.specs.declared.journal.Request.TheVariants.{Produce, Init, Add, Append, SendOffsets, Decide, MarkNext, Join, Expire, Hold, Probe, Assign, Park, Unpark}
use Rattle.ks_history.specs.declared.journal.Reply.{Reply}
use Rattle.ks_history.specs.declared.journal.Reply.TheVariants.{Done}
use Rattle.ks_history.specs.declared.journal.Entry.{Entry}
use Rattle.ks_history.specs.declared.transaction.Transaction.{Transaction}
use Rattle.ks_history.specs.State.{State, Setup}
use Rattle.ks_history.specs.Step.{refusal, reply_by}
use Rattle.ks_history.specs.History.{at, IsHistory, IsStep, Meets, CommitsFaithfully}
use Rattle.ks_law_restore.specs.Commits.{NoCommit, commits_by}
use Rattle.ks_law_audit.specs.Laws.{commit_of}
use Rattle.ks_audit_ledger.specs.declared.account.Account.{Account}
use Rattle.ks_audit_ledger.specs.declared.account.Open.{Open}
use Rattle.ks_audit_ledger.specs.Accounts.{blank, opened, last_of}
use Rattle.ks_audit_ledger.specs.Kept.{IsKept}
use Rattle.ks_audit_ledger.specs.Ledgers.{IsLedger, is_decidable, ledger_after}
use Rattle.ks_audit_ledger.proofs.Noting.{decision_is_told}
use Rattle.ks_audit_ledger.proofs.Keeping.{ledger_stays}
use Rattle.ks_audit_commit.specs.declared.audited.AuditedTask.{AuditedTask}
use Rattle.ks_audit.specs.Playing.{names_in, IsPlayed, AreAudited, AreJudged, AreOwn, HasOpen, IsMade, commit_at}
use Rattle.ks_audit.specs.Entries.{IsReady, MayKeep}
use Rattle.ks_audit.proofs.Judged.{its, all_faithful}
use Rattle.ks_audit.proofs.Resting.{all_stay}

-- ---- the account of a worker
pub kept_at : (setup : Setup) (journal : List Entry) (ledger : List Account) → IsLedger setup journal ledger → (w : ℕ) (o : Open) → w ≤ 16 → (get_or ledger w blank).undecided ≡ Some o → HasOpen setup journal w o
kept_at setup journal ledger is w o few some = record { account = get_or ledger w blank; is = some; kept = is.each w few }

pub own_at : (setup : Setup) (journal : List Entry) (ledger : List Account) → IsLedger setup journal ledger → (w : ℕ) (o : Open) → w ≤ 16 → (get_or ledger w blank).undecided ≡ Some o → AreOwn o
own_at setup journal ledger is w o few some t p h = (is.each w few).known.own t p (ap (λ x. last_of t (opened x).pending) some ∙ h)

-- ---- which entries are commits
pub record IsCommitOf (setup : Setup) (s : State) (ledger : List Account) (w : ℕ) (request : Request) : Type 0 where
  pub epoch : ℕ
  pub is : request ≡ Decide w epoch true
  pub decidable : is_decidable (get_or ledger w blank) epoch ≡ true

pub commit_found : (setup : Setup) (s : State) (ledger : List Account) (w : ℕ) (request : Request) → commit_at ledger request ≡ Some w → IsCommitOf setup s ledger w request
commit_found setup s ledger w (Decide v epoch true) h = by (is_decidable (get_or ledger v blank) epoch) refl h
  where
    by : (b : Bool) → is_decidable (get_or ledger v blank) epoch ≡ b → cond b (Some v) None ≡ Some w → IsCommitOf setup s ledger w (Decide v epoch true)
    by true is g =
        let same : v ≡ w = cc in
        record { epoch = epoch; is = ap (λ k. Decide k epoch true) same; decidable = ap (λ k. is_decidable (get_or ledger k blank) epoch) (sym same) ∙ is }
    by false is g = absurd cc
commit_found setup s ledger w (Decide v epoch false) h = absurd cc
commit_found setup s ledger w (Produce p rec) h = absurd cc
commit_found setup s ledger w (Init v) h = absurd cc
commit_found setup s ledger w (Add v e p) h = absurd cc
commit_found setup s ledger w (Append v e number t p recs) h = absurd cc
commit_found setup s ledger w (SendOffsets v e g t offsets order late) h = absurd cc
commit_found setup s ledger w (MarkNext v) h = absurd cc
commit_found setup s ledger w (Join v) h = absurd cc
commit_found setup s ledger w (Expire v) h = absurd cc
commit_found setup s ledger w (Hold v held) h = absurd cc
commit_found setup s ledger w (Probe v g) h = absurd cc
commit_found setup s ledger w (Assign v g a) h = absurd cc
commit_found setup s ledger w (Park instance t) h = absurd cc
commit_found setup s ledger w (Unpark instance t) h = absurd cc

-- a decision that isn't accepted commits nothing
refused_commits : (s : State) (w e : ℕ) (t : TaskId) (r : Option Refused) → (r ≡ None → ⊥) → commits_by s (Decide w e true) r t ≡ []
refused_commits s w e t None never = absurd (never refl)
refused_commits s w e t (Some refused) never = refl

none_by : (setup : Setup) (journal : List Entry) (ledger : List Account) (request : Request) (t : TaskId) → IsLedger setup journal ledger → Meets setup (at setup journal) request → commit_at ledger request ≡ None → commits_by (at setup journal) request (refusal setup (at setup journal) request) t ≡ []
none_by setup journal ledger (Decide w e true) t is m h = refused_commits (at setup journal) w e t (refusal setup (at setup journal) (Decide w e true)) (λ accepted. by (is_decidable (get_or ledger w blank) e) h ((decision_is_told setup journal w e true (get_or ledger w blank) (is.each w m).account).1 accepted))
  where
    by : (b : Bool) → cond b (Some w) None ≡ None → b ≡ true → ⊥
    by true g f = absurd cc
    by false g f = absurd cc
none_by setup journal ledger (Decide w e false) t is m h = refl
none_by setup journal ledger (Produce p rec) t is m h = refl
none_by setup journal ledger (Init v) t is m h = refl
none_by setup journal ledger (Add v e p) t is m h = refl
none_by setup journal ledger (Append v e number u p recs) t is m h = refl
none_by setup journal ledger (SendOffsets v e g u offsets order late) t is m h = refl
none_by setup journal ledger (MarkNext v) t is m h = refl
none_by setup journal ledger (Join v) t is m h = refl
none_by setup journal ledger (Expire v) t is m h = refl
none_by setup journal ledger (Hold v held) t is m h = refl
none_by setup journal ledger (Probe v g) t is m h = refl
none_by setup journal ledger (Assign v g a) t is m h = refl
none_by setup journal ledger (Park instance u) t is m h = refl
none_by setup journal ledger (Unpark instance u) t is m h = refl

pub nothing_committed : (setup : Setup) (journal : List Entry) (ledger : List Account) (entry : Entry) → IsLedger setup journal ledger → Meets setup (at setup journal) entry.request → commit_at ledger entry.request ≡ None → (t : TaskId) → NoCommit setup (at setup journal) (entry ∷ []) t
nothing_committed setup journal ledger entry is m none t =
    append-nil (commits_by (at setup journal) entry.request (refusal setup (at setup journal) entry.request) t) ∙ none_by setup journal ledger entry.request t is m none

-- ---- a commit that is accepted
pub record Accepted (setup : Setup) (journal : List Entry) (w : ℕ) (request : Request) : Type 0 where
  pub epoch : ℕ
  pub is : request ≡ Decide w epoch true
  pub few : w ≤ 16
  pub accepted : refusal setup (at setup journal) (Decide w epoch true) ≡ None

pub accepted_at : (setup : Setup) (journal : List Entry) (ledger : List Account) (w : ℕ) (request : Request) → IsLedger setup journal ledger → Meets setup (at setup journal) request → commit_at ledger request ≡ Some w → Accepted setup journal w request
accepted_at setup journal ledger w request is m found =
    let c = commit_found setup (at setup journal) ledger w request found in
    let few : w ≤ 16 = subst (Meets setup (at setup journal)) c.is m in
    record { epoch = c.epoch; is = c.is; few = few; accepted = (decision_is_told setup journal w c.epoch true (get_or ledger w blank) (is.each w few).account).0 c.decidable }

pub open_at : (ledger : List Account) (setup : Setup) (s : State) (w : ℕ) (request : Request) → commit_at ledger request ≡ Some w → is_some (get_or ledger w blank).undecided ≡ true
open_at ledger setup s w request found =
    let c = commit_found setup s ledger w request found in
    (and_parts (c.epoch == (get_or ledger w blank).epoch) (is_some (get_or ledger w blank).undecided) c.decidable).1

-- its entry is that of a commit, since the reply is the step's
commit_entry : (setup : Setup) (journal : List Entry) (w : ℕ) (entry : Entry) (a : Accepted setup journal w entry.request) → IsStep setup (at setup journal) entry → entry ≡ commit_of w a.epoch
commit_entry setup journal w entry a step =
    let reply : entry.reply ≡ Done = step.reply ∙ ap (λ (r : Request). reply_by (at setup journal) r (refusal setup (at setup journal) r)) a.is ∙ ap (reply_by (at setup journal) (Decide w a.epoch true)) a.accepted in
    λ i. record { request = a.is i; reply = reply i }

-- ---- all that is kept
module _ (d : DraftView) (setup : Setup) (journal : List Entry) (entry : Entry) (ledger : List Account) (tasks : List AuditedTask) where
  pub made_at : (w : ℕ) (may : MayKeep d setup journal (Some w) entry ledger tasks) → (a : Accepted setup journal w entry.request) → IsMade setup journal w a.epoch
  made_at w may a = record {
    network = may.network;
    before = may.before;
    history = subst (λ (e : Entry). IsHistory setup (journal ++ e ∷ [])) (commit_entry setup journal w entry a may.step) may.history;
    accepted = a.accepted;
  }

  -- the tasks rest behind the entry
  pub rested_without : MayKeep d setup journal None entry ledger tasks → (names_in tasks ≡ setup.tasks) × AreAudited d setup (journal ++ entry ∷ []) tasks
  rested_without may = (may.names, all_stay d setup journal entry tasks may.network may.history (nothing_committed setup journal ledger entry may.ledger_is may.step.meets (sym may.commit_is)) may.ready)

  pub rested_behind : (w : ℕ) (o : Open) (rested : List AuditedTask) → (may : MayKeep d setup journal (Some w) entry ledger tasks) → (get_or ledger w blank).undecided ≡ Some o →
      ((epoch : ℕ) → IsMade setup journal w epoch → HasOpen setup journal w o → (names_in tasks ≡ setup.tasks) → AreJudged d setup journal w tasks → (names_in rested ≡ setup.tasks) × AreAudited d setup (journal ++ commit_of w epoch ∷ []) rested) →
      (names_in rested ≡ setup.tasks) × AreAudited d setup (journal ++ entry ∷ []) rested
  rested_behind w o rested may some rests =
      let a = accepted_at setup journal ledger w entry.request may.ledger_is may.step.meets (sym may.commit_is) in
      let behind = rests a.epoch (made_at w may a) (kept_at setup journal ledger may.ledger_is w o a.few some) may.names may.ready in
      (behind.0, subst (λ (e : Entry). AreAudited d setup (journal ++ e ∷ []) rested) (sym (commit_entry setup journal w entry a may.step)) behind.1)

  pub kept_all : (commit : Option ℕ) (new : List Account) (rested : List AuditedTask) → MayKeep d setup journal commit entry ledger tasks → new ≡ ledger_after ledger entry → (names_in rested ≡ setup.tasks) × AreAudited d setup (journal ++ entry ∷ []) rested →
      IsPlayed d setup (journal ++ entry ∷ []) new rested
  kept_all commit new rested may noted behind = record {
    made = may.made;
    once = may.once;
    ledger_is = subst (IsLedger setup (journal ++ entry ∷ [])) (sym noted) (ledger_stays setup journal entry ledger may.step may.ledger_is);
    names = behind.0;
    audited = behind.1;
  }

-- ---- faithful entries
pub faithful_without : (setup : Setup) (journal : List Entry) (ledger : List Account) (request : Request) → IsLedger setup journal ledger → Meets setup (at setup journal) request → commit_at ledger request ≡ None → CommitsFaithfully setup (at setup journal) request
faithful_without setup journal ledger (Decide w e true) is m h = λ accepted. absurd (by (is_decidable (get_or ledger w blank) e) h ((decision_is_told setup journal w e true (get_or ledger w blank) (is.each w m).account).1 accepted))
  where
    by : (b : Bool) → cond b (Some w) None ≡ None → b ≡ true → ⊥
    by true g f = absurd cc
    by false g f = absurd cc
faithful_without setup journal ledger (Decide w e false) is m h = tt
faithful_without setup journal ledger (Produce p rec) is m h = tt
faithful_without setup journal ledger (Init v) is m h = tt
faithful_without setup journal ledger (Add v e p) is m h = tt
faithful_without setup journal ledger (Append v e number u p recs) is m h = tt
faithful_without setup journal ledger (SendOffsets v e g u offsets order late) is m h = tt
faithful_without setup journal ledger (MarkNext v) is m h = tt
faithful_without setup journal ledger (Join v) is m h = tt
faithful_without setup journal ledger (Expire v) is m h = tt
faithful_without setup journal ledger (Hold v held) is m h = tt
faithful_without setup journal ledger (Probe v g) is m h = tt
faithful_without setup journal ledger (Assign v g a) is m h = tt
faithful_without setup journal ledger (Park instance u) is m h = tt
faithful_without setup journal ledger (Unpark instance u) is m h = tt

some_open : (ledger : List Account) (w : ℕ) → is_some (get_or ledger w blank).undecided ≡ true → (o : Open) × ((get_or ledger w blank).undecided ≡ Some o)
some_open ledger w h = by (get_or ledger w blank).undecided refl h
  where
    by : (x : Option Open) → (get_or ledger w blank).undecided ≡ x → is_some x ≡ true → (o : Open) × ((get_or ledger w blank).undecided ≡ Some o)
    by None is g = absurd cc
    by (Some o) is g = (o, is)

pub faithful_commit : (d : DraftView) (setup : Setup) (journal : List Entry) (ledger : List Account) (w : ℕ) (request : Request) (tasks : List AuditedTask) → IsLedger setup journal ledger → Meets setup (at setup journal) request → commit_at ledger request ≡ Some w →
    names_in tasks ≡ setup.tasks → AreJudged d setup journal w tasks → CommitsFaithfully setup (at setup journal) request
faithful_commit d setup journal ledger w request tasks is m found names judged =
    let a = accepted_at setup journal ledger w request is m found in
    let o = some_open ledger w (open_at ledger setup (at setup journal) w request found) in
    subst (CommitsFaithfully setup (at setup journal)) (sym a.is)
    (λ accepted tx u. all_faithful d setup journal w tx u o.0 tasks (kept_at setup journal ledger is w o.0 a.few o.1) names judged)

pub faithful_ready : (d : DraftView) (setup : Setup) (journal : List Entry) (ledger : List Account) (commit : Option ℕ) (request : Request) (tasks : List AuditedTask) → IsLedger setup journal ledger → Meets setup (at setup journal) request → commit ≡ commit_at ledger request →
    names_in tasks ≡ setup.tasks → IsReady d setup journal commit tasks → CommitsFaithfully setup (at setup journal) request
faithful_ready d setup journal ledger None request tasks is m found names ready = faithful_without setup journal ledger request is m (sym found)
faithful_ready d setup journal ledger (Some w) request tasks is m found names ready = faithful_commit d setup journal ledger w request tasks is m (sym found) names ready
