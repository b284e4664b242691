-- What a task says of a commit, and where it rests behind it.
use Rattle.std.proofs.Common.{◌≡◌, ℕ, ◌≤◌, Bool, true, false, List, [], ◌∷◌, ◌++◌, Option, Some, None, refl, sym, ap, ap₂, subst, ◌∙◌}
use Rattle.std.specs.Prelude.{◌==◌}
use Rattle.std.proofs.lemmas.Bool.{true≢false, and_parts, and_from, eqb-true, eq-eqb}
use Rattle.ks_record.specs.declared.record.PartId.{PartId}
use Rattle.ks_record.specs.declared.record.TaskId.{TaskId}
use Rattle.ks_def_runs.specs.Run.{sent_to}
use Rattle.ks_plan.specs.Drafts.{DraftView}
use Rattle.ks_history.specs.declared.journal.Entry.{Entry}
use Rattle.ks_history.specs.declared.transaction.Pending.{Pending}
use Rattle.ks_history.specs.declared.transaction.Transaction.{Transaction}
use Rattle.ks_history.specs.declared.transaction.Producer.{Producer}
use Rattle.ks_history.specs.Partition.{recs, open_from, is_behind}
use Rattle.ks_history.specs.Machine.{TaskPlan, IsNetwork, network, has_topic}
use Rattle.ks_history.specs.State.{Setup, has_task, pending_of}
use Rattle.ks_history.specs.Step.{pending_at}
use Rattle.ks_history.specs.Faithful.{IsFaithfulTask, pending_offsets, outcome, capped, waiting_at, markers_of}
use Rattle.ks_history.specs.Follows.{TaskView}
use Rattle.ks_history.specs.History.{at, IsHistory}
use Rattle.ks_law_exactly_once.proofs.Appending.{open_is_appended}
use Rattle.ks_law_restore.specs.Views.{committed_view}
use Rattle.ks_law_audit.specs.Rested.{IsRested, HasTaken}
use Rattle.ks_law_audit.specs.Laws.{is_past, past_or, last_end, commit_of}
use Rattle.ks_law_audit.proofs.Behind.{behind_is_told}
use Rattle.ks_law_audit.proofs.Ending.{end_moves}
use Rattle.ks_law_audit.proofs.Logging.{open_is_logged}
use Rattle.ks_law_audit.proofs.Resting.{rested_stands, taken_rests}
use Rattle.ks_audit_ledger.specs.declared.account.Account.{Account}
use Rattle.ks_audit_ledger.specs.declared.account.Open.{Open}
use Rattle.ks_audit_ledger.specs.Accounts.{opened, sent_in}
use Rattle.ks_audit_ledger.specs.Offsets.{logged_in}
use Rattle.ks_task.specs.declared.task.Task.{Task}
use Rattle.ks_task.specs.Tasks.{task_view, IsTaskOf}
use Rattle.ks_audit_commit.specs.declared.audited.AuditedTask.{AuditedTask}
use Rattle.ks_audit_commit.specs.Naming.{may_go_on, GoesOn}
use Rattle.ks_audit_commit.specs.Ends.{end_in, are_from, moved}
use Rattle.ks_audit_commit.specs.Comparing.{are_made}
use Rattle.ks_audit_commit.specs.Judging.{IsAudited, IsResting, IsTaking, TakesPending, FrozenAs, IsCommit, Judges, MayRest, name_of}
use Rattle.ks_audit_commit.proofs.Naming.{goes_on, may_on}
use Rattle.ks_audit_commit.proofs.Ending.{from_each, all_from, ends_after}
use Rattle.ks_audit_commit.proofs.Compared.{made_is, is_made}

-- ---- a task at rest begins to take
module _ (d : DraftView) (setup : Setup) (journal : List Entry) (p : Pending) (task : Task) (resting : IsResting d setup journal p task) (inputs : List ℕ) (are : inputs ≡ setup.plan.inputs p.task.sub) where
  pub taking_begins : IsNetwork setup.plan → IsHistory setup journal → may_go_on (task_view task).inputs inputs p.offsets ≡ true → IsTaking d setup journal p task
  taking_begins net history may =
      let goes = goes_on (task_view task).inputs ((at setup journal).committed p.task) (setup.plan.inputs p.task.sub) p.offsets resting.once (ap (λ l. may_go_on (task_view task).inputs l p.offsets) (sym are) ∙ may) in
      record {
        of = resting.of;
        name = resting.name;
        known = resting.known;
        inputs = goes.named;
        stands = rested_stands setup journal (task_view task) net history resting.rests;
        before = goes.ahead;
      }

  position_is : (topic : ℕ) → has_topic topic (setup.plan.inputs p.task.sub) ≡ true → (task_view task).inputs topic ≡ (at setup journal).committed p.task topic
  position_is topic h =
      resting.rests.inputs topic (ap (λ (t : TaskId). has_topic topic (setup.plan.inputs t.sub)) resting.name ∙ h)
      ∙ ap (λ (t : TaskId). (at setup journal).committed t topic) resting.name

  pub taking_fails : may_go_on (task_view task).inputs inputs p.offsets ≡ false → (w : ℕ) → IsFaithfulTask setup (at setup journal) w p → ⊥
  taking_fails none w f =
      let goes : GoesOn (task_view task).inputs ((at setup journal).committed p.task) (setup.plan.inputs p.task.sub) p.offsets = record {
        named = f.inputs;
        ahead = λ topic h. subst (λ n. n ≤ pending_offsets (at setup journal) p topic) (sym (position_is topic h)) (f.committed topic);
      } in
      true≢false (sym (may_on (task_view task).inputs ((at setup journal).committed p.task) (setup.plan.inputs p.task.sub) p.offsets goes) ∙ ap (λ l. may_go_on (task_view task).inputs l p.offsets) (sym are) ∙ none)

-- ---- the transaction of a commit
undecided_of : (producer : Producer) (t : TaskId) (p : Pending) → pending_of t (pending_at producer) ≡ Some p → (tx : Transaction) × (producer.undecided ≡ Some tx)
undecided_of producer t p is = by producer.undecided refl
  where
    by : (u : Option Transaction) → producer.undecided ≡ u → (tx : Transaction) × (producer.undecided ≡ Some tx)
    by None none = absurd (let g : None ≡ Some p = sym (ap (λ (o : Option Transaction). pending_of t (elim o as (λ _. List Pending) [ None ↦ [] | Some tx ↦ tx.pending ])) none) ∙ is in cc)
    by (Some tx) some = (tx, some)

module _ (d : DraftView) (setup : Setup) (journal : List Entry) (net : IsNetwork setup.plan) (history : IsHistory setup journal) (p : Pending) (old : AuditedTask) (audited : IsAudited d setup journal old) (same : p.task ≡ name_of old) (open_now : Open) where
  module _ (w : ℕ) (a : Account) (undecided : a.undecided ≡ Some open_now) (commit : IsCommit setup journal w a p) where
    tx_is : (tx : Transaction) × (((at setup journal).producer w).undecided ≡ Some tx)
    tx_is = undecided_of ((at setup journal).producer w) p.task p commit.pending

    behind_at : (q : PartId) → is_behind (waiting_at (markers_of (at setup journal)) q) w ((at setup journal).producer w).epoch p.task ((at setup journal).partition q) ≡ is_past (end_in q old.ends.items) (logged_in p.task q open_now.sent)
    behind_at q =
        behind_is_told setup journal w tx_is.0 p.task q net history tx_is.1
        ∙ ap₂ is_past (ap (λ (t : TaskId). last_end (at setup journal) t q) same ∙ sym (audited.ends q))
        (open_is_logged setup journal net history w tx_is.0 tx_is.1 p.task q ∙ sym (commit.offsets p.task q) ∙ ap (λ (o : Option Open). logged_in p.task q (opened o).sent) undecided)

    sent_is : (q : PartId) → sent_in p.task q open_now.sent ≡ recs (open_from w ((at setup journal).producer w).epoch p.task 0 ((at setup journal).partition q))
    sent_is q =
        ap (λ (o : Option Open). sent_in p.task q (opened o).sent) (sym undecided)
        ∙ commit.account.sent p.task q
        ∙ sym (open_is_appended setup journal net history w tx_is.0 tx_is.1 p.task q)

  -- ---- the commit isn't faithful
  not_faithful : (w : ℕ) (told : Bool) (new : AuditedTask) → told ≡ false → new.ends ≡ old.ends → (IsFaithfulTask setup (at setup journal) w p → ⊥) → Judges d setup journal w p told old new
  not_faithful w told new is ends never = record {
    verdict = (λ h. absurd (true≢false (sym h ∙ is)), λ f. absurd (never f));
    ends = ends;
    of = λ h. absurd (true≢false (sym h ∙ is));
    took = λ h. absurd (true≢false (sym h ∙ is));
  }

  pub judged_ahead : (t : TaskId) → t ≡ name_of old → are_from t old.ends.items open_now.sent open_now.sent ≡ false → (w : ℕ) (a : Account) → a.undecided ≡ Some open_now → IsCommit setup journal w a p → Judges d setup journal w p false old old
  judged_ahead t named none w a undecided commit =
      not_faithful w false old refl refl (λ f.
      true≢false (sym (all_from p.task old.ends.items open_now.sent (λ q. sym (behind_at w a undecided commit q) ∙ f.behind q))
      ∙ ap (λ (u : TaskId). are_from u old.ends.items open_now.sent open_now.sent) (same ∙ sym named) ∙ none))

  pub judged_not_taken : (done : Bool) (new : AuditedTask) → done ≡ false → new.ends ≡ old.ends → TakesPending d setup journal p done new.task → (w : ℕ) (a : Account) → a.undecided ≡ Some open_now → IsCommit setup journal w a p → Judges d setup journal w p false old new
  judged_not_taken done new is ends takes w a undecided commit = not_faithful w false new refl ends (takes.no is w)

  -- ---- it is, exactly where what was made was sent
  pub judged : (t : TaskId) (plan : TaskPlan) (done told : Bool) (new : AuditedTask) → t ≡ name_of old → are_from t old.ends.items open_now.sent open_now.sent ≡ true → done ≡ true → new.ends ≡ old.ends → TakesPending d setup journal p done new.task →
      FrozenAs plan (task_view new.task) p.late open_now.sent told → (w : ℕ) (a : Account) → a.undecided ≡ Some open_now → IsCommit setup journal w a p → Judges d setup journal w p told old new
  judged t plan done told new named behind did ends takes frozen w a undecided commit =
      let took : HasTaken setup (at setup journal) p (task_view new.task) = takes.took did in
      let name : (task_view new.task).task ≡ p.task = took.task in
      let now = takes.named did in
      let late : (told ≡ true) → capped (outcome setup (at setup journal) p.task (pending_offsets (at setup journal) p) p.order).late ≡ p.late =
      λ h. sym took.late ∙ sym frozen.is.late ∙ sym (eqb-true p.late frozen.frozen.late (and_parts (p.late == frozen.frozen.late) (are_made (task_view new.task).task frozen.frozen.outputs open_now.sent) (sym frozen.same ∙ h)).0) in
      let made : (told ≡ true) → (q : PartId) → sent_to (network setup.plan) q (outcome setup (at setup journal) p.task (pending_offsets (at setup journal) p) p.order).made ≡ recs (open_from w ((at setup journal).producer w).epoch p.task 0 ((at setup journal).partition q)) =
      λ h q.
      sym (took.made q) ∙ sym (frozen.is.outputs q)
      ∙ made_is (task_view new.task).task frozen.frozen.outputs open_now.sent frozen.is.once (and_parts (p.late == frozen.frozen.late) (are_made (task_view new.task).task frozen.frozen.outputs open_now.sent) (sym frozen.same ∙ h)).1 q
      ∙ ap (λ (u : TaskId). sent_in u q open_now.sent) name ∙ sent_is w a undecided commit q in
      let all : are_from p.task old.ends.items open_now.sent open_now.sent ≡ true = ap (λ (u : TaskId). are_from u old.ends.items open_now.sent open_now.sent) (same ∙ sym named) ∙ behind in
      record {
        verdict = (
          λ h. record {
            inputs = now.inputs;
            committed = now.committed;
            stable = now.stable;
            order = now.order;
            made = made h;
            late = late h;
            behind = λ q. behind_at w a undecided commit q ∙ from_each p.task old.ends.items open_now.sent all q;
          },
          λ f. frozen.same ∙ and_from (p.late == frozen.frozen.late) (are_made (task_view new.task).task frozen.frozen.outputs open_now.sent)
              (eq-eqb p.late frozen.frozen.late (sym f.late ∙ sym took.late ∙ sym frozen.is.late))
              (is_made (task_view new.task).task frozen.frozen.outputs open_now.sent frozen.is.once
              (λ q. frozen.is.outputs q ∙ took.made q ∙ f.made q ∙ sym (sent_is w a undecided commit q) ∙ ap (λ (u : TaskId). sent_in u q open_now.sent) (sym name))),
        );
        ends = ends;
        of = λ h. takes.of did;
        took = λ h. took;
      }

-- ---- behind the commit
pub rested : (d : DraftView) (setup : Setup) (journal : List Entry) (w epoch : ℕ) (open_now : Open) (p : Pending) (t : TaskId) (old new : AuditedTask) → MayRest d setup journal w epoch open_now p old → t ≡ name_of old →
    IsTaskOf d new.task → task_view new.task ≡ committed_view (task_view old.task) [] → new.ends.items ≡ moved t old.ends.items open_now.sent → IsAudited d setup (journal ++ commit_of w epoch ∷ []) new
rested d setup journal w epoch open_now p t old new may named of view ends =
    let tx = undecided_of ((at setup journal).producer w) p.task p may.pending in
    let name : name_of new ≡ name_of old = ap (λ (v : TaskView). v.task) view in
    record {
      of = of;
      known = ap (λ (u : TaskId). has_task u setup.tasks) name ∙ may.known;
      rests = subst (IsRested setup (at setup (journal ++ commit_of w epoch ∷ []))) (sym view) (taken_rests setup journal w epoch p (task_view old.task) may.network may.history may.accepted may.pending may.took);
      ends = λ q.
          ap (end_in q) ends
          ∙ ap (λ (u : TaskId). end_in q (moved u old.ends.items open_now.sent)) named
          ∙ ends_after (name_of old) q open_now.sent old.ends.items
          ∙ ap₂ past_or (may.ends q) (may.offsets q ∙ sym (open_is_logged setup journal may.network may.before w tx.0 tx.1 (name_of old) q))
          ∙ sym (end_moves setup journal w epoch (name_of old) q may.network may.history may.accepted)
          ∙ ap (λ (u : TaskId). last_end (at setup (journal ++ commit_of w epoch ∷ [])) u q) (sym name);
    }
