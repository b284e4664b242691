-- A transaction that holds its tasks' work whole is faithful where nobody else committed for them since it began.
use Rattle.std.proofs.Common.{◌≡◌, ℕ, true, List, ◌++◌, length, Some, sym, ap, subst, ◌∙◌, arith}
use Rattle.ks_record.specs.declared.record.PartId.{PartId}
use Rattle.ks_record.specs.declared.record.TaskId.{TaskId}
use Rattle.ks_history.specs.declared.journal.Entry.{Entry}
use Rattle.ks_history.specs.declared.transaction.Pending.{Pending}
use Rattle.ks_history.specs.declared.transaction.Transaction.{Transaction}
use Rattle.ks_history.specs.Partition.{recs, open_from, is_behind, by_sender}
use Rattle.ks_history.specs.Machine.{IsNetwork}
use Rattle.ks_history.specs.State.{State, Setup, start, has_task, pending_of}
use Rattle.ks_history.specs.Faithful.{decided, waiting_at, markers_of, IsFaithfulTask, IsFaithful}
use Rattle.ks_history.specs.History.{state_after, at, IsHistory}
use Rattle.ks_history.proofs.Histories.{state_after-append}
use Rattle.ks_law_exactly_once.proofs.Commits.{pending_is}
use Rattle.ks_law_exactly_once.proofs.Quiet.{tx_is}
use Rattle.ks_law_restore.specs.Views.{WorkView, IsWork, pending_work, recs_at}
use Rattle.ks_law_restore.specs.Commits.{NoCommit}
use Rattle.ks_law_restore.proofs.Growing.{Rests, rests_after}
use Rattle.ks_law_restore.proofs.Lasting.{then_faithful, then_sound}
use Rattle.ks_law_sharing.proofs.Places.{AllBelow, behind_of, task_under}
use Rattle.ks_law_commit.specs.Building.{Contents, IsBuilding}
use Rattle.ks_law_commit.specs.Committing.{Holds, HoldsWork, BuildingFaithful}

module _ (setup : Setup) (net : IsNetwork setup.plan) (journal more : List Entry) (history : IsHistory setup (journal ++ more)) (w e : ℕ) (c : Contents)
    (built : IsBuilding (at setup journal) (at setup (journal ++ more)) w e c) where
  -- where nothing was committed for a task, its records stand behind all that is decided of it
  stands_behind : (t : TaskId) → NoCommit setup (at setup journal) more t → (q : PartId) → is_behind (waiting_at (markers_of (at setup (journal ++ more))) q) w e t ((at setup (journal ++ more)).partition q) ≡ true
  stands_behind t none q =
      let s : State = at setup journal in
      let rests : Rests t s (state_after setup s more) = rests_after setup net t more s (then_faithful setup net journal more history) (then_sound setup net journal more history) none in
      let same : by_sender (Some t) (decided (at setup (journal ++ more)) q) ≡ by_sender (Some t) (decided s q) =
      ap (λ (k : State). by_sender (Some t) (decided k q)) (state_after-append setup start journal more) ∙ rests.own q in
      behind_of w e t (waiting_at (markers_of (at setup (journal ++ more))) q) (length (s.partition q)) 0 ((at setup (journal ++ more)).partition q)
      (subst (AllBelow (length (s.partition q))) (sym same) (task_under t (waiting_at (markers_of s) q) (length (s.partition q)) 0 (s.partition q) (omega arith)))
      (built.since t q)

  work_faithful : (f : WorkView) → Holds c f → IsWork setup (at setup (journal ++ more)) f → NoCommit setup (at setup journal) more f.task → IsFaithfulTask setup (at setup (journal ++ more)) w (pending_work f)
  work_faithful f holds work none =
      let new : State = at setup (journal ++ more) in
      record {
        inputs = work.inputs;
        committed = work.committed;
        stable = work.stable;
        order = work.order;
        made = λ q. work.made q ∙ sym (subst (λ d. recs (open_from w d f.task 0 (new.partition q)) ≡ recs_at q f.outputs) (sym built.epoch) (built.records f.task q ∙ holds.records q));
        late = work.late;
        behind = λ q. subst (λ d. is_behind (waiting_at (markers_of new) q) w d f.task (new.partition q) ≡ true) (sym built.epoch) (stands_behind f.task none q);
      }

  tx_faithful : HoldsWork setup (at setup (journal ++ more)) c → ((t : TaskId) (p : Pending) → c.pending t ≡ Some p → NoCommit setup (at setup journal) more t)
      → (tx : Transaction) → ((at setup (journal ++ more)).producer w).undecided ≡ Some tx → IsFaithful setup (at setup (journal ++ more)) w tx
  tx_faithful holds none tx is = record {
    named = λ t h.
        let n = holds.named t (sym (built.tasks t) ∙ ap (λ (x : Transaction). has_task t x.tasks) (tx_is ((at setup (journal ++ more)).producer w) tx is) ∙ h) in
        (n.0, pending t ∙ n.1);
    each = λ t p h. each t p (sym (pending t) ∙ h);
  }
    where
      pending : (t : TaskId) → pending_of t tx.pending ≡ c.pending t
      pending t = ap (pending_of t) (sym (pending_is ((at setup (journal ++ more)).producer w) tx is)) ∙ built.pending t

      each : (t : TaskId) (p : Pending) → c.pending t ≡ Some p → IsFaithfulTask setup (at setup (journal ++ more)) w p
      each t p here =
          let g = holds.each t p here in
          let e : Some (pending_work g.0) ≡ Some p = sym g.2.pending ∙ ap c.pending g.1 ∙ here in
          let f : pending_work g.0 ≡ p = cc in
          subst (IsFaithfulTask setup (at setup (journal ++ more)) w) f (work_faithful g.0 g.2 g.3 (subst (NoCommit setup (at setup journal) more) (sym g.1) (none t p here)))

pub building_faithful : BuildingFaithful
building_faithful setup journal more w e c net history built holds none free tx is = tx_faithful setup net journal more history w e c built holds none tx is
