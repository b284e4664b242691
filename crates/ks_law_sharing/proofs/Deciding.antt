-- A transaction that may be committed may be committed still after entries of others.
use Rattle.std.proofs.Common.{◌≡◌, ◌⊎◌, inl, inr, ℕ, ◌≤◌, Bool, true, false, not, cond, List, [], ◌∷◌, ◌++◌, length, Option, Some, None, refl, sym, ap, ap₂, subst, ◌∙◌, arith}
use Rattle.ks_def_runs.specs.Bytes.{empty_store}
use Rattle.ks_record.specs.Records.{Record as Rec}
use Rattle.ks_record.specs.declared.record.PartId.{PartId}
use Rattle.ks_record.specs.declared.record.TaskId.{TaskId}
use Rattle.ks_record.specs.declared.assignment.Refused.{Refused}
use Rattle.ks_record.specs.Parts.{same_task}
use Rattle.ks_def_runs.specs.Run.{Outcome, sent_to}
use Rattle.ks_history.specs.declared.journal.Request.TheVariants.{Decide}
use Rattle.ks_history.specs.declared.journal.Entry.{Entry}
use Rattle.ks_history.specs.declared.transaction.Pending.{Pending}
use Rattle.ks_history.specs.declared.transaction.Transaction.{Transaction}
use Rattle.ks_history.specs.declared.transaction.Producer.{Producer}
use Rattle.ks_history.specs.Partition.{Logged, stable, readable, recs, past_from, below, open_from, is_behind, is_none}
use Rattle.ks_history.specs.Machine.{Stores, latest, network, machine, part_of, has_topic, IsNetwork}
use Rattle.ks_history.specs.State.{State, Setup, start, pending_of, offset_in}
use Rattle.ks_history.specs.Step.{refusal, after, or_else, fenced, none_undecided, has_pending}
use Rattle.ks_history.specs.Faithful.{fold as fold_of, folds, taken, outcome, capped, pending_offsets, waiting_at, markers_of, marker_among, IsFaithfulTask, IsFaithful}
use Rattle.ks_history.specs.History.{state_after, at, Each, IsStep, IsHistory, CommitsFaithfully}
use Rattle.ks_history.proofs.Histories.{state_after-append, history_front}
use Rattle.ks_history.proofs.Names.{same_task-is}
use Rattle.ks_law_exactly_once.proofs.Commits.{pending_is}
use Rattle.ks_law_exactly_once.proofs.Slots.{readable_decided}
use Rattle.ks_law_exactly_once.proofs.Sound.{Sound}
use Rattle.ks_law_restore.specs.Commits.{commits_for}
use Rattle.ks_law_restore.proofs.Growing.{Grown, Rests, rests_after}
use Rattle.ks_law_restore.proofs.Lasting.{Each-back, then_faithful, then_sound, sound_before, sound_behind, then_grown, whole_by_own}
use Rattle.ks_history.specs.Touched.{untouched}
use Rattle.ks_law_sharing.specs.Others.{AllFrom, FaithfulStays}
use Rattle.ks_law_sharing.proofs.Rising.{rises, rises_after}
use Rattle.ks_law_sharing.proofs.Touching.{is_others, untouched_parts}
use Rattle.ks_law_sharing.proofs.Leaving.{Leaves, IsSame, leaves, leaves_after, is_same, undecided_or, open_same}
use Rattle.ks_law_sharing.proofs.Places.{AllBelow, behind_of, bound_of}
use Rattle.ks_law_restore.proofs.Owning.{pending_is as has_is}
use Rattle.ks_law_sharing.proofs.Pending.{IsOne, one_step, one_at, commits_none}

-- the pending offsets of a task are the task's
found_task : (t : TaskId) (p : Pending) (ps : List Pending) → pending_of t ps ≡ Some p → t ≡ p.task
found_task t p [] h = absurd cc
found_task t p (q ∷ ps) h = by (same_task t q.task) refl h (λ g. found_task t p ps g)
  where
    by : (b : Bool) → same_task t q.task ≡ b → cond b (Some q) (pending_of t ps) ≡ Some p → (pending_of t ps ≡ Some p → t ≡ p.task) → t ≡ p.task
    by true is e on = let same : q ≡ p = cc in same_task-is t q.task is ∙ ap (λ (x : Pending). x.task) same
    by false is e on = on e

-- ---- from one state to a later one, in which nothing was committed for a task
module _ (setup : Setup) (s new : State) (before : Sound setup s) (behind : Sound setup new) (grown : Grown s new) where
  folds_kept : (t : TaskId) → Rests t s new → folds setup new t ≡ folds setup s t
  folds_kept t rests = λ i topic. by topic (has_topic topic (setup.plan.changelogs t.sub)) refl i
    where
      by : (topic : ℕ) (b : Bool) → has_topic topic (setup.plan.changelogs t.sub) ≡ b → cond b (fold_of new (part_of topic t)) empty_store ≡ cond b (fold_of s (part_of topic t)) empty_store
      by topic true h = ap (λ (d : List Logged). latest (recs d)) (whole_by_own setup s new before behind grown t topic h (rests.own (part_of topic t)))
      by topic false h = refl

  taken_kept : (t : TaskId) (upto : ℕ → ℕ) → Rests t s new → ((topic : ℕ) → has_topic topic (setup.plan.inputs t.sub) ≡ true → upto topic ≤ stable (s.partition (part_of topic t))) → taken setup new t upto ≡ taken setup s t upto
  taken_kept t upto rests within = λ i topic. by topic (has_topic topic (setup.plan.inputs t.sub)) refl i
    where
      by : (topic : ℕ) (b : Bool) → has_topic topic (setup.plan.inputs t.sub) ≡ b →
          cond b (past_from (new.committed t topic) (below (upto topic) (readable (new.partition (part_of topic t))))) []
          ≡ cond b (past_from (s.committed t topic) (below (upto topic) (readable (s.partition (part_of topic t))))) []
      by topic true h =
          let q = part_of topic t in
          ap₂ past_from (rests.committed topic)
          (readable_decided (waiting_at (markers_of new) q) (upto topic) 0 (new.partition q) (omega (arith, within topic h, grown.rises q))
          ∙ grown.fixed q (upto topic) (within topic h)
          ∙ sym (readable_decided (waiting_at (markers_of s) q) (upto topic) 0 (s.partition q) (omega (arith, within topic h))))
      by topic false h = refl

  upto_kept : (p : Pending) → Rests p.task s new → pending_offsets new p ≡ pending_offsets s p
  upto_kept p rests = λ i topic. offset_in (rests.committed topic i) topic p.offsets

  module _ (w : ℕ) (empty : (s.producer w).waiting ≡ []) (l : Leaves w s new) (same : IsSame w s new l.slots) where
    behind_kept : (t : TaskId) → Rests t s new → (e : ℕ) (q : PartId) → waiting_at (markers_of s) q w e ≡ None
        → is_behind (waiting_at (markers_of s) q) w e t (s.partition q) ≡ true → is_behind (waiting_at (markers_of new) q) w e t (new.partition q) ≡ true
    behind_kept t rests e q none is =
        let bound = bound_of w e t (waiting_at (markers_of s) q) 0 (s.partition q) none is in
        behind_of w e t (waiting_at (markers_of new) q) bound.0 0 (new.partition q)
        (subst (AllBelow bound.0) (sym (rests.own q)) bound.2) (subst (AllFrom bound.0) (sym (open_same w s new l same e t q)) bound.3)

    task_kept : (p : Pending) → Rests p.task s new → IsFaithfulTask setup s w p → IsFaithfulTask setup new w p
    task_kept p rests f =
        let e : ℕ = (s.producer w).epoch in
        let epoch : (new.producer w).epoch ≡ e = ap (λ (x : Producer). x.epoch) same.0 in
        let upto : pending_offsets new p ≡ pending_offsets s p = upto_kept p rests in
        let reads : taken setup new p.task (pending_offsets new p) ≡ taken setup s p.task (pending_offsets s p) =
        ap (taken setup new p.task) upto ∙ taken_kept p.task (pending_offsets s p) rests f.stable in
        let makes : outcome setup new p.task (pending_offsets new p) p.order ≡ outcome setup s p.task (pending_offsets s p) p.order =
        ap₂ (λ (m : Stores) (i : ℕ → List Logged). machine setup.plan p.task m i p.order) (folds_kept p.task rests) reads in
        record {
          inputs = f.inputs;
          committed = λ topic. omega (arith, ap (λ (u : ℕ → ℕ). u topic) upto, rests.committed topic, f.committed topic);
          stable = λ topic h. omega (arith, ap (λ (u : ℕ → ℕ). u topic) upto, f.stable topic h, grown.rises (part_of topic p.task));
          order = λ topic. f.order topic ∙ ap (λ (r : ℕ → List Logged). length (r topic)) (sym reads);
          made = λ q. ap (λ (o : Outcome PartId Stores Rec). sent_to (network setup.plan) q o.made) makes ∙ f.made q
              ∙ sym (ap (λ d. recs (open_from w d p.task 0 (new.partition q))) epoch ∙ ap recs (open_same w s new l same e p.task q));
          late = ap (λ (o : Outcome PartId Stores Rec). capped o.late) makes ∙ f.late;
          behind = λ q. subst (λ d. is_behind (waiting_at (markers_of new) q) w d p.task (new.partition q) ≡ true) (sym epoch)
              (behind_kept p.task rests e q (ap (marker_among q e) empty) (f.behind q));
        }

    pub tx_kept : (tx : Transaction) → ((t : TaskId) (p : Pending) → pending_of t tx.pending ≡ Some p → Rests p.task s new) → IsFaithful setup s w tx → IsFaithful setup new w tx
    tx_kept tx rests f = record { named = f.named; each = λ t p h. task_kept p (rests t p h) (f.each t p h) }

-- ---- what a producer has pending, others don't commit
nothing_committed : (setup : Setup) (w : ℕ) (t : TaskId) (entries : List Entry) (s : State) → Each IsStep setup s entries → untouched w entries ≡ true → (s.producer w).waiting ≡ []
    → ((state_after setup s entries).producer w).epoch ≡ (s.producer w).epoch → IsOne s t → has_pending (s.producer w) t ≡ true → commits_for setup s entries t ≡ []
nothing_committed setup w t [] s steps quiet empty same one has = refl
nothing_committed setup w t (entry ∷ entries) s steps quiet empty same one has =
    let parts = untouched_parts w entry entries quiet in
    let r : Option Refused = refusal setup s entry.request in
    let mid : State = after setup s entry.request in
    let up : (s.producer w).epoch ≤ (mid.producer w).epoch = (rises s entry.request r).epochs w in
    let on : (mid.producer w).epoch ≤ ((state_after setup mid entries).producer w).epoch = (rises_after setup entries mid).epochs w in
    let others = is_others setup s w entry steps.0 parts.0 in
    let stays : mid.producer w ≡ s.producer w = (is_same w s mid (leaves s w entry.request r others) empty (omega (arith, up, on, same))).0 in
    ap₂ (λ x y. x ++ y) (commits_none s w entry.request r t others (one.one w has))
    (nothing_committed setup w t entries mid steps.1 parts.1 (ap (λ (p : Producer). p.waiting) stays ∙ empty) (omega (arith, up, on, same))
    (one_step setup s entry t steps.0 one) (ap (λ (p : Producer). has_pending p t) stays ∙ has))

-- ---- the law
module _ (setup : Setup) (net : IsNetwork setup.plan) (journal more : List Entry) (history : IsHistory setup (journal ++ more)) (w : ℕ) (quiet : untouched w more ≡ true) where
  then_steps : Each IsStep setup (at setup journal) more
  then_steps = Each-back IsStep setup start journal more history.legal

  -- nothing is committed for a task that the producer has pending
  pending_rests : (tx : Transaction) (t : TaskId) (p : Pending) → ((at setup journal).producer w).undecided ≡ Some tx → ((state_after setup (at setup journal) more).producer w).epoch ≡ ((at setup journal).producer w).epoch →
      pending_of t tx.pending ≡ Some p → Rests p.task (at setup journal) (state_after setup (at setup journal) more)
  pending_rests tx t p is same h =
      let s : State = at setup journal in
      let early : IsHistory setup journal = history_front setup journal (journal ++ more) (more, refl) history in
      let empty : (s.producer w).waiting ≡ [] = (sound_before setup net journal more history).markers w tx is in
      let named : t ≡ p.task = found_task t p tx.pending h in
      let has : has_pending (s.producer w) p.task ≡ true =
      has_is (s.producer w) p.task
      ∙ ap (λ l. not (is_none (pending_of p.task l))) (pending_is (s.producer w) tx is)
      ∙ ap (λ o. not (is_none o)) (ap (λ u. pending_of u tx.pending) (sym named) ∙ h) in
      rests_after setup net p.task more s (then_faithful setup net journal more history) (then_sound setup net journal more history)
      (nothing_committed setup w p.task more s then_steps quiet empty same (one_at setup journal p.task early) has)

  still_faithful : (e : ℕ) → CommitsFaithfully setup (at setup journal) (Decide w e true) → CommitsFaithfully setup (state_after setup (at setup journal) more) (Decide w e true)
  still_faithful e may free tx is = by (undecided_or w (at setup journal) (state_after setup (at setup journal) more) l)
    where
      l : Leaves w (at setup journal) (state_after setup (at setup journal) more)
      l = leaves_after setup w more (at setup journal) then_steps quiet

      by : ((((state_after setup (at setup journal) more).producer w).undecided ≡ None) ⊎ ((((state_after setup (at setup journal) more).producer w).undecided ≡ ((at setup journal).producer w).undecided) × (((state_after setup (at setup journal) more).producer w).epoch ≡ ((at setup journal).producer w).epoch)))
          → IsFaithful setup (state_after setup (at setup journal) more) w tx
      by (inl none) = absurd cc
      by (inr same) =
          let s : State = at setup journal in
          let new : State = state_after setup (at setup journal) more in
          let before = sound_before setup net journal more history in
          let was : (s.producer w).undecided ≡ Some tx = sym same.0 ∙ is in
          let empty : (s.producer w).waiting ≡ [] = before.markers w tx was in
          let stays = is_same w s new l empty same.1 in
          let allowed : refusal setup s (Decide w e true) ≡ None = ap (λ (p : Producer). or_else (fenced p e) (none_undecided p)) (sym stays.0) ∙ free in
          tx_kept setup s new before (sound_behind setup net journal more history) (then_grown setup net journal more history) w empty l stays tx
          (λ t p h. pending_rests tx t p was same.1 h) (may allowed tx was)

pub faithful_stays : FaithfulStays
faithful_stays setup journal more w e net history quiet may =
    subst (λ (k : State). CommitsFaithfully setup k (Decide w e true)) (sym (state_after-append setup start journal more)) (still_faithful setup net journal more history w quiet e may)
