-- A task that is made of a replica that has reached the ends, while nobody commits for it.
use Rattle.std.proofs.Common.{◌≡◌, ℕ, ◌+◌, ◌≤◌, ◌<◌, Bool, true, false, cond, List, [], ◌∷◌, ◌++◌, length, Some, None, refl, sym, ap, subst, ◌∙◌, arith, append_assoc, ⊎_elim}
use Rattle.std.specs.Prelude.{◌==◌}
use Rattle.std.proofs.lemmas.Bool.{eqb-true, cases_lt}
use Rattle.ks_record.specs.declared.record.PartId.{PartId}
use Rattle.ks_record.specs.declared.record.TaskId.{TaskId}
use Rattle.ks_record.specs.declared.assignment.Refused.TheVariants.{OldGeneration}
use Rattle.ks_history.specs.declared.journal.Entry.{Entry}
use Rattle.ks_history.specs.declared.partition.Slot.{Slot}
use Rattle.ks_history.specs.declared.partition.Slot.TheVariants.{Plain, Sent, Mark}
use Rattle.ks_history.specs.Partition.{below, decided_from, decision, next_mark, is_commit}
use Rattle.ks_history.specs.Machine.{IsNetwork, part_of, has_topic}
use Rattle.ks_history.specs.State.{State, Setup, start}
use Rattle.ks_history.specs.Step.{or_else, old_generation, not_assigned, unstable}
use Rattle.ks_history.specs.Faithful.{decided, waiting_at, markers_of}
use Rattle.ks_history.specs.Reads.{committed_refusal}
use Rattle.ks_history.specs.History.{state_after, at, IsHistory}
use Rattle.ks_history.proofs.Histories.{state_after-append, history_front}
use Rattle.ks_law_exactly_once.proofs.Refusals.{both_none}
use Rattle.ks_law_exactly_once.proofs.Slots.{Waiting}
use Rattle.ks_history.specs.declared.transaction.Pending.{Pending}
use Rattle.ks_history.specs.Step.{refusal, after}
use Rattle.ks_law_restore.specs.Commits.{commits_by, commits_for, NoCommit}
use Rattle.ks_law_restore.specs.Replicas.{restored_view}
use Rattle.ks_law_restore.specs.Views.{Stands}
use Rattle.ks_law_restore.proofs.Growing.{Rests, rests_after}
use Rattle.ks_law_restore.proofs.Lasting.{then_faithful, then_sound, sound_before, sound_behind, then_grown, whole_by_own}
use Rattle.ks_law_restore.proofs.Offsets.{below_in}
use Rattle.ks_law_restore.proofs.Replicas.{restored_stands}
use Rattle.ks_history.specs.Touched.{touched}
use Rattle.ks_law_sharing.specs.Tasks.{IsAssigned, RestoredIsActive}
use Rattle.ks_law_restore.proofs.Owning.{is_owner}
use Rattle.ks_law_sharing.proofs.Pending.{none_counted, one_at}
use Rattle.ks_law_sharing.proofs.Assigned.{assigned_stays, is_untouched}

-- ---- what an answer of committed offsets tells
same_generation : (s : State) (g : ℕ) → old_generation s g ≡ None → s.generation ≡ g
same_generation s g h = by (g == s.generation) refl h
  where
    by : (b : Bool) → (g == s.generation) ≡ b → cond b None (Some (OldGeneration s.generation)) ≡ None → s.generation ≡ g
    by true is e = sym (eqb-true g s.generation is)
    by false is e = absurd cc

assigned_at : (setup : Setup) (journal : List Entry) (w g : ℕ) (t : TaskId) → IsHistory setup journal → committed_refusal (at setup journal) w g t ≡ None → IsAssigned (at setup journal) w g t
assigned_at setup journal w g t history free =
    let s : State = at setup journal in
    let a = both_none (old_generation s g) (or_else (not_assigned s w t) (unstable s t)) free in
    let b = both_none (not_assigned s w t) (unstable s t) a.1 in
    record {
      generation = same_generation s g a.0;
      place = is_owner s w t b.0;
      pending = λ v ne. ⊎_elim
          (λ (less : v < 17). none_counted s t (λ k. true) 17 0 b.1 v refl (omega arith) (omega (arith, less)))
          (λ (more : 17 ≤ v). (one_at setup journal t history).few v more)
          (cases_lt v 17);
    }

-- ---- what stands below the end
all_below : (waiting : Waiting) (high at : ℕ) (slots : List Slot) → at + length slots ≤ high → below high (decided_from waiting at slots) ≡ decided_from waiting at slots
all_below waiting high at [] h = refl
all_below waiting high at (Plain rec ∷ slots) h = below_in high _ _ (omega (arith, h)) ∙ ap (λ l. record { offset = at; sender = None; rec = rec } ∷ l) (all_below waiting high (at + 1) slots (omega (arith, h)))
all_below waiting high at (Sent w e number task rec ∷ slots) h = by (is_commit (decision (next_mark w e slots) (waiting w e))) (all_below waiting high (at + 1) slots (omega (arith, h)))
  where
    by : (b : Bool) → below high (decided_from waiting (at + 1) slots) ≡ decided_from waiting (at + 1) slots →
        below high (cond b (record { offset = at; sender = Some task; rec = rec } ∷ decided_from waiting (at + 1) slots) (decided_from waiting (at + 1) slots)) ≡ cond b (record { offset = at; sender = Some task; rec = rec } ∷ decided_from waiting (at + 1) slots) (decided_from waiting (at + 1) slots)
    by true e = below_in high _ _ (omega (arith, h)) ∙ ap (λ l. record { offset = at; sender = Some task; rec = rec } ∷ l) e
    by false e = e
all_below waiting high at (Mark w e commit ∷ slots) h = all_below waiting high (at + 1) slots (omega (arith, h))

-- ---- nothing is committed for a task between two journals
second_nothing : {A : Type 0} (xs ys : List A) → xs ++ ys ≡ [] → ys ≡ []
second_nothing [] ys e = e
second_nothing (x ∷ xs) ys e = absurd cc

pub commits-append : (setup : Setup) (s : State) (xs ys : List Entry) (t : TaskId) → commits_for setup s (xs ++ ys) t ≡ commits_for setup s xs t ++ commits_for setup (state_after setup s xs) ys t
commits-append setup s [] ys t = refl
commits-append setup s (x ∷ xs) ys t =
    let first : List (ℕ × Pending) = commits_by s x.request (refusal setup s x.request) t in
    ap (λ l. first ++ l) (commits-append setup (after setup s x.request) xs ys t)
    ∙ sym (append_assoc first (commits_for setup (after setup s x.request) xs t) (commits_for setup (state_after setup (after setup s x.request) xs) ys t))

module _ (setup : Setup) (net : IsNetwork setup.plan) (journal more : List Entry) (history : IsHistory setup (journal ++ more)) (t : TaskId) (none : NoCommit setup (at setup journal) more t) where
  nothing_new : Rests t (at setup journal) (state_after setup (at setup journal) more)
  nothing_new = rests_after setup net t more (at setup journal) (then_faithful setup net journal more history) (then_sound setup net journal more history) none

  pub same_committed : (topic : ℕ) → (at setup (journal ++ more)).committed t topic ≡ (at setup journal).committed t topic
  same_committed topic = ap (λ (s : State). s.committed t topic) (state_after-append setup start journal more) ∙ nothing_new.committed topic

  pub same_decided : (topic : ℕ) → has_topic topic (setup.plan.changelogs t.sub) ≡ true → decided (at setup (journal ++ more)) (part_of topic t) ≡ decided (at setup journal) (part_of topic t)
  same_decided topic h =
      ap (λ (s : State). decided s (part_of topic t)) (state_after-append setup start journal more)
      ∙ whole_by_own setup (at setup journal) (state_after setup (at setup journal) more)
      (sound_before setup net journal more history) (sound_behind setup net journal more history) (then_grown setup net journal more history)
      t topic h (nothing_new.own (part_of topic t))

pub restored_is_active : RestoredIsActive
restored_is_active setup journal one two w g last r offsets net history past free committed ends neat follows = record {
  follows = λ same still. stands same still;
  assigned = λ same still. (stays same still).0;
}
  where
    assoc : (journal ++ one) ++ two ≡ journal ++ (one ++ two)
    assoc = append_assoc journal one two

    early : IsHistory setup journal
    early = history_front setup journal (journal ++ one ++ two) (one ++ two, assoc) history

    whole : IsHistory setup (journal ++ (one ++ two))
    whole = subst (IsHistory setup) assoc history

    stays : (at setup (journal ++ one ++ two)).generation ≡ g → touched w (journal ++ one ++ two) ≡ last → IsAssigned (at setup (journal ++ one ++ two)) w g r.task × NoCommit setup (at setup journal) (one ++ two) r.task
    stays same still =
        let now : (at setup (journal ++ (one ++ two))).generation ≡ g = sym (ap (λ (l : List Entry). (at setup l).generation) assoc) ∙ same in
        let kept : touched w (journal ++ (one ++ two)) ≡ last = sym (ap (touched w) assoc) ∙ still in
        let all = assigned_stays setup journal (one ++ two) w g r.task whole (is_untouched setup journal (one ++ two) w g last past now kept) (assigned_at setup journal w g r.task early free) now in
        (subst (λ (l : List Entry). IsAssigned (at setup l) w g r.task) (sym assoc) all.0, all.1)

    stands : (at setup (journal ++ one ++ two)).generation ≡ g → touched w (journal ++ one ++ two) ≡ last → Stands setup (journal ++ one ++ two) (restored_view r offsets)
    stands same still =
        let none = (stays same still).1 in
        let after : NoCommit setup (at setup (journal ++ one)) two r.task =
        subst (λ (s : State). commits_for setup s two r.task ≡ []) (sym (state_after-append setup start journal one))
        (second_nothing (commits_for setup (at setup journal) one r.task) _ (sym (commits-append setup (at setup journal) one two r.task) ∙ none)) in
        restored_stands setup (journal ++ one ++ two) r offsets net history follows neat
        (λ topic h. committed topic h ∙ sym (same_committed setup net journal (one ++ two) whole r.task none topic) ∙ sym (ap (λ (l : List Entry). (at setup l).committed r.task topic) assoc))
        (λ topic h.
        let q : PartId = part_of topic r.task in
        let there : decided (at setup (journal ++ one ++ two)) q ≡ decided (at setup (journal ++ one)) q = same_decided setup net (journal ++ one) two history r.task after topic h in
        ap (below (r.position topic)) there
        ∙ all_below (waiting_at (markers_of (at setup (journal ++ one))) q) (r.position topic) 0 ((at setup (journal ++ one)).partition q) (omega (arith, ends topic h))
        ∙ sym there)
