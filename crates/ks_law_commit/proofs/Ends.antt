-- The ends past a transaction's records.
use Rattle.std.proofs.Common.{◌≡◌, ◌≢◌, ℕ, ◌+◌, true, cond, List, [], ◌∷◌, ◌++◌, length, Some, refl, sym, ap, ap₂, subst, ◌∙◌, arith}
use Rattle.ks_record.specs.Records.{Record as Rec}
use Rattle.ks_record.specs.declared.record.PartId.{PartId}
use Rattle.ks_record.specs.declared.record.TaskId.{TaskId}
use Rattle.ks_history.specs.declared.journal.Entry.{Entry}
use Rattle.ks_history.specs.declared.journal.Request.TheVariants.{Decide}
use Rattle.ks_history.specs.declared.partition.Slot.{Slot}
use Rattle.ks_history.specs.Partition.{Logged, open_from, sent_slots, past_last, with_offsets}
use Rattle.ks_history.specs.Machine.{part_of}
use Rattle.ks_history.specs.State.{State, start}
use Rattle.ks_history.specs.Step.{effect, state_by, fenced, none_undecided}
use Rattle.ks_history.specs.Faithful.{decided, IsFaithful}
use Rattle.ks_law_exactly_once.proofs.Sound.{Sound}
use Rattle.ks_history.specs.History.{at}
use Rattle.ks_history.proofs.Histories.{state_after-append}
use Rattle.ks_history.proofs.Names.{same_part-refl}
use Rattle.ks_law_exactly_once.proofs.Commits.{grows}
use Rattle.ks_law_exactly_once.proofs.Refusals.{both_none, some_undecided, not_fenced}
use Rattle.ks_law_exactly_once.proofs.Slots.{next_mark-sent}
use Rattle.ks_law_exactly_once.proofs.Stores.{only_sender}
use Rattle.ks_law_restore.specs.Views.{IsPast}
use Rattle.ks_law_restore.proofs.Lasting.{then_faithful, sound_before, sound_behind, last_is_past}
use Rattle.ks_law_sharing.proofs.Leaving.{open_append}
use Rattle.ks_law_commit.specs.Committing.{commit_entry, AppendEnds, CommittedEnds}
use Rattle.ks_law_commit.proofs.Adding.{open_own}

-- ---- the last of two lists
last_second : (xs ys : List Logged) → ys ≢ [] → past_last (with_offsets (xs ++ ys)) ≡ past_last (with_offsets ys)
last_second [] ys some = refl
last_second (x ∷ []) [] some = absurd (some refl)
last_second (x ∷ []) (y ∷ ys) some = refl
last_second (x ∷ z ∷ xs) ys some = last_second (z ∷ xs) ys some

own_last : (w e : ℕ) (t : TaskId) (from number : ℕ) (r : Rec) (rs : List Rec) → past_last (with_offsets (open_from w e t from (sent_slots w e number t (r ∷ rs)))) ≡ from + length (r ∷ rs)
own_last w e t from number r [] = ap (λ l. past_last (with_offsets l)) (open_own w e t from number r [])
own_last w e t from number r (x ∷ rs) =
    let second = open_own w e t (from + 1) (number + 1) x rs in
    ap (λ l. past_last (with_offsets l)) (open_own w e t from number r (x ∷ rs) ∙ ap (λ l. record { offset = from; sender = Some t; rec = r } ∷ l) second)
    ∙ sym (ap (λ l. past_last (with_offsets l)) second)
    ∙ own_last w e t (from + 1) (number + 1) x rs
    ∙ omega arith

pub append_ends : AppendEnds
append_ends s w e number t p [] some = absurd (some refl)
append_ends s w e number t p (r ∷ rs) some =
    let slots : List Slot = sent_slots w e number t (r ∷ rs) in
    ap (λ b. past_last (with_offsets (open_from w e t 0 (cond b (s.partition p ++ slots) (s.partition p))))) (same_part-refl p)
    ∙ ap (λ l. past_last (with_offsets l)) (open_append w e t 0 (s.partition p) slots (next_mark-sent w e w e number t (r ∷ rs)))
    ∙ last_second (open_from w e t 0 (s.partition p)) (open_from w e t (0 + length (s.partition p)) slots) (λ none. something (open_own w e t (0 + length (s.partition p)) number r rs) none)
    ∙ own_last w e t (0 + length (s.partition p)) number r rs
    ∙ omega arith
  where
    something : {x : Logged} {xs ys : List Logged} → ys ≡ x ∷ xs → ys ≡ [] → ⊥
    something a b = absurd cc

-- ---- the commit
pub committed_ends : CommittedEnds
committed_ends setup journal w e t topic net history free log some =
    let s : State = at setup journal in
    let entry : Entry = commit_entry w e in
    let new : State = effect s (Decide w e true) in
    let q : PartId = part_of topic t in
    let u = some_undecided (s.producer w) e free in
    let epoch : e ≡ (s.producer w).epoch = not_fenced (s.producer w) e (both_none (fenced (s.producer w) e) (none_undecided (s.producer w)) free).0 in
    let before : Sound setup s = sound_before setup net journal (entry ∷ []) history in
    let behind : Sound setup new = subst (λ r. Sound setup (state_by s (Decide w e true) r)) free (sound_behind setup net journal (entry ∷ []) history) in
    let faithful : IsFaithful setup s w u.0 = (then_faithful setup net journal (entry ∷ []) history).0 free u.0 u.1 in
    let own : decided new q ≡ decided s q ++ open_from w e t 0 (s.partition q) =
    sym (only_sender t (decided new q) (λ r ne. behind.alone t topic r log ne))
    ∙ grows setup net s w e u.0 u.1 before faithful q t
    ∙ ap₂ (λ (l : List Logged) (d : ℕ). l ++ open_from w d t 0 (s.partition q)) (only_sender t (decided s q) (λ r ne. before.alone t topic r log ne)) (sym epoch) in
    let last : past_last (with_offsets (decided new q)) ≡ past_last (with_offsets (open_from w e t 0 (s.partition q))) =
    ap (λ l. past_last (with_offsets l)) own ∙ last_second (decided s q) (open_from w e t 0 (s.partition q)) some in
    let there : at setup (journal ++ entry ∷ []) ≡ new = state_after-append setup start journal (entry ∷ []) ∙ ap (state_by s (Decide w e true)) free in
    subst (λ (k : State). IsPast k q (past_last (with_offsets (open_from w e t 0 (s.partition q))))) (sym there) (subst (IsPast new q) last (last_is_past new q))
