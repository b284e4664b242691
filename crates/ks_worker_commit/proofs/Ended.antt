-- Where the records of a transaction end.
use Rattle.std.proofs.Common.{◌≡◌, ◌≢◌, ◌⊎◌, inl, inr, ℕ, suc, ◌+◌, ◌≤◌, ◌&&◌, Bool, true, false, cond, List, [], ◌∷◌, ◌++◌, length, length-append, refl, sym, ap, subst, ◌∙◌, arith, append_assoc, append-nil}
use Rattle.std.specs.Prelude.{◌==◌}
use Rattle.std.proofs.lemmas.Bool.{true≢false}
use Rattle.ks_record.specs.Records.{Record as Rec}
use Rattle.ks_record.specs.declared.record.PartId.{PartId}
use Rattle.ks_record.specs.declared.record.TaskId.{TaskId}
use Rattle.ks_record.specs.Parts.{same_part, same_task}
use Rattle.ks_history.specs.declared.journal.Entry.{Entry}
use Rattle.ks_history.specs.declared.journal.Request.TheVariants.{Append}
use Rattle.ks_history.specs.declared.partition.Slot.{Slot}
use Rattle.ks_history.specs.Partition.{Logged, recs, open_from, past_last, with_offsets, sent_slots}
use Rattle.ks_history.specs.Machine.{IsNetwork}
use Rattle.ks_history.specs.State.{State, Setup}
use Rattle.ks_history.specs.Step.{effect}
use Rattle.ks_history.specs.History.{at, IsHistory}
use Rattle.ks_history.specs.Touched.{touched, untouched}
use Rattle.ks_history.proofs.Histories.{history_front}
use Rattle.ks_history.proofs.Names.{same_part-is, same_part-refl, same_task-is, same_task-refl}
use Rattle.ks_law_exactly_once.proofs.Slots.{next_mark-sent}
use Rattle.ks_law_sharing.proofs.Leaving.{open_append, open_stays}
use Rattle.ks_law_sharing.proofs.Rising.{journal_rises}
use Rattle.ks_law_commit.specs.Building.{Contents, no_contents, IsBuilding, with_records}
use Rattle.ks_law_commit.specs.Committing.{open_end}
use Rattle.ks_law_commit.proofs.Adding.{open_sent}
use Rattle.ks_law_commit.proofs.Ends.{append_ends}
use Rattle.ks_law_commit.specs.Sending.{HasSentNothing, HasBegun, IsSending}
use Rattle.ks_law_commit.proofs.Stages.{building_is, quiet_is}
use Rattle.ks_worker_commit.specs.Underway.{end_in, with_end, end_of_records, HasEnds}

-- ---- ends, one more
pub end_in-more : (old : ℕ) (t : TaskId) (q : PartId) (xs : List (TaskId × PartId × ℕ)) (x : TaskId × PartId × ℕ) → end_in old t q (xs ++ x ∷ []) ≡ cond (same_task t x.0 && same_part q x.1) x.2 (end_in old t q xs)
end_in-more old t q [] x = refl
end_in-more old t q (y ∷ ys) x = end_in-more (cond (same_task t y.0 && same_part q y.1) y.2 old) t q ys x

-- ---- records are appended
-- no record of others is a task's own
none_of : (xs : List Logged) → recs xs ≡ [] → xs ≡ []
none_of [] h = refl
none_of (x ∷ xs) h = absurd cc

other_open : (s : State) (w e number : ℕ) (t u : TaskId) (p : PartId) (rs : List Rec) → same_task u t ≡ false →
    open_from w e u 0 (s.partition p ++ sent_slots w e number t rs) ≡ open_from w e u 0 (s.partition p)
other_open s w e number t u p rs other =
    let slots : List Slot = sent_slots w e number t rs in
    open_append w e u 0 (s.partition p) slots (next_mark-sent w e w e number t rs)
    ∙ ap (λ l. open_from w e u 0 (s.partition p) ++ l) (none_of (open_from w e u (0 + length (s.partition p)) slots) (open_sent w e u t (0 + length (s.partition p)) number rs ∙ ap (λ b. cond b rs []) other))
    ∙ append-nil (open_from w e u 0 (s.partition p))

same_end : (rs : List Rec) (old a b : ℕ) → a ≡ b → end_of_records rs old a ≡ end_of_records rs old b
same_end rs old a b h = ap (end_of_records rs old) h

some_end : (xs : List Rec) (r : Rec) (rs : List Rec) (old end : ℕ) → end_of_records (xs ++ r ∷ rs) old end ≡ end
some_end [] r rs old end = refl
some_end (x ∷ xs) r rs old end = refl

module _ (s : State) (w e number : ℕ) (t : TaskId) (p : PartId) (c : Contents) (ends : List (TaskId × PartId × ℕ)) (has : HasEnds s w e c ends) where
  abbrev after : List Rec → State
  after rs = effect s (Append w e number t p rs)

  -- where the task or the partition is another
  others_end : (rs : List Rec) (u : TaskId) (q : PartId) → same_task u t && same_part q p ≡ false → open_end (after rs) w e u q ≡ open_end s w e u q
  others_end rs u q other = by (same_task u t) (same_part q p) refl refl other
    where
      by : (a b : Bool) → same_task u t ≡ a → same_part q p ≡ b → a && b ≡ false → past_last (with_offsets (open_from w e u 0 (cond b (s.partition q ++ sent_slots w e number t rs) (s.partition q)))) ≡ open_end s w e u q
      by a false is_a is_b h = refl
      by true true is_a is_b h = absurd (true≢false h)
      by false true is_a is_b h = ap (λ l. past_last (with_offsets l)) (other_open s w e number t u q rs is_a)

  own_end : (r : Rec) (rs : List Rec) (u : TaskId) (q : PartId) → same_task u t && same_part q p ≡ true → open_end (after (r ∷ rs)) w e u q ≡ length (s.partition p) + length (r ∷ rs)
  own_end r rs u q is = by (same_task u t) (same_part q p) refl refl is
    where
      some : r ∷ rs ≢ []
      some none = absurd cc

      by : (a b : Bool) → same_task u t ≡ a → same_part q p ≡ b → a && b ≡ true → open_end (after (r ∷ rs)) w e u q ≡ length (s.partition p) + length (r ∷ rs)
      by true true is_a is_b h =
          subst (λ (v : TaskId). open_end (after (r ∷ rs)) w e v q ≡ length (s.partition p) + length (r ∷ rs)) (sym (same_task-is u t is_a))
          (subst (λ (o : PartId). open_end (after (r ∷ rs)) w e t o ≡ length (s.partition p) + length (r ∷ rs)) (sym (same_part-is q p is_b)) (append_ends s w e number t p (r ∷ rs) some))
      by true false is_a is_b h = absurd (true≢false (sym h))
      by false b is_a is_b h = absurd (true≢false (sym h))

  pub append_has_ends : (rs : List Rec) → HasEnds (after rs) w e (with_records t p rs c) (with_end t p (length (s.partition p)) rs ends)
  append_has_ends [] u q old = has u q old ∙ by (same_task u t && same_part q p) (same_part q p)
    where
      none : (b : Bool) → cond b (s.partition q ++ []) (s.partition q) ≡ s.partition q
      none true = append-nil (s.partition q)
      none false = refl

      by : (a b : Bool) → end_of_records (c.records u q) old (open_end s w e u q) ≡ end_of_records (cond a (c.records u q ++ []) (c.records u q)) old (past_last (with_offsets (open_from w e u 0 (cond b (s.partition q ++ []) (s.partition q)))))
      by true b = ap (λ l. end_of_records l old (open_end s w e u q)) (sym (append-nil (c.records u q))) ∙ ap (λ l. end_of_records (c.records u q ++ []) old (past_last (with_offsets (open_from w e u 0 l)))) (sym (none b))
      by false b = ap (λ l. end_of_records (c.records u q) old (past_last (with_offsets (open_from w e u 0 l)))) (sym (none b))
  append_has_ends (r ∷ rs) u q old = end_in-more old u q ends (t, p, length (s.partition p) + length (r ∷ rs)) ∙ by (same_task u t && same_part q p) refl (has u q old)
    where
      by : (b : Bool) → same_task u t && same_part q p ≡ b → end_in old u q ends ≡ end_of_records (c.records u q) old (open_end s w e u q) →
          cond b (length (s.partition p) + length (r ∷ rs)) (end_in old u q ends) ≡ end_of_records (cond b (c.records u q ++ r ∷ rs) (c.records u q)) old (open_end (after (r ∷ rs)) w e u q)
      by true is h = sym (some_end (c.records u q) r rs old (open_end (after (r ∷ rs)) w e u q) ∙ own_end r rs u q is)
      by false is h = h ∙ same_end (c.records u q) old (open_end s w e u q) (open_end (after (r ∷ rs)) w e u q) (sym (others_end (r ∷ rs) u q is))

-- ---- others write
-- the ends stay, where the producer's epoch is the transaction's still
module _ (setup : Setup) (journal more others : List Entry) (w e made first last : ℕ) (c : Contents) (ends : List (TaskId × PartId × ℕ)) where
  pub ends_stay : IsNetwork setup.plan → IsHistory setup (journal ++ (more ++ others)) → touched w (journal ++ (more ++ others)) ≡ last →
      ((at setup (journal ++ (more ++ others))).producer w).epoch ≡ e → IsSending setup journal more w e made first last c →
      HasEnds (at setup (journal ++ more)) w e c ends → HasEnds (at setup (journal ++ (more ++ others))) w e c ends
  ends_stay net history place epoch k has = by k.stage
    where
      whole : (journal ++ more) ++ others ≡ journal ++ (more ++ others)
      whole = append_assoc journal more others

      apart : IsHistory setup ((journal ++ more) ++ others)
      apart = subst (IsHistory setup) (sym whole) history

      front : IsHistory setup (journal ++ more)
      front = history_front setup (journal ++ more) ((journal ++ more) ++ others) (others, refl) apart

      empty : c ≡ no_contents → HasEnds (at setup (journal ++ (more ++ others))) w e c ends
      empty none t q old =
          let nothing : c.records t q ≡ [] = ap (λ (x : Contents). x.records t q) none in
          has t q old ∙ ap (λ l. end_of_records l old (open_end (at setup (journal ++ more)) w e t q)) nothing
          ∙ sym (ap (λ l. end_of_records l old (open_end (at setup (journal ++ (more ++ others))) w e t q)) nothing)

      stays : HasBegun setup journal more w e made first last c → HasEnds (at setup (journal ++ (more ++ others))) w e c ends
      stays b t q old =
          let built = building_is setup journal more w e made first last c net front b in
          let quiet : untouched w others ≡ true = quiet_is setup journal more others w e made first last c k place in
          let later : ((at setup ((journal ++ more) ++ others)).producer w).epoch ≡ ((at setup (journal ++ more)).producer w).epoch =
          ap (λ (l : List Entry). ((at setup l).producer w).epoch) whole ∙ epoch ∙ sym built.epoch in
          let same = open_stays setup (journal ++ more) others w e t q apart quiet later built.waiting in
          has t q old
          ∙ same_end (c.records t q) old (open_end (at setup (journal ++ more)) w e t q) (open_end (at setup ((journal ++ more) ++ others)) w e t q) (ap (λ l. past_last (with_offsets l)) (sym same))
          ∙ ap (λ (l : List Entry). end_of_records (c.records t q) old (open_end (at setup l) w e t q)) whole

      by : HasSentNothing more w made first last c ⊎ HasBegun setup journal more w e made first last c → HasEnds (at setup (journal ++ (more ++ others))) w e c ends
      by (inl n) = empty n.contents
      by (inr b) = stays b

  -- at an accepted request the epoch is the transaction's
  pub gained_epoch : (entry : Entry) (now next : ℕ) (d : Contents) → IsNetwork setup.plan → IsHistory setup (journal ++ (more ++ others ++ entry ∷ [])) →
      IsSending setup journal (more ++ others ++ entry ∷ []) w e (suc now) first next d →
      e ≤ ((at setup (journal ++ (more ++ others))).producer w).epoch → ((at setup (journal ++ (more ++ others))).producer w).epoch ≡ e
  gained_epoch entry now next d net history k low = by k.stage
    where
      whole : (journal ++ (more ++ others)) ++ entry ∷ [] ≡ journal ++ (more ++ others ++ entry ∷ [])
      whole = append_assoc journal (more ++ others) (entry ∷ [])

      high : ((at setup (journal ++ (more ++ others))).producer w).epoch ≤ ((at setup (journal ++ (more ++ others ++ entry ∷ []))).producer w).epoch
      high = subst (λ (l : List Entry). ((at setup (journal ++ (more ++ others))).producer w).epoch ≤ ((at setup l).producer w).epoch) whole ((journal_rises setup (journal ++ (more ++ others)) (entry ∷ [])).epochs w)

      by : HasSentNothing (more ++ others ++ entry ∷ []) w (suc now) first next d ⊎ HasBegun setup journal (more ++ others ++ entry ∷ []) w e (suc now) first next d → ((at setup (journal ++ (more ++ others))).producer w).epoch ≡ e
      by (inl n) = absurd (omega (arith, n.none))
      by (inr b) =
          let built = building_is setup journal (more ++ others ++ entry ∷ []) w e (suc now) first next d net history b in
          omega (arith, high, low, built.epoch)
