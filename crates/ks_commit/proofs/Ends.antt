-- The ends that a commit answers are past the works' changelog records.
use Rattle.std.proofs.Common.{◌≡◌, ◌≢◌, ℕ, ◌+◌, ◌≤◌, ◌<◌, Bool, true, false, cond, ◌&&◌, inl, List, [], ◌∷◌, ◌++◌, length, Some, None, refl, sym, ap, subst, ◌∙◌, arith}
use Rattle.std.specs.Prelude.{◌==◌, not}
use Rattle.std.proofs.lemmas.Bool.{and_parts, eqb-true, eq-eqb, lt-ltb, true≢false}
use Rattle.ks_record.specs.Records.{Record as Rec}
use Rattle.ks_record.specs.declared.record.PartId.{PartId}
use Rattle.ks_record.specs.declared.record.TaskId.{TaskId}
use Rattle.ks_record.specs.Parts.{same_part}
use Rattle.ks_history.specs.declared.partition.Slot.{Slot}
use Rattle.ks_history.specs.declared.partition.Slot.TheVariants.{Plain, Sent, Mark}
use Rattle.ks_history.specs.Partition.{Logged, stable, below, is_commit, decision, next_mark, decided_from}
use Rattle.ks_history.specs.Machine.{part_of}
use Rattle.ks_history.specs.State.{State, Setup, offset_in}
use Rattle.ks_history.specs.Faithful.{waiting_at, markers_of}
use Rattle.ks_history.specs.Reads.{end_of}
use Rattle.ks_history.proofs.Names.{same_part-is}
use Rattle.ks_law_exactly_once.proofs.Slots.{Waiting}
use Rattle.ks_law_restore.specs.Views.{WorkView, recs_at, names_part, is_empty, are_outputs, IsPast, AreEnds}
use Rattle.ks_commit.specs.Committed.{EachMay, own_in, own_of_each, ends_at, ends_of_each, EachEnds}

-- each decided record stands before the end
decided_within : (waiting : Waiting) (n at : ℕ) (slots : List Slot) → at + length slots ≤ n → below n (decided_from waiting at slots) ≡ decided_from waiting at slots
decided_within waiting n at [] h = refl
decided_within waiting n at (Plain rec ∷ slots) h =
    let x : Logged = record { offset = at; sender = None; rec = rec } in
    let less : at < n = omega (arith, h) in
    ap (λ b. cond b (x ∷ below n (decided_from waiting (at + 1) slots)) (below n (decided_from waiting (at + 1) slots))) (lt-ltb at n less)
    ∙ ap (λ l. x ∷ l) (decided_within waiting n (at + 1) slots (omega (arith, h)))
decided_within waiting n at (Sent w e number task rec ∷ slots) h = by (is_commit (decision (next_mark w e slots) (waiting w e))) (decided_within waiting n (at + 1) slots (omega (arith, h)))
  where
    less : at < n
    less = omega (arith, h)

    by : (b : Bool) → below n (decided_from waiting (at + 1) slots) ≡ decided_from waiting (at + 1) slots
        → below n (cond b (record { offset = at; sender = Some task; rec = rec } ∷ decided_from waiting (at + 1) slots) (decided_from waiting (at + 1) slots))
        ≡ cond b (record { offset = at; sender = Some task; rec = rec } ∷ decided_from waiting (at + 1) slots) (decided_from waiting (at + 1) slots)
    by true e =
        let x : Logged = record { offset = at; sender = Some task; rec = rec } in
        ap (λ b. cond b (x ∷ below n (decided_from waiting (at + 1) slots)) (below n (decided_from waiting (at + 1) slots))) (lt-ltb at n less) ∙ ap (λ l. x ∷ l) e
    by false e = e
decided_within waiting n at (Mark w e commit ∷ slots) h = decided_within waiting n (at + 1) slots (omega (arith, h))

end_past : (s : State) (p : PartId) → stable (s.partition p) ≡ end_of s p → IsPast s p (end_of s p)
end_past s p is = record {
  past = decided_within (waiting_at (markers_of s) p) (end_of s p) 0 (s.partition p) (omega arith);
  reached = inl (omega (arith, is));
}

-- another partition of the task is another topic
other_topic : (topic n part k : ℕ) → (topic == n) && (part == k) ≡ false → (k == part) ≡ true → (topic == n) ≡ false
other_topic topic n part k h same = by (topic == n) h
  where
    by : (b : Bool) → b && (part == k) ≡ false → b ≡ false
    by true g = absurd (true≢false (sym (eq-eqb part k (sym (eqb-true k part same))) ∙ g))
    by false g = refl

skips : (s : State) (t : TaskId) (topic old : ℕ) (out : PartId × List Rec) (outs : List (PartId × List Rec)) → same_part (part_of topic t) out.0 ≡ false → offset_in old topic (ends_at s (own_in t (out ∷ outs))) ≡ offset_in old topic (ends_at s (own_in t outs))
skips s t topic old out outs h = by (out.0.part == t.part) refl
  where
    by : (b : Bool) → (out.0.part == t.part) ≡ b → offset_in old topic (ends_at s (cond b (out.0 ∷ own_in t outs) (own_in t outs))) ≡ offset_in old topic (ends_at s (own_in t outs))
    by true is = ap (λ b. cond b (end_of s out.0) (offset_in old topic (ends_at s (own_in t outs)))) (other_topic topic out.0.topic t.part out.0.part h is)
    by false is = refl

ends_named : (s : State) (t : TaskId) (topic old : ℕ) (outs : List (PartId × List Rec)) → recs_at (part_of topic t) outs ≢ [] → offset_in old topic (ends_at s (own_in t outs)) ≡ end_of s (part_of topic t)
ends_named s t topic old [] some = absurd (some refl)
ends_named s t topic old (out ∷ outs) some = by (same_part (part_of topic t) out.0) refl some (λ g. ends_named s t topic old outs g)
  where
    by : (b : Bool) → same_part (part_of topic t) out.0 ≡ b → cond b (out.1 ++ recs_at (part_of topic t) outs) (recs_at (part_of topic t) outs) ≢ [] → (recs_at (part_of topic t) outs ≢ [] → offset_in old topic (ends_at s (own_in t outs)) ≡ end_of s (part_of topic t))
        → offset_in old topic (ends_at s (own_in t (out ∷ outs))) ≡ end_of s (part_of topic t)
    by true is h more =
        let both : ((topic == out.0.topic) ≡ true) × ((t.part == out.0.part) ≡ true) = and_parts (topic == out.0.topic) (t.part == out.0.part) is in
        let here : (out.0.part == t.part) ≡ true = eq-eqb out.0.part t.part (sym (eqb-true t.part out.0.part both.1)) in
        ap (λ b. offset_in old topic (ends_at s (cond b (out.0 ∷ own_in t outs) (own_in t outs)))) here
        ∙ ap (λ b. cond b (end_of s out.0) (offset_in old topic (ends_at s (own_in t outs)))) both.0
        ∙ ap (end_of s) (sym (same_part-is (part_of topic t) out.0 is))
    by false is h more = skips s t topic old out outs is ∙ more h

not_empty : (xs : List Rec) → not (is_empty xs) ≡ true → (ys : List Rec) → xs ++ ys ≡ [] → ⊥
not_empty [] h ys e = true≢false (sym h)
not_empty (x ∷ xs) h ys e = absurd cc

outputs_parts : (out : PartId × List Rec) (outs : List (PartId × List Rec)) → are_outputs (out ∷ outs) ≡ true → (not (is_empty out.1) ≡ true) × (are_outputs outs ≡ true)
outputs_parts out outs h = by (names_part out.0 outs) h
  where
    by : (b : Bool) → cond b false (not (is_empty out.1) && are_outputs outs) ≡ true → (not (is_empty out.1) ≡ true) × (are_outputs outs ≡ true)
    by true g = absurd (true≢false (sym g))
    by false g = and_parts (not (is_empty out.1)) (are_outputs outs) g

ends_others : (s : State) (t : TaskId) (topic old : ℕ) (outs : List (PartId × List Rec)) → are_outputs outs ≡ true → recs_at (part_of topic t) outs ≡ [] → offset_in old topic (ends_at s (own_in t outs)) ≡ old
ends_others s t topic old [] are none = refl
ends_others s t topic old (out ∷ outs) are none = by (same_part (part_of topic t) out.0) refl none (λ g. ends_others s t topic old outs (outputs_parts out outs are).1 g)
  where
    by : (b : Bool) → same_part (part_of topic t) out.0 ≡ b → cond b (out.1 ++ recs_at (part_of topic t) outs) (recs_at (part_of topic t) outs) ≡ [] → (recs_at (part_of topic t) outs ≡ [] → offset_in old topic (ends_at s (own_in t outs)) ≡ old) → offset_in old topic (ends_at s (own_in t (out ∷ outs))) ≡ old
    by true is h more = absurd (not_empty out.1 (outputs_parts out outs are).0 (recs_at (part_of topic t) outs) h)
    by false is h more = skips s t topic old out outs is ∙ more h

are_ends : (setup : Setup) (s : State) (f : WorkView) → ((q : PartId) → stable (s.partition q) ≡ end_of s q) → are_outputs f.outputs ≡ true → AreEnds setup s f (ends_at s (own_in f.task f.outputs))
are_ends setup s f whole once = record {
  named = λ topic old h some. subst (IsPast s (part_of topic f.task)) (sym (ends_named s f.task topic old f.outputs some)) (end_past s (part_of topic f.task) (whole (part_of topic f.task)));
  others = λ topic old h none. ends_others s f.task topic old f.outputs once none;
}

pub each_ends : (setup : Setup) (before s : State) (fs : List WorkView) → ((q : PartId) → stable (s.partition q) ≡ end_of s q) → EachMay setup before fs → EachEnds setup s fs (ends_of_each s (own_of_each fs))
each_ends setup before s [] whole may = tt
each_ends setup before s (f ∷ fs) whole may = (are_ends setup s f whole may.0.work.once, each_ends setup before s fs whole may.1)
