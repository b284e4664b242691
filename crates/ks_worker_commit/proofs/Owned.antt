-- The ends of one task.
use Rattle.std.proofs.Common.{◌≡◌, ℕ, ◌+◌, ◌&&◌, Bool, true, false, cond, List, [], ◌∷◌, ◌++◌, refl, sym, ap, subst, ◌∙◌, append-nil}
use Rattle.std.specs.Prelude.{◌==◌}
use Rattle.std.proofs.lemmas.Bool.{eqb-true, eq-eqb, true≢false}
use Rattle.ks_record.specs.declared.record.PartId.{PartId}
use Rattle.ks_record.specs.declared.record.TaskId.{TaskId}
use Rattle.ks_record.specs.Parts.{same_part, same_task}
use Rattle.ks_history.specs.Machine.{part_of}
use Rattle.ks_history.specs.State.{offset_in}
use Rattle.ks_worker_commit.specs.Underway.{end_in}
use Rattle.ks_worker_commit.specs.Leaves.{ends_for}

-- where a list has the topic, its first counts; what stands last counts where nothing else does
offset_last : (old topic : ℕ) (xs : List (ℕ × ℕ)) (x : ℕ × ℕ) → offset_in old topic (xs ++ x ∷ []) ≡ offset_in (cond (topic == x.0) x.1 old) topic xs
offset_last old topic [] x = refl
offset_last old topic (y ∷ ys) x = ap (λ n. cond (topic == y.0) y.1 n) (offset_last old topic ys x)

-- equality of numbers from either side
eqb_turned : (a b : ℕ) → (a == b) ≡ (b == a)
eqb_turned a b = by (a == b) refl (b == a) refl
  where
    by : (p : Bool) → (a == b) ≡ p → (q : Bool) → (b == a) ≡ q → p ≡ q
    by true is true same = refl
    by false is false same = refl
    by true is false same = absurd (true≢false (sym (eq-eqb b a (sym (eqb-true a b is))) ∙ same))
    by false is true same = absurd (true≢false (sym (eq-eqb a b (sym (eqb-true b a same))) ∙ is))

pub owned : (t : TaskId) (xs : List (TaskId × PartId × ℕ)) (topic old : ℕ) → offset_in old topic (ends_for t xs) ≡ end_in old t (part_of topic t) xs
owned t [] topic old = refl
owned t (x ∷ xs) topic old = by (same_task t x.0) (x.1.part == t.part) (t.part == x.1.part) (eqb_turned x.1.part t.part) (λ n. owned t xs topic n)
  where
    nothing : offset_in old topic (ends_for t xs ++ []) ≡ offset_in old topic (ends_for t xs)
    nothing = ap (offset_in old topic) (append-nil (ends_for t xs))

    by : (a b c : Bool) → b ≡ c → ((n : ℕ) → offset_in n topic (ends_for t xs) ≡ end_in n t (part_of topic t) xs) →
        offset_in old topic (ends_for t xs ++ cond (a && b) ((x.1.topic, x.2) ∷ []) []) ≡ end_in (cond (a && ((topic == x.1.topic) && c)) x.2 old) t (part_of topic t) xs
    by false b c same on = nothing ∙ on old
    by true true true same on = offset_last old topic (ends_for t xs) (x.1.topic, x.2) ∙ one (topic == x.1.topic) on
      where
        one : (d : Bool) → ((n : ℕ) → offset_in n topic (ends_for t xs) ≡ end_in n t (part_of topic t) xs) → offset_in (cond d x.2 old) topic (ends_for t xs) ≡ end_in (cond (d && true) x.2 old) t (part_of topic t) xs
        one true on = on x.2
        one false on = on old
    by true false false same on = nothing ∙ on old ∙ none (topic == x.1.topic)
      where
        none : (d : Bool) → end_in old t (part_of topic t) xs ≡ end_in (cond (d && false) x.2 old) t (part_of topic t) xs
        none true = refl
        none false = refl
    by true true false same on = absurd (true≢false same)
    by true false true same on = absurd (true≢false (sym same))
