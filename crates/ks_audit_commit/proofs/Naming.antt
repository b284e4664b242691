-- Offsets that name each input of a task once.
use Rattle.std.proofs.Common.{◌≡◌, ℕ, ◌+◌, ◌≤◌, Bool, true, false, cond, ◌||◌, nat_lt, List, [], ◌∷◌, length, map, Option, Some, None, sum_by, IsPermutation, refl, sym, ap, subst, ◌∙◌, arith}
use Rattle.std.specs.Prelude.{◌==◌}
use Rattle.std.proofs.lemmas.Bool.{eqb-true, eq-eqb, leb-true, le-leb, lt-ltb, or_right, true≢false}
use Rattle.std.proofs.lemmas.List.{length-map}
use Rattle.std.proofs.lemmas.List.Sorted.{IsPermutation-refl, IsPermutation-sym, IsPermutation-cons, IsPermutation-trans, IsPermutation-middle, sum_by-IsPermutation, length_permutation}
use Rattle.std.proofs.lemmas.List.Sums.{sum_by-cons}
use Rattle.ks_history.specs.Machine.{has_topic}
use Rattle.ks_history.specs.State.{offset_in}
use Rattle.ks_law_restore.specs.Views.{are_topics_once}
use Rattle.ks_audit_commit.specs.Naming.{offset_named, is_ahead, are_ahead, may_go_on, GoesOn}

-- ---- tests
both_parts : (b c : Bool) → cond b c false ≡ true → (b ≡ true) × (c ≡ true)
both_parts true c h = (refl, h)
both_parts false c h = absurd cc

both_from : (b c : Bool) → b ≡ true → c ≡ true → cond b c false ≡ true
both_from true c g h = h
both_from false c g h = absurd cc

or_second : (b c : Bool) → (b || c) ≡ true → b ≡ false → c ≡ true
or_second true c h g = absurd cc
or_second false c h g = h

once_parts : (b c : Bool) → cond b false c ≡ true → (b ≡ false) × (c ≡ true)
once_parts true c e = absurd cc
once_parts false c e = (refl, e)

-- ---- topics of a list, in any order
named_counts : (n : ℕ) (xs : List ℕ) → has_topic n xs ≡ nat_lt 0 (sum_by (λ m. cond (n == m) 1 0) xs)
named_counts n [] = refl
named_counts n (x ∷ xs) = by (n == x) (named_counts n xs) (sum_by-cons (λ m. cond (n == m) 1 0) x xs)
  where
    by : (b : Bool) → has_topic n xs ≡ nat_lt 0 (sum_by (λ m. cond (n == m) 1 0) xs) →
        sum_by (λ m. cond (n == m) 1 0) (x ∷ xs) ≡ cond b 1 0 + sum_by (λ m. cond (n == m) 1 0) xs → (b || has_topic n xs) ≡ nat_lt 0 (sum_by (λ m. cond (n == m) 1 0) (x ∷ xs))
    by true e f = sym (lt-ltb 0 (sum_by (λ m. cond (n == m) 1 0) (x ∷ xs)) (omega (arith, f)))
    by false e f = let g : sum_by (λ m. cond (n == m) 1 0) xs ≡ sum_by (λ m. cond (n == m) 1 0) (x ∷ xs) = omega (arith, f) in e ∙ ap (nat_lt 0) g

pub has_permuted : (n : ℕ) (xs ys : List ℕ) → IsPermutation xs ys → has_topic n xs ≡ has_topic n ys
has_permuted n xs ys p = named_counts n xs ∙ ap (nat_lt 0) (sym (sum_by-IsPermutation (λ m. cond (n == m) 1 0) xs ys p)) ∙ sym (named_counts n ys)

-- ---- as many, each named, each once
abbrev without : ℕ → List ℕ → List ℕ
without n [] = []
without n (x ∷ xs) = cond (n == x) xs (x ∷ without n xs)

to_front : (n : ℕ) (xs : List ℕ) → has_topic n xs ≡ true → IsPermutation xs (n ∷ without n xs)
to_front n [] h = absurd cc
to_front n (x ∷ xs) h = by (n == x) refl h (to_front n xs)
  where
    by : (b : Bool) → (n == x) ≡ b → (b || has_topic n xs) ≡ true → (has_topic n xs ≡ true → IsPermutation xs (n ∷ without n xs)) → IsPermutation (x ∷ xs) (n ∷ cond b xs (x ∷ without n xs))
    by true is h f = subst (λ k. IsPermutation (x ∷ xs) (k ∷ xs)) (sym (eqb-true n x is)) (IsPermutation-refl (x ∷ xs))
    by false is h f =
        IsPermutation-trans (x ∷ xs) (x ∷ n ∷ without n xs) (n ∷ x ∷ without n xs) (IsPermutation-cons x xs (n ∷ without n xs) (f h)) (IsPermutation-middle (x ∷ []) n (without n xs))

still_there : (n k : ℕ) (xs : List ℕ) → (k == n) ≡ false → has_topic k xs ≡ true → has_topic k (without n xs) ≡ true
still_there n k [] ne h = absurd cc
still_there n k (x ∷ xs) ne h = by (n == x) refl (k == x) refl h (still_there n k xs ne)
  where
    by : (b : Bool) → (n == x) ≡ b → (c : Bool) → (k == x) ≡ c → (c || has_topic k xs) ≡ true → (has_topic k xs ≡ true → has_topic k (without n xs) ≡ true) → has_topic k (cond b xs (x ∷ without n xs)) ≡ true
    by true is c at h f = or_second c (has_topic k xs) h (sym at ∙ ap (λ m. k == m) (sym (eqb-true n x is)) ∙ ne)
    by false is true at h f = ap (λ a. a || has_topic k (without n xs)) at
    by false is false at h f = ap (λ a. a || has_topic k (without n xs)) at ∙ f h

pub all_named : (xs ys : List ℕ) → are_topics_once xs ≡ true → ((n : ℕ) → has_topic n xs ≡ true → has_topic n ys ≡ true) → length xs ≡ length ys → IsPermutation xs ys
all_named [] [] once each same = IsPermutation-refl []
all_named [] (y ∷ ys) once each same = absurd (omega (arith, same))
all_named (x ∷ xs) ys once each same =
    let parts = once_parts (has_topic x xs) (are_topics_once xs) once in
    let front = to_front x ys (each x (ap (λ b. b || has_topic x xs) (eq-eqb x x refl))) in
    let long : length (x ∷ without x ys) ≡ length ys = length_permutation ys (x ∷ without x ys) front in
    let less : length xs ≡ length (without x ys) = omega (arith, long, same) in
    let rest = all_named xs (without x ys) parts.1 (λ n h. still_there x n ys (apart n h parts.0 (n == x) refl) (each n (or_right (n == x) (has_topic n xs) h))) less in
    IsPermutation-trans (x ∷ xs) (x ∷ without x ys) ys (IsPermutation-cons x xs (without x ys) rest) (IsPermutation-sym ys (x ∷ without x ys) front)
  where
    apart : (n : ℕ) → has_topic n xs ≡ true → has_topic x xs ≡ false → (b : Bool) → (n == x) ≡ b → b ≡ false
    apart n h none true is = absurd (true≢false (sym h ∙ ap (λ k. has_topic k xs) (eqb-true n x is) ∙ none))
    apart n h none false is = refl

-- ---- the offset of a topic
pub some_named : (topic n : ℕ) (offsets : List (ℕ × ℕ)) → offset_named topic offsets ≡ Some n → has_topic topic (map (λ (o : ℕ × ℕ). o.0) offsets) ≡ true
some_named topic n [] is = absurd cc
some_named topic n (o ∷ os) is = by (topic == o.0) is (some_named topic n os)
  where
    by : (b : Bool) → cond b (Some o.1) (offset_named topic os) ≡ Some n → (offset_named topic os ≡ Some n → has_topic topic (map (λ (o : ℕ × ℕ). o.0) os) ≡ true) → (b || has_topic topic (map (λ (o : ℕ × ℕ). o.0) os)) ≡ true
    by true e f = refl
    by false e f = f e

pub some_in : (topic n old : ℕ) (offsets : List (ℕ × ℕ)) → offset_named topic offsets ≡ Some n → offset_in old topic offsets ≡ n
some_in topic n old [] is = absurd cc
some_in topic n old (o ∷ os) is = by (topic == o.0) is (some_in topic n old os)
  where
    by : (b : Bool) → cond b (Some o.1) (offset_named topic os) ≡ Some n → (offset_named topic os ≡ Some n → offset_in old topic os ≡ n) → cond b o.1 (offset_in old topic os) ≡ n
    by true e f = cc
    by false e f = f e

pub none_named : (topic : ℕ) (offsets : List (ℕ × ℕ)) → offset_named topic offsets ≡ None → has_topic topic (map (λ (o : ℕ × ℕ). o.0) offsets) ≡ false
none_named topic [] is = refl
none_named topic (o ∷ os) is = by (topic == o.0) is (none_named topic os)
  where
    by : (b : Bool) → cond b (Some o.1) (offset_named topic os) ≡ None → (offset_named topic os ≡ None → has_topic topic (map (λ (o : ℕ × ℕ). o.0) os) ≡ false) → (b || has_topic topic (map (λ (o : ℕ × ℕ). o.0) os)) ≡ false
    by true e f = absurd cc
    by false e f = f e

named_some : (topic : ℕ) (offsets : List (ℕ × ℕ)) → has_topic topic (map (λ (o : ℕ × ℕ). o.0) offsets) ≡ true → (n : ℕ) × (offset_named topic offsets ≡ Some n)
named_some topic offsets h = by (offset_named topic offsets) refl
  where
    by : (o : Option ℕ) → offset_named topic offsets ≡ o → (n : ℕ) × (offset_named topic offsets ≡ Some n)
    by None is = absurd (true≢false (sym h ∙ none_named topic offsets is))
    by (Some n) is = (n, is)

-- ---- the test
ahead_at : (position : ℕ → ℕ) (topics : List ℕ) (offsets : List (ℕ × ℕ)) → are_ahead position topics offsets ≡ true → (topic : ℕ) → has_topic topic topics ≡ true → is_ahead (offset_named topic offsets) (position topic) ≡ true
ahead_at position [] offsets all topic h = absurd cc
ahead_at position (t ∷ ts) offsets all topic h =
    let parts = both_parts (is_ahead (offset_named t offsets) (position t)) (are_ahead position ts offsets) all in
    by (topic == t) refl h parts.0 (ahead_at position ts offsets parts.1 topic)
  where
    by : (b : Bool) → (topic == t) ≡ b → (b || has_topic topic ts) ≡ true → is_ahead (offset_named t offsets) (position t) ≡ true → (has_topic topic ts ≡ true → is_ahead (offset_named topic offsets) (position topic) ≡ true) →
        is_ahead (offset_named topic offsets) (position topic) ≡ true
    by true is g here more = ap (λ k. is_ahead (offset_named k offsets) (position k)) (eqb-true topic t is) ∙ here
    by false is g here more = more g

ahead_all : (position : ℕ → ℕ) (topics : List ℕ) (offsets : List (ℕ × ℕ)) → ((topic : ℕ) → has_topic topic topics ≡ true → is_ahead (offset_named topic offsets) (position topic) ≡ true) → are_ahead position topics offsets ≡ true
ahead_all position [] offsets each = refl
ahead_all position (t ∷ ts) offsets each =
    both_from (is_ahead (offset_named t offsets) (position t)) (are_ahead position ts offsets)
    (each t (ap (λ b. b || has_topic t ts) (eq-eqb t t refl))) (ahead_all position ts offsets (λ topic h. each topic (or_right (topic == t) (has_topic topic ts) h)))

ahead_some : (o : Option ℕ) (position : ℕ) → is_ahead o position ≡ true → (n : ℕ) × (o ≡ Some n) × (position ≤ n)
ahead_some None position h = absurd cc
ahead_some (Some n) position h = (n, refl, leb-true position n h)

pub goes_on : (position old : ℕ → ℕ) (inputs : List ℕ) (offsets : List (ℕ × ℕ)) → are_topics_once inputs ≡ true → may_go_on position inputs offsets ≡ true → GoesOn position old inputs offsets
goes_on position old inputs offsets once may =
    let parts = both_parts (are_ahead position inputs offsets) (length inputs == length offsets) may in
    let some : (topic : ℕ) → has_topic topic inputs ≡ true → (n : ℕ) × (offset_named topic offsets ≡ Some n) × (position topic ≤ n) =
    λ topic h. ahead_some (offset_named topic offsets) (position topic) (ahead_at position inputs offsets parts.0 topic h) in
    record {
      named = all_named inputs (map (λ (o : ℕ × ℕ). o.0) offsets) once (λ n h. some_named n (some n h).0 offsets (some n h).1)
          (eqb-true (length inputs) (length offsets) parts.1 ∙ sym (length-map offsets (λ (o : ℕ × ℕ). o.0)));
      ahead = λ topic h. subst (λ k. position topic ≤ k) (sym (some_in topic (some topic h).0 (old topic) offsets (some topic h).1)) (some topic h).2;
    }

pub may_on : (position old : ℕ → ℕ) (inputs : List ℕ) (offsets : List (ℕ × ℕ)) → GoesOn position old inputs offsets → may_go_on position inputs offsets ≡ true
may_on position old inputs offsets goes =
    both_from (are_ahead position inputs offsets) (length inputs == length offsets)
    (ahead_all position inputs offsets (λ topic h. one topic h (named_some topic offsets (sym (has_permuted topic inputs (map (λ (o : ℕ × ℕ). o.0) offsets) goes.named) ∙ h))))
    (eq-eqb (length inputs) (length offsets) (sym (length_permutation inputs (map (λ (o : ℕ × ℕ). o.0) offsets) goes.named) ∙ length-map offsets (λ (o : ℕ × ℕ). o.0)))
  where
    one : (topic : ℕ) → has_topic topic inputs ≡ true → (n : ℕ) × (offset_named topic offsets ≡ Some n) → is_ahead (offset_named topic offsets) (position topic) ≡ true
    one topic h n =
        ap (λ o. is_ahead o (position topic)) n.1
        ∙ le-leb (position topic) n.0 (subst (λ k. position topic ≤ k) (some_in topic n.0 (old topic) offsets n.1) (goes.ahead topic h))
