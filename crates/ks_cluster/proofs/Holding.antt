-- Held positions as one list, by worker: what a hold and an expiry leave of it is what the state then says.
use Rattle.std.proofs.Common.{◌≡◌, ◌≢◌, ℕ, zero, suc, ◌+◌, ◌-◌, ◌<◌, ◌≤◌, ◌&&◌, ◌==◌, Bool, true, false, cond, eqb, nat_lt, nat_le, List, [], ◌∷◌, ◌++◌, refl, sym, ap, ◌∙◌, arith, ⊎_elim, append_assoc}
use Rattle.std.proofs.lemmas.List.{append-nil}
use Rattle.std.proofs.lemmas.Bool.Decides.{eqb_tells, nat_tests}
use Rattle.ks_record.specs.declared.record.TaskId.{TaskId}
use Rattle.ks_history.specs.State.{State, with_number}
use Rattle.ks_history.specs.Reads.{held_from}
use Rattle.ks_group.specs.Held.{held_by, held_between, held_without, held_with}

-- ---- the positions of the workers from one on and below another
abbrev is_between : ℕ → ℕ → ℕ → Bool
is_between from to w = nat_le from w && nat_lt w to

between_append : (from to : ℕ) (xs ys : List (ℕ × TaskId × ℕ)) → held_between from to (xs ++ ys) ≡ held_between from to xs ++ held_between from to ys
between_append from to [] ys = refl
between_append from to (x ∷ xs) ys = by (is_between from to x.0) (between_append from to xs ys)
  where
    by : (b : Bool) → held_between from to (xs ++ ys) ≡ held_between from to xs ++ held_between from to ys
        → cond b (x ∷ held_between from to (xs ++ ys)) (held_between from to (xs ++ ys)) ≡ cond b (x ∷ held_between from to xs) (held_between from to xs) ++ held_between from to ys
    by true same = ap (λ l. x ∷ l) same
    by false same = same

by_kept : (from to w : ℕ) (held : List (TaskId × ℕ)) → is_between from to w ≡ true → held_between from to (held_by w held) ≡ held_by w held
by_kept from to w [] is = refl
by_kept from to w (h ∷ hs) is =
    ap (λ b. cond b ((w, h.0, h.1) ∷ held_between from to (held_by w hs)) (held_between from to (held_by w hs))) is ∙ ap (λ l. (w, h.0, h.1) ∷ l) (by_kept from to w hs is)

by_gone : (from to w : ℕ) (held : List (TaskId × ℕ)) → is_between from to w ≡ false → held_between from to (held_by w held) ≡ []
by_gone from to w [] is = refl
by_gone from to w (h ∷ hs) is =
    ap (λ b. cond b ((w, h.0, h.1) ∷ held_between from to (held_by w hs)) (held_between from to (held_by w hs))) is ∙ by_gone from to w hs is

from_kept : (from to : ℕ) (s : State) (v n : ℕ) → ((j : ℕ) → v ≤ j → j < v + n → is_between from to j ≡ true) → held_between from to (held_from s v n) ≡ held_from s v n
from_kept from to s v zero is = refl
from_kept from to s v (suc n) is =
    between_append from to (held_by v (s.held v)) (held_from s (v + 1) n)
    ∙ ap (λ l. l ++ held_between from to (held_from s (v + 1) n)) (by_kept from to v (s.held v) (is v (omega arith) (omega arith)))
    ∙ ap (λ l. held_by v (s.held v) ++ l) (from_kept from to s (v + 1) n (λ j low high. is j (omega (arith, low)) (omega (arith, high))))

from_gone : (from to : ℕ) (s : State) (v n : ℕ) → ((j : ℕ) → v ≤ j → j < v + n → is_between from to j ≡ false) → held_between from to (held_from s v n) ≡ []
from_gone from to s v zero is = refl
from_gone from to s v (suc n) is =
    between_append from to (held_by v (s.held v)) (held_from s (v + 1) n)
    ∙ ap (λ l. l ++ held_between from to (held_from s (v + 1) n)) (by_gone from to v (s.held v) (is v (omega arith) (omega arith)))
    ∙ from_gone from to s (v + 1) n (λ j low high. is j (omega (arith, low)) (omega (arith, high)))

inside : (from to j : ℕ) → from ≤ j → j < to → is_between from to j ≡ true
inside from to j low high = grind (arith, nat_tests, low, high)

below : (from to j : ℕ) → j < from → is_between from to j ≡ false
below from to j low = grind (arith, nat_tests, low)

above : (from to j : ℕ) → to ≤ j → is_between from to j ≡ false
above from to j high = grind (arith, nat_tests, high)

-- ---- the positions before a worker, its own and those after it
from_both : (s : State) (v m n : ℕ) → held_from s v (m + n) ≡ held_from s v m ++ held_from s (v + m) n
from_both s v zero n =
    let none : 0 + n ≡ n = omega arith in
    let here : v ≡ v + 0 = omega arith in
    ap (held_from s v) none ∙ ap (λ k. held_from s k n) here
from_both s v (suc m) n =
    let more : suc m + n ≡ suc (m + n) = omega arith in
    let on : (v + 1) + m ≡ v + suc m = omega arith in
    ap (held_from s v) more
    ∙ ap (λ l. held_by v (s.held v) ++ l) (from_both s (v + 1) m n ∙ ap (λ k. held_from s (v + 1) m ++ held_from s k n) on)
    ∙ sym (append_assoc (held_by v (s.held v)) (held_from s (v + 1) m) (held_from s (v + suc m) n))

from_three : (s : State) (w : ℕ) → w ≤ 16 → held_from s 0 17 ≡ held_from s 0 w ++ (held_by w (s.held w) ++ held_from s (w + 1) (16 - w))
from_three s w h =
    let whole : 17 ≡ w + suc (16 - w) = omega (arith, h) in
    let here : 0 + w ≡ w = omega arith in
    ap (held_from s 0) whole ∙ from_both s 0 w (suc (16 - w)) ∙ ap (λ k. held_from s 0 w ++ held_from s k (suc (16 - w))) here

from_same : (s t : State) (v n : ℕ) → ((j : ℕ) → v ≤ j → j < v + n → s.held j ≡ t.held j) → held_from s v n ≡ held_from t v n
from_same s t v zero is = refl
from_same s t v (suc n) is =
    ap (λ l. held_by v l ++ held_from s (v + 1) n) (is v (omega arith) (omega arith))
    ∙ ap (λ l. held_by v (t.held v) ++ l) (from_same s t (v + 1) n (λ j low high. is j (omega (arith, low)) (omega (arith, high))))

-- ---- a hold
at_itself : {A : Type 0} (f : ℕ → A) (w : ℕ) (x : A) → with_number f w x w ≡ x
at_itself f w x = ⊎_elim
    (λ (t : (eqb w w ≡ true) × (w ≡ w)). ap (λ b. cond b x (f w)) t.0)
    (λ (t : (eqb w w ≡ false) × (w ≢ w)). absurd (t.1 refl))
    (eqb_tells w w)

at_other : {A : Type 0} (f : ℕ → A) (w : ℕ) (x : A) (v : ℕ) → v ≢ w → with_number f w x v ≡ f v
at_other f w x v h = ⊎_elim
    (λ (t : (eqb v w ≡ true) × (v ≡ w)). absurd (h t.1))
    (λ (t : (eqb v w ≡ false) × (v ≢ w)). ap (λ b. cond b x (f v)) t.0)
    (eqb_tells v w)

pub with_from : (s : State) (w : ℕ) (new : List (TaskId × ℕ)) → w ≤ 16 → held_with w new (held_from s 0 17) ≡ held_from (record s { held = with_number s.held w new }) 0 17
with_from s w new h =
    ap (held_with w new) (from_three s w h)
    ∙ ap (λ l. l ++ held_by w new ++ held_between (w + 1) 17 all) before
    ∙ ap (λ l. first ++ held_by w new ++ l) after
    ∙ append_assoc first (held_by w new) last
    ∙ sym (from_three t w h
    ∙ ap (λ l. l ++ (held_by w (t.held w) ++ held_from t (w + 1) (16 - w))) (from_same t s 0 w (λ j low high. at_other s.held w new j (λ e. absurd (omega (arith, high, e)))))
    ∙ ap (λ l. first ++ (held_by w l ++ held_from t (w + 1) (16 - w))) (at_itself s.held w new)
    ∙ ap (λ l. first ++ (held_by w new ++ l)) (from_same t s (w + 1) (16 - w) (λ j low high. at_other s.held w new j (λ e. absurd (omega (arith, low, e))))))
  where
    t : State
    t = record s { held = with_number s.held w new }

    first : List (ℕ × TaskId × ℕ)
    first = held_from s 0 w

    own : List (ℕ × TaskId × ℕ)
    own = held_by w (s.held w)

    last : List (ℕ × TaskId × ℕ)
    last = held_from s (w + 1) (16 - w)

    all : List (ℕ × TaskId × ℕ)
    all = first ++ (own ++ last)

    before : held_between 0 w all ≡ first
    before =
        between_append 0 w first (own ++ last)
        ∙ ap (λ l. l ++ held_between 0 w (own ++ last)) (from_kept 0 w s 0 w (λ j low high. inside 0 w j low (omega (arith, high))))
        ∙ ap (λ l. first ++ l) (between_append 0 w own last
        ∙ ap (λ l. l ++ held_between 0 w last) (by_gone 0 w w (s.held w) (above 0 w w (omega arith)))
        ∙ from_gone 0 w s (w + 1) (16 - w) (λ j low high. above 0 w j (omega (arith, low))))
        ∙ append-nil first

    after : held_between (w + 1) 17 all ≡ last
    after =
        between_append (w + 1) 17 first (own ++ last)
        ∙ ap (λ l. l ++ held_between (w + 1) 17 (own ++ last)) (from_gone (w + 1) 17 s 0 w (λ j low high. below (w + 1) 17 j (omega (arith, high))))
        ∙ between_append (w + 1) 17 own last
        ∙ ap (λ l. l ++ held_between (w + 1) 17 last) (by_gone (w + 1) 17 w (s.held w) (below (w + 1) 17 w (omega arith)))
        ∙ from_kept (w + 1) 17 s (w + 1) (16 - w) (λ j low high. inside (w + 1) 17 j low (omega (arith, high, h)))

-- ---- an expiry
without_append : (w : ℕ) (xs ys : List (ℕ × TaskId × ℕ)) → held_without w (xs ++ ys) ≡ held_without w xs ++ held_without w ys
without_append w [] ys = refl
without_append w (x ∷ xs) ys = by (x.0 == w) (without_append w xs ys)
  where
    by : (b : Bool) → held_without w (xs ++ ys) ≡ held_without w xs ++ held_without w ys
        → cond b (held_without w (xs ++ ys)) (x ∷ held_without w (xs ++ ys)) ≡ cond b (held_without w xs) (x ∷ held_without w xs) ++ held_without w ys
    by true same = same
    by false same = ap (λ l. x ∷ l) same

own_gone : (w v : ℕ) (held : List (TaskId × ℕ)) → (v == w) ≡ true → held_without w (held_by v held) ≡ []
own_gone w v [] is = refl
own_gone w v (h ∷ hs) is = ap (λ b. cond b (held_without w (held_by v hs)) ((v, h.0, h.1) ∷ held_without w (held_by v hs))) is ∙ own_gone w v hs is

others_stay : (w v : ℕ) (held : List (TaskId × ℕ)) → (v == w) ≡ false → held_without w (held_by v held) ≡ held_by v held
others_stay w v [] is = refl
others_stay w v (h ∷ hs) is =
    ap (λ b. cond b (held_without w (held_by v hs)) ((v, h.0, h.1) ∷ held_without w (held_by v hs))) is ∙ ap (λ l. (v, h.0, h.1) ∷ l) (others_stay w v hs is)

by_without : (w v : ℕ) (held : List (TaskId × ℕ)) → held_without w (held_by v held) ≡ held_by v (cond (v == w) [] held)
by_without w v held = by (v == w) refl
  where
    by : (b : Bool) → (v == w) ≡ b → held_without w (held_by v held) ≡ held_by v (cond b [] held)
    by true is = own_gone w v held is
    by false is = others_stay w v held is

pub without_from : (s : State) (w v n : ℕ) → held_without w (held_from s v n) ≡ held_from (record s { held = with_number s.held w [] }) v n
without_from s w v zero = refl
without_from s w v (suc n) =
    without_append w (held_by v (s.held v)) (held_from s (v + 1) n)
    ∙ ap (λ l. l ++ held_without w (held_from s (v + 1) n)) (by_without w v (s.held v))
    ∙ ap (λ l. held_by v (with_number s.held w [] v) ++ l) (without_from s w (v + 1) n)
