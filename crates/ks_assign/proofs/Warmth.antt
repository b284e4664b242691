-- A client is warm where its one lag is small
use Rattle.std.proofs.Common.{◌≡◌, ℕ, suc, ◌==◌, ◌&&◌, ◌||◌, Bool, true, false, cond, nat_le, List, [], ◌∷◌, length, refl, sym, ap, ◌∙◌, arith, inl, inr}
use Rattle.ks_record.specs.declared.record.TaskId.{TaskId}
use Rattle.ks_assign.specs.declared.clients.Held.{Held}
use Rattle.ks_record.specs.Parts.{same_task}
use Rattle.ks_assign.specs.Lag.{lags_of, warm}
use Rattle.ks_assign.proofs.Others.{is_or_not}

and_three : (a b c : Bool) → (a && (b && c)) ≡ ((a && b) && c)
and_three true b c = refl
and_three false b c = refl

or_false : (a : Bool) → (a || false) ≡ a
or_false true = refl
or_false false = refl

own : Held → ℕ → TaskId → Bool
own h i t = (h.instance == i) && same_task h.task t

head_of : ℕ → List ℕ → ℕ
head_of d [] = d
head_of d (x ∷ xs) = x

tail_of : List ℕ → List ℕ
tail_of [] = []
tail_of (x ∷ xs) = xs

pub warm_none : (held : List Held) (lag i : ℕ) (t : TaskId) → lags_of i t held ≡ [] → warm held lag i t ≡ false
unfolding own
warm_none [] lag i t e = refl
warm_none (h ∷ hs) lag i t e =
    elim (is_or_not (own h i t)) [
      | inl s ↦
          let f : h.lag ∷ lags_of i t hs ≡ [] = sym (ap (λ b. cond b (h.lag ∷ lags_of i t hs) (lags_of i t hs)) s) ∙ e in
          let n : suc (length (lags_of i t hs)) ≡ 0 = ap (λ (xs : List ℕ). length xs) f in
          absurd (omega (arith, n))
      | inr s ↦
          ap (λ b. b || warm hs lag i t) (and_three (h.instance == i) (same_task h.task t) (nat_le h.lag lag) ∙ ap (λ b. b && nat_le h.lag lag) s)
          ∙ warm_none hs lag i t (sym (ap (λ b. cond b (h.lag ∷ lags_of i t hs) (lags_of i t hs)) s) ∙ e)
    ]

pub warm_is : (held : List Held) (lag i : ℕ) (t : TaskId) (n : ℕ) → lags_of i t held ≡ n ∷ [] → warm held lag i t ≡ nat_le n lag
unfolding own head_of tail_of
warm_is [] lag i t n e = let k : 0 ≡ 1 = ap (λ (xs : List ℕ). length xs) e in absurd (omega (arith, k))
warm_is (h ∷ hs) lag i t n e =
    elim (is_or_not (own h i t)) [
      | inl s ↦
          let f : h.lag ∷ lags_of i t hs ≡ n ∷ [] = sym (ap (λ b. cond b (h.lag ∷ lags_of i t hs) (lags_of i t hs)) s) ∙ e in
          ap (λ b. b || warm hs lag i t) (and_three (h.instance == i) (same_task h.task t) (nat_le h.lag lag) ∙ ap (λ b. b && nat_le h.lag lag) s)
          ∙ ap (λ b. nat_le h.lag lag || b) (warm_none hs lag i t (ap tail_of f))
          ∙ or_false (nat_le h.lag lag) ∙ ap (λ (x : ℕ). nat_le x lag) (ap (head_of 0) f)
      | inr s ↦
          ap (λ b. b || warm hs lag i t) (and_three (h.instance == i) (same_task h.task t) (nat_le h.lag lag) ∙ ap (λ b. b && nat_le h.lag lag) s)
          ∙ warm_is hs lag i t n (sym (ap (λ b. cond b (h.lag ∷ lags_of i t hs) (lags_of i t hs)) s) ∙ e)
    ]
