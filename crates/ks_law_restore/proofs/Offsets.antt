-- Records below and past an offset.
use Rattle.std.proofs.Common.{◌≡◌, ℕ, None, ◌+◌, ◌≤◌, ◌<◌, cond, List, [], ◌∷◌, ◌++◌, refl, sym, ap, ap₂, subst, ◌∙◌, arith, append-nil, ⊎_elim, nat_lt}
use Rattle.std.proofs.lemmas.Bool.{cases_lt, lt-ltb, le-ltb, le-leb, lt-leb}
use Rattle.ks_history.specs.declared.partition.Slot.{Slot}
use Rattle.ks_history.specs.Partition.{Logged, stable, readable, past_from, below, decided_from}
use Rattle.ks_law_exactly_once.proofs.Slots.{Rising, decided_rises, past_all, below_none, readable_is, past_from-append, keep_append}

pub below_out : (high : ℕ) (x : Logged) (xs : List Logged) → high ≤ x.offset → below high (x ∷ xs) ≡ below high xs
below_out high x xs h = ap (λ b. cond b (x ∷ below high xs) (below high xs)) (le-ltb x.offset high h)

pub below_in : (high : ℕ) (x : Logged) (xs : List Logged) → x.offset < high → below high (x ∷ xs) ≡ x ∷ below high xs
below_in high x xs h = ap (λ b. cond b (x ∷ below high xs) (below high xs)) (lt-ltb x.offset high h)

pub past_in : (low : ℕ) (x : Logged) (xs : List Logged) → low ≤ x.offset → past_from low (x ∷ xs) ≡ x ∷ past_from low xs
past_in low x xs h = ap (λ b. cond b (x ∷ past_from low xs) (past_from low xs)) (le-leb low x.offset h)

pub past_out : (low : ℕ) (x : Logged) (xs : List Logged) → x.offset < low → past_from low (x ∷ xs) ≡ past_from low xs
past_out low x xs h = ap (λ b. cond b (x ∷ past_from low xs) (past_from low xs)) (lt-leb low x.offset h)

pub below-append : (high : ℕ) (xs ys : List Logged) → below high (xs ++ ys) ≡ below high xs ++ below high ys
below-append high [] ys = refl
below-append high (x ∷ xs) ys = keep_append (nat_lt x.offset high) x _ _ _ (below-append high xs ys)

pub rising_less : (at from : ℕ) (xs : List Logged) → at ≤ from → Rising from xs → Rising at xs
rising_less at from [] h r = tt
rising_less at from (x ∷ xs) h r = (omega (arith, h, r.0), r.1)

pub below_rises : (high at : ℕ) (xs : List Logged) → Rising at xs → Rising at (below high xs)
below_rises high at [] r = tt
below_rises high at (x ∷ xs) r = ⊎_elim
    (λ (less : x.offset < high). subst (Rising at) (sym (below_in high x xs less)) (r.0, below_rises high (x.offset + 1) xs r.1))
    (λ (more : high ≤ x.offset). subst (Rising at) (sym (below_out high x xs more)) (rising_less at (x.offset + 1) (below high xs) (omega (arith, r.0)) (below_rises high (x.offset + 1) xs r.1)))
    (cases_lt x.offset high)

-- the lower of two bounds counts
pub below_below : (low high : ℕ) (xs : List Logged) → low ≤ high → below high (below low xs) ≡ below low xs
below_below low high [] h = refl
below_below low high (x ∷ xs) h = ⊎_elim
    (λ (less : x.offset < low). ap (below high) (below_in low x xs less) ∙ below_in high x (below low xs) (omega (arith, less, h)) ∙ ap (λ l. x ∷ l) (below_below low high xs h) ∙ sym (below_in low x xs less))
    (λ (more : low ≤ x.offset). ap (below high) (below_out low x xs more) ∙ below_below low high xs h ∙ sym (below_out low x xs more))
    (cases_lt x.offset low)

pub below_least : (low high : ℕ) (xs : List Logged) → low ≤ high → below low (below high xs) ≡ below low xs
below_least low high [] h = refl
below_least low high (x ∷ xs) h = ⊎_elim
    (λ (less : x.offset < low). ap (below low) (below_in high x xs (omega (arith, less, h))) ∙ below_in low x (below high xs) less ∙ ap (λ l. x ∷ l) (below_least low high xs h) ∙ sym (below_in low x xs less))
    (λ (more : low ≤ x.offset). ⊎_elim
    (λ (less : x.offset < high). ap (below low) (below_in high x xs less) ∙ below_out low x (below high xs) more ∙ below_least low high xs h ∙ sym (below_out low x xs more))
    (λ (over : high ≤ x.offset). ap (below low) (below_out high x xs over) ∙ below_least low high xs h ∙ sym (below_out low x xs more))
    (cases_lt x.offset high))
    (cases_lt x.offset low)

-- a list is what stands below an offset and then what stands past it
pub cut : (low at : ℕ) (xs : List Logged) → Rising at xs → xs ≡ below low xs ++ past_from low xs
cut low at [] r = refl
cut low at (x ∷ xs) r = ⊎_elim
    (λ (less : x.offset < low). ap (λ l. x ∷ l) (cut low (x.offset + 1) xs r.1) ∙ ap₂ (λ a b. a ++ b) (sym (below_in low x xs less)) (sym (past_out low x xs less)))
    (λ (more : low ≤ x.offset). ap₂ (λ a b. a ++ b) (sym (below_none low x.offset (x ∷ xs) more (omega arith, r.1))) (sym (past_all low x.offset (x ∷ xs) more (omega arith, r.1))))
    (cases_lt x.offset low)

-- what stands past an offset rises from there
pub past_rises : (low at : ℕ) (xs : List Logged) → Rising at xs → Rising low (past_from low xs)
past_rises low at [] r = tt
past_rises low at (x ∷ xs) r = ⊎_elim
    (λ (less : x.offset < low). subst (Rising low) (sym (past_out low x xs less)) (past_rises low (x.offset + 1) xs r.1))
    (λ (more : low ≤ x.offset). subst (Rising low) (sym (past_all low x.offset (x ∷ xs) more (omega arith, r.1))) (more, r.1))
    (cases_lt x.offset low)

-- a record past an offset, of those below another, stands between the two
pub first_below : (low high at : ℕ) (xs : List Logged) (x : Logged) (rest : List Logged) → Rising at xs → past_from low (below high xs) ≡ x ∷ rest → x.offset < high
first_below low high at [] x rest r e = absurd cc
first_below low high at (y ∷ ys) x rest r e = ⊎_elim
    (λ (less : y.offset < high). ⊎_elim
    (λ (under : y.offset < low). first_below low high (y.offset + 1) ys x rest r.1 (sym (past_out low y (below high ys) under) ∙ sym (ap (past_from low) (below_in high y ys less)) ∙ e))
    (λ (over : low ≤ y.offset).
    let g : y ∷ past_from low (below high ys) ≡ x ∷ rest = sym (past_in low y (below high ys) over) ∙ sym (ap (past_from low) (below_in high y ys less)) ∙ e in
    let same : y ≡ x = cc in
    subst (λ (z : Logged). z.offset < high) same less)
    (cases_lt y.offset low))
    (λ (more : high ≤ y.offset). first_below low high (y.offset + 1) ys x rest r.1 (sym (ap (past_from low) (below_out high y ys more)) ∙ e))
    (cases_lt y.offset high)

-- nothing below one bound stands past a higher one
pub past_nothing : (low high : ℕ) (xs : List Logged) → high ≤ low → past_from low (below high xs) ≡ []
past_nothing low high [] h = refl
past_nothing low high (x ∷ xs) h = ⊎_elim
    (λ (less : x.offset < high). ap (past_from low) (below_in high x xs less) ∙ past_out low x (below high xs) (omega (arith, less, h)) ∙ past_nothing low high xs h)
    (λ (more : high ≤ x.offset). ap (past_from low) (below_out high x xs more) ∙ past_nothing low high xs h)
    (cases_lt x.offset high)

-- ---- up to the next record, and up to where nothing stands
module _ (low mid at : ℕ) (xs : List Logged) (rises : Rising at xs) (within : low ≤ mid) where
  past_mid : past_from low (past_from mid xs) ≡ past_from mid xs
  past_mid = past_all low mid (past_from mid xs) within (past_rises mid at xs rises)

  -- a bound past the middle
  below_cut : (high : ℕ) → mid ≤ high → below high xs ≡ below mid xs ++ below high (past_from mid xs)
  below_cut high h = ap (below high) (cut mid at xs rises) ∙ below-append high (below mid xs) (past_from mid xs) ∙ ap (λ l. l ++ below high (past_from mid xs)) (below_below mid high xs h)

  pub more_taken : (x : Logged) (rest : List Logged) → past_from mid xs ≡ x ∷ rest → past_from low (below (x.offset + 1) xs) ≡ past_from low (below mid xs) ++ x ∷ []
  more_taken x rest e =
      let r : Rising mid (x ∷ rest) = subst (Rising mid) e (past_rises mid at xs rises) in
      ap (past_from low) (below_cut (x.offset + 1) (omega (arith, r.0)))
      ∙ past_from-append low (below mid xs) (below (x.offset + 1) (past_from mid xs))
      ∙ ap (λ l. past_from low (below mid xs) ++ l) (
      ap (λ l. past_from low (below (x.offset + 1) l)) e
      ∙ ap (past_from low) (below_in (x.offset + 1) x rest (omega arith) ∙ ap (λ l. x ∷ l) (below_none (x.offset + 1) (x.offset + 1) rest (omega arith) r.1))
      ∙ past_in low x [] (omega (arith, within, r.0)))

  pub none_taken : (high : ℕ) → mid ≤ high → below high (past_from mid xs) ≡ [] → past_from low (below high xs) ≡ past_from low (below mid xs)
  none_taken high h e = ap (past_from low) (below_cut high h ∙ ap (λ l. below mid xs ++ l) e ∙ append-nil (below mid xs))

  -- what stands behind the next record
  pub then_follows : (x : Logged) (rest : List Logged) → past_from mid xs ≡ x ∷ rest → past_from (x.offset + 1) xs ≡ rest
  then_follows x rest e =
      let r : Rising mid (x ∷ rest) = subst (Rising mid) e (past_rises mid at xs rises) in
      ap (past_from (x.offset + 1)) (cut mid at xs rises)
      ∙ past_from-append (x.offset + 1) (below mid xs) (past_from mid xs)
      ∙ ap₂ (λ a b. a ++ b) (past_nothing (x.offset + 1) mid xs (omega (arith, r.0)))
      (ap (past_from (x.offset + 1)) e ∙ past_out (x.offset + 1) x rest (omega arith) ∙ past_all (x.offset + 1) (x.offset + 1) rest (omega arith) r.1)

-- what is readable rises
pub readable_rises : (slots : List Slot) → Rising 0 (readable slots)
readable_rises slots = subst (Rising 0) (sym (readable_is (λ w e. None) slots)) (below_rises (stable slots) 0 _ (decided_rises (λ w e. None) 0 slots))

pub readable_first : (low : ℕ) (slots : List Slot) (x : Logged) (rest : List Logged) → past_from low (readable slots) ≡ x ∷ rest → x.offset < stable slots
readable_first low slots x rest e = first_below low (stable slots) 0 (decided_from (λ w e. None) 0 slots) x rest (decided_rises (λ w e. None) 0 slots) (ap (past_from low) (sym (readable_is (λ w e. None) slots)) ∙ e)

pub readable_over : (low : ℕ) (slots : List Slot) (x : Logged) (rest : List Logged) → past_from low (readable slots) ≡ x ∷ rest → low ≤ x.offset
readable_over low slots x rest e = let r : Rising low (x ∷ rest) = subst (Rising low) e (past_rises low 0 (readable slots) (readable_rises slots)) in r.0
