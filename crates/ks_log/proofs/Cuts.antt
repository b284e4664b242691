-- A step of a read.
use Rattle.std.proofs.Common.{◌≡◌, ◌≢◌, ℕ, zero, suc, ◌+◌, ◌-◌, List, [], ◌∷◌, ◌++◌, length, take, get_or, refl, ap, ◌∙◌, arith, append_assoc}
use Rattle.ks_record.specs.Records.{Record as Rec}
use Rattle.ks_history.specs.Partition.{past_last}

abbrev Pair : Type 0
Pair = ℕ × Rec

pub taken_one : (left : ℕ) (made : List Pair) (x : Pair) (rest : List Pair) → left ≢ 0 → (made ++ x ∷ []) ++ take (left - 1) rest ≡ made ++ take left (x ∷ rest)
taken_one zero made x rest h = absurd (h refl)
taken_one (suc left) made x rest h = append_assoc made (x ∷ []) (take (suc left - 1) rest) ∙ ap (λ k. made ++ x ∷ take k rest) (let e : suc left - 1 ≡ left = omega arith in e)

-- the last offset
pub past_last-at : (xs : List Pair) (d : Pair) → length xs ≢ 0 → (get_or xs (length xs - 1) d).0 + 1 ≡ past_last xs
past_last-at [] d h = absurd (h refl)
past_last-at (x ∷ []) d h = refl
past_last-at (x ∷ y ∷ ys) d h =
    let last : length (x ∷ y ∷ ys) - 1 ≡ suc (length (y ∷ ys) - 1) = omega arith in
    let some : length (y ∷ ys) ≢ 0 = λ e. absurd (omega (arith, e)) in
    ap (λ i. (get_or (x ∷ y ∷ ys) i d).0 + 1) last ∙ past_last-at (y ∷ ys) d some
