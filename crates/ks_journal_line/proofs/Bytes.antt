-- The bytes that digits spell, two by two.
use Rattle.std.proofs.Common.{◌≡◌, ℕ, ◌-◌, ◌≤◌, List, [], ◌∷◌, ◌++◌, length, take, drop, get_or, Some, ap, ◌∙◌, sym, arith, take_all}
use Rattle.ks_row.specs.Reading.{◌>>=◌}
use Rattle.ks_journal.specs.Reading.{byte_from, bytes_onto}

pub two_digits : (text : List ℕ) (b : ℕ) → 2 ≤ length text → byte_from (get_or text 0 0) (get_or text 1 0) ≡ Some b
    → (found : List ℕ) → bytes_onto found text ≡ bytes_onto (found ++ b ∷ []) (take (length text - 2) (drop 2 text))
two_digits [] b some is found = absurd (omega arith)
two_digits (c ∷ []) b some is found = absurd (omega arith)
two_digits (c ∷ d ∷ rest) b some is found =
    ap (λ o. o >>= λ x. bytes_onto (found ++ x ∷ []) rest) is ∙ ap (bytes_onto (found ++ b ∷ [])) (sym (take_all (length (c ∷ d ∷ rest) - 2) rest (omega arith)))
