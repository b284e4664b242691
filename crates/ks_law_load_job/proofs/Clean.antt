-- Bytes between LF and the end of ASCII: of such a text each line is one, and it is UTF-8.
use Rattle.std.proofs.Common.{◌≡◌, ℕ, ◌+◌, ◌%◌, ◌^◌, ◌<◌, ◌≤◌, ◌&&◌, nat_lt, Bool, true, List, [], ◌∷◌, ◌++◌, decimal, refl, ap, ap₂, ◌∙◌, arith, lt-ltb, IsUtf8}
use Rattle.std.proofs.lemmas.Bool.{and_parts}
use Rattle.std.proofs.lemmas.Fmt.{decimal_by_steps}
use Rattle.std.proofs.lemmas.List.Concat.{flat_map-append}
use Rattle.json.specs.Print.{escape, escape_byte}
use Rattle.json.proofs.Printed.Strings.{escape_byte_plain}
use Rattle.json.proofs.Printed.Utf8.{are_ascii, IsUtf8-are_ascii}

abbrev pub is_clean : ℕ → Bool
is_clean c = nat_lt 10 c && nat_lt c 128

abbrev pub clean : List ℕ → Bool
clean [] = true
clean (c ∷ cs) = is_clean c && clean cs

pub clean_byte : (c : ℕ) → 10 < c → c < 128 → is_clean c ≡ true
clean_byte c h k = rw (lt-ltb 10 c h, lt-ltb c 128 k) refl

both : (a b : Bool) → a ≡ true → b ≡ true → a && b ≡ true
both a b e f = rw (e, f) refl

pub clean-append : (xs ys : List ℕ) → clean xs ≡ true → clean ys ≡ true → clean (xs ++ ys) ≡ true
clean-append [] ys h k = k
clean-append (x ∷ xs) ys h k = let p = and_parts (is_clean x) (clean xs) h in both (is_clean x) (clean (xs ++ ys)) p.0 (clean-append xs ys p.1 k)

pub clean_utf8 : (xs : List ℕ) → clean xs ≡ true → IsUtf8 xs
clean_utf8 xs h = IsUtf8-are_ascii xs (ascii xs h)
  where
    ascii : (xs : List ℕ) → clean xs ≡ true → are_ascii xs ≡ true
    ascii [] h = refl
    ascii (x ∷ xs) h = let p = and_parts (is_clean x) (clean xs) h in both (nat_lt x 128) (are_ascii xs) (and_parts (nat_lt 10 x) (nat_lt x 128) p.0).1 (ascii xs p.1)

-- ---- digits
pub clean-decimal : (n : ℕ) → n < 2 ^ 64 → clean (decimal n) ≡ true
clean-decimal = decimal_by_steps (λ m ds. clean ds ≡ true) (λ m l. both (is_clean (48 + m)) true (clean_byte (48 + m) (omega arith) (omega arith)) refl)
    (λ m ds l h. clean-append ds ((48 + m % 10) ∷ []) h (both (is_clean (48 + m % 10)) true (clean_byte (48 + m % 10) (omega arith) (omega arith)) refl))

-- a digit is written as it is
plain : (c : ℕ) → 48 ≤ c → c < 58 → escape (c ∷ []) ≡ c ∷ []
plain c h k = ap (λ l. l ++ []) (escape_byte_plain c (λ e. omega arith) (λ e. omega arith) (omega arith))

pub escape-decimal : (n : ℕ) → n < 2 ^ 64 → escape (decimal n) ≡ decimal n
escape-decimal = decimal_by_steps (λ m ds. escape ds ≡ ds) (λ m l. plain (48 + m) (omega arith) (omega arith))
    (λ m ds l h. flat_map-append escape_byte ds ((48 + m % 10) ∷ []) ∙ ap₂ (λ (a b : List ℕ). a ++ b) h (plain (48 + m % 10) (omega arith) (omega arith)))
