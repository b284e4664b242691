-- Writes of words, and of bytes that are no whole word.
use Rattle.std.proofs.Common.{◌≡◌, ℕ, suc, ◌+◌, ◌*◌, ◌/◌, ◌<◌, ◌≤◌, ◌^◌, List, [], ◌∷◌, length, take, drop, ap, sym, arith, ◌∙◌, w64, drop-drop}
use Rattle.std.specs.Int.{from_le_bytes}
use Rattle.std.specs.Hash.{le_bytes}
use Rattle.std.proofs.lemmas.Nat.{from_le_bytes-to_le_bytes_8}
use Rattle.ks_store.specs.Hashing.{mixed, after_words, after_tail, after_write}

pub word_written : (s t n : ℕ) → n < 2 ^ 64 → t ≡ mixed s n → t ≡ after_write s (le_bytes 8 n)
unfolding after_write le_bytes
word_written s t n fits e = e ∙ ap (mixed s) (sym (from_le_bytes-to_le_bytes_8 n fits))

pub byte_written : (s t w b : ℕ) → w ≡ from_le_bytes w64 (b ∷ 0 ∷ 0 ∷ 0 ∷ 0 ∷ 0 ∷ 0 ∷ 1 ∷ []) → t ≡ mixed s w → t ≡ after_write s (b ∷ [])
unfolding after_write
byte_written s t w b read e = e ∙ ap (mixed s) read

-- of a list that begins with eight bytes
pub word_on : (s : ℕ) (xs : List ℕ) → 8 ≤ length xs → after_write s xs ≡ after_write (mixed s (from_le_bytes w64 (take 8 xs))) (drop 8 xs)
unfolding after_write
word_on s [] p = absurd (omega arith)
word_on s (a ∷ []) p = absurd (omega arith)
word_on s (a ∷ b ∷ []) p = absurd (omega arith)
word_on s (a ∷ b ∷ c ∷ []) p = absurd (omega arith)
word_on s (a ∷ b ∷ c ∷ d ∷ []) p = absurd (omega arith)
word_on s (a ∷ b ∷ c ∷ d ∷ e ∷ []) p = absurd (omega arith)
word_on s (a ∷ b ∷ c ∷ d ∷ e ∷ f ∷ []) p = absurd (omega arith)
word_on s (a ∷ b ∷ c ∷ d ∷ e ∷ f ∷ g ∷ []) p = absurd (omega arith)
word_on s (a ∷ b ∷ c ∷ d ∷ e ∷ f ∷ g ∷ h ∷ rest) p =
    let n : ℕ = length rest / 8 in
    let xs : List ℕ = a ∷ b ∷ c ∷ d ∷ e ∷ f ∷ g ∷ h ∷ rest in
    let whole : length xs / 8 ≡ suc n = omega arith in
    let over : 8 * suc n ≡ 8 + 8 * n = omega arith in
    ap (λ m. after_tail (after_words m s xs) (drop (8 * m) xs)) whole ∙ ap (λ m. after_tail (after_words (suc n) s xs) m) (ap (λ m. drop m xs) over ∙ sym (drop-drop (8 * n) 8 xs))

pub word_before : (s t w all : ℕ) (xs word more : List ℕ) → word ≡ take 8 xs → more ≡ drop 8 xs → length more + 8 ≡ length xs → w ≡ from_le_bytes w64 word → t ≡ mixed s w →
    after_write s xs ≡ all → after_write t more ≡ all
word_before s t w all xs word more first rest fits read e o =
    let told : t ≡ mixed s (from_le_bytes w64 (take 8 xs)) = e ∙ ap (mixed s) (read ∙ ap (from_le_bytes w64) first) in
    ap (λ u. after_write u more) told ∙ (ap (after_write (mixed s (from_le_bytes w64 (take 8 xs)))) rest ∙ (sym (word_on s xs (omega arith)) ∙ o))

-- of fewer than eight bytes
pub tail_on : (s : ℕ) (xs : List ℕ) → length xs < 8 → after_write s xs ≡ after_tail s xs
unfolding after_write
tail_on s xs p =
    let none : length xs / 8 ≡ 0 = omega arith in
    ap (λ m. after_tail (after_words m s xs) (drop (8 * m) xs)) none

pub tail_written : (s t all : ℕ) (xs : List ℕ) → length xs < 8 → t ≡ after_tail s xs → after_write s xs ≡ all → t ≡ all
tail_written s t all xs p e o = e ∙ (sym (tail_on s xs p) ∙ o)
