-- Numbers of sixteen bytes, by their halves.
use Rattle.std.proofs.Common.{◌≡◌, ℕ, ◌+◌, ◌*◌, ◌/◌, ◌%◌, ◌^◌, ◌<◌, ◌≤◌, List, [], ◌∷◌, ◌++◌, length, get_or, take, drop, refl, sym, ap, ◌∙◌, arith}
use Rattle.std.specs.Int.{w64, w128, byte_len, from_be_bytes, to_be_bytes}
use Rattle.std.proofs.lemmas.List.{take_at, drop_at, take-append-drop, length-take, length-drop, get_or-drop, get_or-take}
use Rattle.ks_record.specs.Bytes.{IsBytes}
use Rattle.ks_row.proofs.Fields.{IsWide, IsBytes-take, IsBytes-drop, wide64}

same_cells : (a b c d e f g h k l m n o p q r : ℕ) (s t : List ℕ) → a ≡ k → b ≡ l → c ≡ m → d ≡ n → e ≡ o → f ≡ p → g ≡ q → h ≡ r → s ≡ t →
    a ∷ b ∷ c ∷ d ∷ e ∷ f ∷ g ∷ h ∷ s ≡ k ∷ l ∷ m ∷ n ∷ o ∷ p ∷ q ∷ r ∷ t
same_cells a b c d e f g h k l m n o p q r s t ak bl cm dn eo fp gq hr st = cc

halves : (n : ℕ) → to_be_bytes w128 n ≡ to_be_bytes w64 (n / 2 ^ 64) ++ to_be_bytes w64 (n % 2 ^ 64)
halves n =
    same_cells _ _ _ _ _ _ _ _ _ _ _ _ _ _ _ _ _ _ (omega arith) (omega arith) (omega arith) (omega arith) (omega arith) (omega arith) (omega arith) (omega arith)
    (same_cells _ _ _ _ _ _ _ _ _ _ _ _ _ _ _ _ [] [] (omega arith) (omega arith) (omega arith) (omega arith) (omega arith) (omega arith) (omega arith) (omega arith) refl)

both_halves : (bytes : List ℕ) → from_be_bytes w128 bytes ≡ from_be_bytes w64 (take 8 bytes) * 2 ^ 64 + from_be_bytes w64 (drop 8 bytes)
both_halves bytes =
    omega (
      arith,
      get_or-take 8 bytes 0 0 (omega arith),
      get_or-take 8 bytes 1 0 (omega arith),
      get_or-take 8 bytes 2 0 (omega arith),
      get_or-take 8 bytes 3 0 (omega arith),
      get_or-take 8 bytes 4 0 (omega arith),
      get_or-take 8 bytes 5 0 (omega arith),
      get_or-take 8 bytes 6 0 (omega arith),
      get_or-take 8 bytes 7 0 (omega arith),
      get_or-drop 8 bytes 0 0,
      get_or-drop 8 bytes 1 0,
      get_or-drop 8 bytes 2 0,
      get_or-drop 8 bytes 3 0,
      get_or-drop 8 bytes 4 0,
      get_or-drop 8 bytes 5 0,
      get_or-drop 8 bytes 6 0,
      get_or-drop 8 bytes 7 0,
    )

split : (a high low : ℕ) → a ≡ high * 2 ^ 64 + low → low < 2 ^ 64 → (a / 2 ^ 64 ≡ high) × (a % 2 ^ 64 ≡ low)
split a high low e lt = (omega arith, omega arith)

joined : (a : ℕ) → a / 2 ^ 64 * 2 ^ 64 + a % 2 ^ 64 ≡ a
joined a = omega arith

spelled : (high low : List ℕ) (m n : ℕ) → to_be_bytes w64 m ≡ high → to_be_bytes w64 n ≡ low → to_be_bytes w64 m ++ to_be_bytes w64 n ≡ high ++ low
spelled high low m n e f = ap (λ (x : List ℕ). x ++ to_be_bytes w64 n) e ∙ ap (λ (x : List ℕ). high ++ x) f

from_spelled : (bytes : List ℕ) (a high low : ℕ) → a / 2 ^ 64 ≡ high → a % 2 ^ 64 ≡ low → to_be_bytes w64 high ≡ take 8 bytes → to_be_bytes w64 low ≡ drop 8 bytes → to_be_bytes w128 a ≡ bytes
from_spelled bytes a high low e f g h =
    halves a ∙ (spelled (take 8 bytes) (drop 8 bytes) (a / 2 ^ 64) (a % 2 ^ 64) (ap (to_be_bytes w64) e ∙ g) (ap (to_be_bytes w64) f ∙ h) ∙ take-append-drop 8 bytes)

back128 : (bytes : List ℕ) → length bytes ≡ 16 → IsBytes bytes → to_be_bytes w128 (from_be_bytes w128 bytes) ≡ bytes
back128 bytes len fits =
    let front = IsBytes-take 8 bytes fits in
    let rest = IsBytes-drop 8 bytes fits in
    let p = split (from_be_bytes w128 bytes) (from_be_bytes w64 (take 8 bytes)) (from_be_bytes w64 (drop 8 bytes)) (both_halves bytes) (wide64.below (drop 8 bytes) rest) in
    from_spelled bytes (from_be_bytes w128 bytes) (from_be_bytes w64 (take 8 bytes)) (from_be_bytes w64 (drop 8 bytes)) p.0 p.1
    (wide64.back (take 8 bytes) (omega (arith, length-take 8 bytes)) front) (wide64.back (drop 8 bytes) (omega (arith, length-drop 8 bytes)) rest)

from_halves : (bytes high low : List ℕ) (n : ℕ) → bytes ≡ high ++ low → length high ≡ 8 → from_be_bytes w64 high ≡ n / 2 ^ 64 → from_be_bytes w64 low ≡ n % 2 ^ 64 → from_be_bytes w128 bytes ≡ n
from_halves bytes high low n e l g h =
    let f : take 8 bytes ≡ high = ap (take 8) e ∙ take_at high low 8 l in
    let d : drop 8 bytes ≡ low = ap (drop 8) e ∙ drop_at high low 8 l in
    both_halves bytes ∙ (ap (λ (x : ℕ). x * 2 ^ 64 + from_be_bytes w64 (drop 8 bytes)) (ap (from_be_bytes w64) f ∙ g) ∙ (ap (λ (x : ℕ). n / 2 ^ 64 * 2 ^ 64 + x) (ap (from_be_bytes w64) d ∙ h) ∙ joined n))

again128 : (n : ℕ) → n < 2 ^ 128 → from_be_bytes w128 (to_be_bytes w128 n) ≡ n
again128 n lt =
    from_halves (to_be_bytes w128 n) (to_be_bytes w64 (n / 2 ^ 64)) (to_be_bytes w64 (n % 2 ^ 64)) n (halves n) refl
    (wide64.again (n / 2 ^ 64) (omega arith)) (wide64.again (n % 2 ^ 64) (omega arith))

pub wide128 : IsWide w128 (2 ^ 128)
wide128 = record {
  len = λ n. refl;
  back = back128;
  again = again128;
  below = λ bytes fits. omega (arith, both_halves bytes, wide64.below (take 8 bytes) (IsBytes-take 8 bytes fits), wide64.below (drop 8 bytes) (IsBytes-drop 8 bytes fits));
}
