-- Numbers of 64 bits: what wraps is determined by its bits.
use Rattle.std.proofs.Common.{◌≡◌, ℕ, suc, ◌+◌, ◌-◌, ◌%◌, ◌^◌, ◌<◌, ◌≤◌, Bool, true, false, cond, refl, sym, ap, ap₂, subst, ◌∙◌, arith, ⊎_elim}
use Rattle.std.specs.Prelude.{ℤ, pos, negsuc}
use Rattle.std.specs.Int.{w64, cast_signed, cast_unsigned}
use Rattle.std.proofs.lemmas.Int.{of_z-to_z}
use Rattle.std.proofs.lemmas.Bool.{cases_lt, ltb-true}
use Rattle.std.specs.Prelude.{nat_lt}
use Rattle.ks_wire.specs.declared.values.Agg.{Agg}
use Rattle.ks_wire.specs.declared.values.Delta.{Delta}
use Rattle.ks_query.specs.Aggregates.{as_i64, moved}

abbrev pub bits_of : ℤ → ℕ
bits_of z = cast_unsigned w64 z

abbrev pub of_bits : ℕ → ℤ
of_bits n = cast_signed w64 n

large_number : (n : ℕ) → 2 ^ 64 ≤ n → of_bits n ≡ negsuc 0
large_number n le = elim (nat_lt n (2 ^ 63)) as (λ b. nat_lt n (2 ^ 63) ≡ b → cond b (pos n) (negsuc (2 ^ 64 - suc n)) ≡ negsuc 0) [
  | true ↦ λ b. let lt = ltb-true n (2 ^ 63) b in absurd (omega arith)
  | false ↦ λ b. let zero : 2 ^ 64 - suc n ≡ 0 = omega arith in ap negsuc zero
] refl

pub bits_back : (n : ℕ) → n < 2 ^ 64 → bits_of (of_bits n) ≡ n
bits_back n lt = of_z-to_z w64 n lt

pub bits_below : (n : ℕ) → bits_of (of_bits n) < 2 ^ 64
bits_below n = ⊎_elim (λ (lt : n < 2 ^ 64). subst (λ m. m < 2 ^ 64) (sym (bits_back n lt)) lt) (λ le. subst (λ z. bits_of z < 2 ^ 64) (sym (large_number n le)) (omega arith)) (cases_lt n (2 ^ 64))

pub signed_again : (n : ℕ) → of_bits (bits_of (of_bits n)) ≡ of_bits n
signed_again n = ⊎_elim (λ (lt : n < 2 ^ 64). ap of_bits (bits_back n lt)) (λ le. subst (λ z. of_bits (bits_of z) ≡ z) (sym (large_number n le)) refl) (cases_lt n (2 ^ 64))

pub as_i64_again : (z : ℤ) → as_i64 (as_i64 z) ≡ as_i64 z
as_i64_again z = signed_again (bits_of z)

-- an aggregate of 64 bits each
abbrev pub of_sums : ℕ → ℕ → Agg
of_sums m a = record { members = of_bits m; total = of_bits a }

-- a delta's members and amount, as bits to add
abbrev pub delta_members : Delta → ℕ
delta_members d = cond d.add 1 (2 ^ 64 - 1)

abbrev pub delta_amount : Delta → ℕ
delta_amount d = cond d.add (bits_of d.amount % 2 ^ 64) ((2 ^ 64 - bits_of d.amount) % 2 ^ 64)

-- a delta adds its bits
pub moved_bits : (m a : ℕ) (d : Delta) → m < 2 ^ 64 → a < 2 ^ 64 → moved (of_sums m a) d ≡ of_sums ((m + delta_members d) % 2 ^ 64) ((a + delta_amount d) % 2 ^ 64)
moved_bits m a d p q = by_sign d.add
  where
    by_sign : (add : Bool) → moved (of_sums m a) (record { add = add; amount = d.amount }) ≡ of_sums ((m + delta_members (record { add = add; amount = d.amount })) % 2 ^ 64) ((a + delta_amount (record { add = add; amount = d.amount })) % 2 ^ 64)
    by_sign true =
        let e : (bits_of (of_bits m) + 1) % 2 ^ 64 ≡ (m + 1) % 2 ^ 64 = ap (λ n. (n + 1) % 2 ^ 64) (bits_back m p) in
        let f : (bits_of (of_bits a) + bits_of d.amount) % 2 ^ 64 ≡ (a + bits_of d.amount % 2 ^ 64) % 2 ^ 64 = ap (λ n. (n + bits_of d.amount) % 2 ^ 64) (bits_back a q) ∙ omega arith in
        ap₂ (λ n k. of_sums n k) e f
    by_sign false =
        let e : (bits_of (of_bits m) + (2 ^ 64 - 1)) % 2 ^ 64 ≡ (m + (2 ^ 64 - 1)) % 2 ^ 64 = ap (λ n. (n + (2 ^ 64 - 1)) % 2 ^ 64) (bits_back m p) in
        let f : (bits_of (of_bits a) + (2 ^ 64 - bits_of d.amount)) % 2 ^ 64 ≡ (a + (2 ^ 64 - bits_of d.amount) % 2 ^ 64) % 2 ^ 64 = ap (λ n. (n + (2 ^ 64 - bits_of d.amount)) % 2 ^ 64) (bits_back a q) ∙ omega arith in
        ap₂ (λ n k. of_sums n k) e f
