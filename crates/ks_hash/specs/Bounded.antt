-- A hash of MurmurHash3 has 128 bits: it is two halves, each of them a sum that wraps at 64.
use Rattle.std.proofs.Common.{ℕ, List, ◌+◌, ◌*◌, ◌%◌, ◌^◌, ◌<◌, arith}
use Rattle.std.specs.Prelude.{bit_xor}
use Rattle.std.proofs.lemmas.Nat.{mod_below}
use Rattle.ks_hash.specs.Murmur3.{State, plus, fmix, finished, murmur3_of}

sum_below : (x y : ℕ) → plus x y < 2 ^ 64
sum_below x y = mod_below (x + y) (2 ^ 64) (omega arith)

halves_below : (high low : ℕ) → high < 2 ^ 64 → low < 2 ^ 64 → high * 2 ^ 64 + low < 2 ^ 128
halves_below high low a b = omega (arith, a, b)

finished_below : (n : ℕ) (s : State) → finished n s < 2 ^ 128
unfolding finished
finished_below n s =
    let a1 = bit_xor s.h1 (n % 2 ^ 64) in
    let a2 = bit_xor s.h2 (n % 2 ^ 64) in
    let b1 = plus a1 a2 in
    let c1 = fmix b1 in
    let c2 = fmix (plus a2 b1) in
    halves_below (plus c1 c2) (plus c2 (plus c1 c2)) (sum_below c1 c2) (sum_below c2 (plus c1 c2))

pub murmur3_below : (bytes : List ℕ) → murmur3_of bytes < 2 ^ 128
unfolding murmur3_of
murmur3_below bytes = finished_below _ _

-- so has the hash that is 0 everywhere
pub zero_below : (bytes : List ℕ) → 0 < 2 ^ 128
zero_below bytes = omega arith
