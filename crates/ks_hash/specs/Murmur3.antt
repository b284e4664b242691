-- MurmurHash3 for 64-bit machines with 128 bits and the seed 0, as a function on a list of bytes. All arithmetic drops the carry.
-- Austin Appleby's algorithm MurmurHash3_x64_128 (public domain, smhasher). Kafka Streams takes another seed.
use Rattle.std.specs.Prelude.{ℕ, zero, suc, ◌+◌, ◌-◌, ◌*◌, ◌/◌, ◌%◌, ◌^◌, List, [], ◌∷◌, ◌++◌, length, take, drop, bit_xor, nat_le, nat_lt, if◌then◌else◌}
use Rattle.std.specs.Int.{w64, from_le_bytes, rotate_left}

abbrev pub times : ℕ → ℕ → ℕ
times x y = (x * y) % 2 ^ 64

abbrev pub plus : ℕ → ℕ → ℕ
plus x y = (x + y) % 2 ^ 64

-- the two halves of the state
pub record State : Type 0 where
  pub h1 : ℕ
  pub h2 : ℕ

-- a word, mixed before it goes into a half of the state
unfoldable pub word1 : ℕ → ℕ
word1 k = times (rotate_left w64 (times k 0x87c37b91114253d5) 31) 0x4cf5ad432745937f

unfoldable pub word2 : ℕ → ℕ
word2 k = times (rotate_left w64 (times k 0x4cf5ad432745937f) 33) 0x87c37b91114253d5

-- the halves after a block
unfoldable pub half1 : ℕ → ℕ → ℕ → ℕ
half1 h1 h2 k = plus (times (plus (rotate_left w64 (bit_xor h1 (word1 k)) 27) h2) 5) 0x52dce729

unfoldable pub half2 : ℕ → ℕ → ℕ → ℕ
half2 h1 h2 k = plus (times (plus (rotate_left w64 (bit_xor h2 (word2 k)) 31) h1) 5) 0x38495ab5

-- every bit of a word comes to bear on every other
unfoldable pub fmix : ℕ → ℕ
fmix k =
    let a = times (bit_xor k (k / 2 ^ 33)) 0xff51afd7ed558ccd in
    let b = times (bit_xor a (a / 2 ^ 33)) 0xc4ceb9fe1a85ec53 in
    bit_xor b (b / 2 ^ 33)

unfoldable pub with_block : State → ℕ → ℕ → State
with_block s k1 k2 = let h1 = half1 s.h1 s.h2 k1 in record { h1 = h1; h2 = half2 h1 s.h2 k2 }

-- the state after n blocks; a word is read from the first 8 bytes of a list, with zeros past its end
abbrev pub after_blocks : ℕ → State → List ℕ → State
after_blocks zero s xs = s
after_blocks (suc n) s xs = after_blocks n (with_block s (from_le_bytes w64 xs) (from_le_bytes w64 (drop 8 xs))) (drop 16 xs)

-- the state after a tail of fewer than 16 bytes
unfoldable pub with_tail : State → List ℕ → State
with_tail s tail =
    record {
      h1 = if nat_lt 0 (length tail) then bit_xor s.h1 (word1 (from_le_bytes w64 tail)) else s.h1;
      h2 = if nat_lt 8 (length tail) then bit_xor s.h2 (word2 (from_le_bytes w64 (drop 8 tail))) else s.h2;
    }

-- the hash of n bytes, from the state after them: the first half above the second
unfoldable pub finished : ℕ → State → ℕ
finished n s =
    let a1 = bit_xor s.h1 (n % 2 ^ 64) in
    let a2 = bit_xor s.h2 (n % 2 ^ 64) in
    let b1 = plus a1 a2 in
    let b2 = plus a2 b1 in
    let c1 = fmix b1 in
    let c2 = fmix b2 in
    let d1 = plus c1 c2 in
    let d2 = plus c2 d1 in
    d1 * 2 ^ 64 + d2

abbrev pub murmur3_of : List ℕ → ℕ
murmur3_of bytes = finished (length bytes) (with_tail (after_blocks (length bytes / 16) (record { h1 = 0; h2 = 0 }) bytes) (drop (16 * (length bytes / 16)) bytes))
