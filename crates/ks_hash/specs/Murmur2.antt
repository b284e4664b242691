-- MurmurHash2 with 32 bits and the seed of Kafka's clients, as a function on a list of bytes. All arithmetic drops the carry.
-- Austin Appleby's algorithm (public domain, smhasher), as Apache Kafka's `Utils.murmur2` computes it.
use Rattle.std.specs.Prelude.{ℕ, ◌+◌, ◌*◌, ◌/◌, ◌%◌, ◌^◌, List, [], ◌∷◌, length, bit_xor}
use Rattle.std.specs.Int.{w32, from_le_bytes}

abbrev pub times : ℕ → ℕ → ℕ
times x y = (x * y) % 2 ^ 32

-- x ^ (x >> n)
abbrev pub folded : ℕ → ℕ → ℕ
folded n x = bit_xor x (x / 2 ^ n)

abbrev pub multiplier : ℕ
multiplier = 0x5bd1e995

-- h after a whole block with the word k
unfoldable pub with_block : ℕ → ℕ → ℕ
with_block h k = bit_xor (times h multiplier) (times (folded 24 (times k multiplier)) multiplier)

-- h after a tail of one, two or three bytes
unfoldable pub with_one : ℕ → ℕ → ℕ
with_one h a = times (bit_xor h a) multiplier

unfoldable pub with_two : ℕ → ℕ → ℕ → ℕ
with_two h a b = with_one (bit_xor h (b * 2 ^ 8)) a

unfoldable pub with_three : ℕ → ℕ → ℕ → ℕ → ℕ
with_three h a b c = with_two (bit_xor h (c * 2 ^ 16)) a b

-- h after the blocks and the tail
abbrev pub mixed : ℕ → List ℕ → ℕ
mixed h [] = h
mixed h (a ∷ []) = with_one h a
mixed h (a ∷ b ∷ []) = with_two h a b
mixed h (a ∷ b ∷ c ∷ []) = with_three h a b c
mixed h (a ∷ b ∷ c ∷ d ∷ rest) = mixed (with_block h (from_le_bytes w32 (a ∷ b ∷ c ∷ d ∷ []))) rest

-- the last mixing of h
unfoldable pub finished : ℕ → ℕ
finished h = folded 15 (times (folded 13 h) multiplier)

-- h before the first byte of n
abbrev pub seeded : ℕ → ℕ
seeded n = bit_xor 0x9747b28c (n % 2 ^ 32)

abbrev pub murmur2_of : List ℕ → ℕ
murmur2_of bytes = finished (mixed (seeded (length bytes)) bytes)
