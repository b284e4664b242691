-- What a hasher of keys computes.
use Rattle.std.specs.Prelude.{ℕ, zero, suc, ◌-◌, ◌*◌, ◌/◌, List, [], ◌∷◌, ◌++◌, length, drop, replicate, bit_xor}
use Rattle.std.specs.Int.{w64, from_le_bytes}
use Rattle.std.specs.Hash.FoldHasher.{folded_multiply}
use Rattle.std.specs.HashMap.{HashMap, hasher_of}
use Rattle.ks_store.specs.declared.hashing.KeyHashing.{KeyHashing}

-- the bytes, then zeros, then how many bytes they are: so many bytes and one
abbrev pub padded : ℕ → List ℕ → List ℕ
padded most bytes = bytes ++ replicate (most - length bytes) 0 ++ length bytes ∷ []

-- the state after a word
unfoldable pub mixed : ℕ → ℕ → ℕ
mixed state word = folded_multiply (bit_xor state word) 0x9e37_79b9_7f4a_7c15

-- the state with which a hash begins by a seed
unfoldable pub start_by : ℕ → ℕ
start_by seed = mixed 0x243f_6a88_85a3_08d3 seed

-- the state with which the hashes of a table's keys begin
abbrev pub start_of : {K X : Type 0} → HashMap K X KeyHashing → ℕ
start_of m = (hasher_of m).begun.state

-- the state after n words of eight bytes, the lowest first
abbrev pub after_words : ℕ → ℕ → List ℕ → ℕ
after_words zero state bytes = state
after_words (suc n) state bytes = after_words n (mixed state (from_le_bytes w64 bytes)) (drop 8 bytes)

-- the state after fewer than eight bytes
abbrev pub after_tail : ℕ → List ℕ → ℕ
after_tail state [] = state
after_tail state (b ∷ bytes) = mixed state (from_le_bytes w64 (padded 7 (b ∷ bytes)))

-- the state after a write
unfoldable pub after_write : ℕ → List ℕ → ℕ
after_write state bytes = let n = length bytes / 8 in after_tail (after_words n state bytes) (drop (8 * n) bytes)
