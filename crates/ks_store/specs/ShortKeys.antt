-- Keys of up to 23 bytes as three words.
use Rattle.std.specs.Prelude.{◌≡◌, ◌≤◌, ℕ, List, ◌++◌, take, drop, slice_index}
use Rattle.std.specs.Int.{w64, to_le_bytes, from_le_bytes}
use Rattle.std.specs.Hash as fed
use Rattle.ks_store.specs.Hashing.{padded}

-- the eight bytes from i on as a word, the lowest first
unfoldable pub word_at : List ℕ → ℕ → ℕ
word_at bytes i = from_le_bytes w64 (take 8 (drop i bytes))

-- the bytes of three words
unfoldable pub words_bytes : ℕ → ℕ → ℕ → List ℕ
words_bytes low middle high = to_le_bytes w64 low ++ to_le_bytes w64 middle ++ to_le_bytes w64 high

-- the key that three words are: the last byte says how many bytes it has
abbrev pub key_bytes : ℕ → ℕ → ℕ → List ℕ
key_bytes low middle high = take (slice_index (words_bytes low middle high) 23) (words_bytes low middle high)

-- a key's words
abbrev pub word_of : ℕ → List ℕ → ℕ
word_of i key = word_at (padded 23 key) i

-- three words are those of this key
pub record AreWords (low middle high : ℕ) (key : List ℕ) : Type 0 where
  pub low_word : low ≡ word_of 0 key
  pub middle_word : middle ≡ word_of 8 key
  pub high_word : high ≡ word_of 16 key
  pub most : slice_index (words_bytes low middle high) 23 ≤ 23

-- what is hashed of a key
abbrev pub key_fed : List ℕ → List (List ℕ)
key_fed key = fed.u64 (word_of 0 key) ++ fed.u64 (word_of 8 key) ++ fed.u64 (word_of 16 key)
