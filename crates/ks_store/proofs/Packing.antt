-- Keys of up to 23 bytes as three words, and back.
use Rattle.std.proofs.Common.{◌≡◌, ℕ, zero, suc, ◌+◌, ◌-◌, ◌<◌, ◌≤◌, List, [], ◌∷◌, ◌++◌, length, take, drop, get_or, slice_index, replicate, refl, ap, sym, arith, ◌∙◌, w64, drop-cons, take_all, length-append, length-drop, append_assoc}
use Rattle.std.specs.Int.{from_le_bytes, to_le_bytes}
use Rattle.std.proofs.lemmas.Nat.{le_bytes_8}
use Rattle.std.proofs.lemmas.List.{length-replicate}
use Rattle.ks_store.specs.Hashing.{padded}
use Rattle.ks_store.specs.ShortKeys.{word_at, words_bytes, key_bytes, AreWords}

-- ---- bytes

abbrev AreSmall : List ℕ → Type 0
AreSmall xs = (i : ℕ) → get_or xs i 0 < 256

small_append : (xs ys : List ℕ) → AreSmall xs → AreSmall ys → AreSmall (xs ++ ys)
small_append [] ys f g i = g i
small_append (x ∷ xs) ys f g zero = f 0
small_append (x ∷ xs) ys f g (suc i) = small_append xs ys (λ k. f (suc k)) g i

small_zeros : (n : ℕ) → AreSmall (replicate n 0)
small_zeros zero i = omega arith
small_zeros (suc n) zero = omega arith
small_zeros (suc n) (suc i) = small_zeros n i

small_one : (n : ℕ) → n < 256 → AreSmall (n ∷ [])
small_one n p zero = p
small_one n p (suc i) = omega arith

abbrev zeros_after : List ℕ → List ℕ
zeros_after key = replicate (23 - length key) 0

length_zeros : (key : List ℕ) → length key ≤ 23 → length (key ++ zeros_after key) ≡ 23
length_zeros key p =
    let l : length (zeros_after key) ≡ 23 - length key = length-replicate (23 - length key) 0 in
    omega (arith, length-append key (zeros_after key), l)

small_padded : (key : List ℕ) → length key ≤ 23 → AreSmall key → AreSmall (padded 23 key)
small_padded key p f = small_append (key ++ zeros_after key) (length key ∷ []) (small_append key (zeros_after key) f (small_zeros (23 - length key))) (small_one (length key) (omega arith))

length_padded : (key : List ℕ) → length key ≤ 23 → length (padded 23 key) ≡ 24
length_padded key p = omega (arith, length-append (key ++ zeros_after key) (length key ∷ []), length_zeros key p)

-- k of the items, from place i on
abbrev listed : List ℕ → ℕ → ℕ → List ℕ
listed xs i zero = []
listed xs i (suc k) = get_or xs i 0 ∷ listed xs (suc i) k

listed_take : (xs : List ℕ) (i k : ℕ) → i + k ≤ length xs → listed xs i k ≡ take k (drop i xs)
listed_take xs i zero p = refl
listed_take xs i (suc k) p =
    let h : i < length xs = omega arith in
    ap (λ t. get_or xs i 0 ∷ t) (listed_take xs (suc i) k (omega arith)) ∙ sym (ap (take (suc k)) (drop-cons xs i 0 h))

listed_small : (xs : List ℕ) → AreSmall xs → (i k : ℕ) → AreSmall (listed xs i k)
listed_small xs f i zero j = omega arith
listed_small xs f i (suc k) zero = f i
listed_small xs f i (suc k) (suc j) = listed_small xs f (suc i) k j

-- ---- the bytes of words

pub word_read : (bytes first : List ℕ) (at m n : ℕ) → n ≡ from_le_bytes w64 first → first ≡ take 8 (take m (drop at bytes)) → length bytes ≤ at + m → n ≡ word_at bytes at
unfolding word_at
word_read bytes first at m n e f p =
    let whole : take m (drop at bytes) ≡ drop at bytes = take_all m (drop at bytes) (omega (arith, length-drop at bytes)) in
    e ∙ ap (from_le_bytes w64) (f ∙ ap (take 8) whole)

low_back : (xs : List ℕ) (n : ℕ) → length xs ≡ 24 → AreSmall xs → n ≡ word_at xs 0 → to_le_bytes w64 n ≡ listed xs 0 8
unfolding word_at
low_back xs n l f e = le_bytes_8 (listed xs 0 8) n refl (listed_small xs f 0 8) (e ∙ ap (from_le_bytes w64) (sym (listed_take xs 0 8 (omega arith))))

middle_back : (xs : List ℕ) (n : ℕ) → length xs ≡ 24 → AreSmall xs → n ≡ word_at xs 8 → to_le_bytes w64 n ≡ listed xs 8 8
unfolding word_at
middle_back xs n l f e = le_bytes_8 (listed xs 8 8) n refl (listed_small xs f 8 8) (e ∙ ap (from_le_bytes w64) (sym (listed_take xs 8 8 (omega arith))))

high_back : (xs : List ℕ) (n : ℕ) → length xs ≡ 24 → AreSmall xs → n ≡ word_at xs 16 → to_le_bytes w64 n ≡ listed xs 16 8
unfolding word_at
high_back xs n l f e = le_bytes_8 (listed xs 16 8) n refl (listed_small xs f 16 8) (e ∙ ap (from_le_bytes w64) (sym (listed_take xs 16 8 (omega arith))))

joined : (a b c x y z : List ℕ) → a ≡ x → b ≡ y → c ≡ z → a ++ b ++ c ≡ x ++ y ++ z
joined a b c x y z p q r = λ i. p i ++ q i ++ r i

bytes_back : (xs : List ℕ) (l m h : ℕ) → length xs ≡ 24 → AreSmall xs → l ≡ word_at xs 0 → m ≡ word_at xs 8 → h ≡ word_at xs 16 → words_bytes l m h ≡ xs
unfolding words_bytes
bytes_back xs l m h n f p q r =
    let all : listed xs 0 24 ≡ xs = listed_take xs 0 24 (omega arith) ∙ take_all 24 xs (omega arith) in
    joined _ _ _ (listed xs 0 8) (listed xs 8 8) (listed xs 16 8) (low_back xs l n f p) (middle_back xs m n f q) (high_back xs h n f r) ∙ all

-- ---- the key of words

last_at : (xs : List ℕ) (n k : ℕ) → length xs ≡ k → get_or (xs ++ n ∷ []) k 0 ≡ n
last_at [] n zero p = refl
last_at [] n (suc k) p = absurd (omega arith)
last_at (x ∷ xs) n zero p = absurd (omega arith)
last_at (x ∷ xs) n (suc k) p = last_at xs n k (omega arith)

take_front : (xs ys : List ℕ) → take (length xs) (xs ++ ys) ≡ xs
take_front [] ys = refl
take_front (x ∷ xs) ys = ap (λ t. x ∷ t) (take_front xs ys)

last_padded : (key : List ℕ) → length key ≤ 23 → get_or (padded 23 key) 23 0 ≡ length key
last_padded key p = last_at (key ++ zeros_after key) (length key) 23 (length_zeros key p)

module _ (key all : List ℕ) (l m h : ℕ) (fits : length key ≤ 23) (small : AreSmall key) (all_is : all ≡ padded 23 key) (p : l ≡ word_at all 0) (q : m ≡ word_at all 8) (r : h ≡ word_at all 16) where
  of_padded : words_bytes l m h ≡ padded 23 key
  of_padded =
      bytes_back (padded 23 key) l m h (length_padded key fits) (small_padded key fits small) (p ∙ ap (λ t. word_at t 0) all_is) (q ∙ ap (λ t. word_at t 8) all_is)
      (r ∙ ap (λ t. word_at t 16) all_is)

  last_is : slice_index (words_bytes l m h) 23 ≡ length key
  last_is = ap (λ (t : List ℕ). get_or t 23 0) of_padded ∙ last_padded key fits

  pub packed_key : key_bytes l m h ≡ key
  packed_key = ap (λ n. take n (words_bytes l m h)) last_is ∙ (ap (take (length key)) (of_padded ∙ append_assoc key (zeros_after key) (length key ∷ [])) ∙ take_front key (zeros_after key ++ length key ∷ []))

  pub packed_words : AreWords l m h (key_bytes l m h)
  packed_words =
      let told : all ≡ padded 23 (key_bytes l m h) = all_is ∙ ap (padded 23) (sym packed_key) in
      record {
        low_word = p ∙ ap (λ t. word_at t 0) told;
        middle_word = q ∙ ap (λ t. word_at t 8) told;
        high_word = r ∙ ap (λ t. word_at t 16) told;
        most = omega (arith, last_is);
      }

-- ---- the bytes of a key

last_byte : (l m h : ℕ) → slice_index (words_bytes l m h) 23 ≡ get_or (to_le_bytes w64 h) 7 0
unfolding words_bytes
last_byte l m h = refl

length_words : (l m h : ℕ) → length (words_bytes l m h) ≡ 24
unfolding words_bytes
length_words l m h = refl

length_taken : (n : ℕ) (xs : List ℕ) → n ≤ length xs → length (take n xs) ≡ n
length_taken zero xs p = refl
length_taken (suc n) [] p = absurd (omega arith)
length_taken (suc n) (x ∷ xs) p = ap suc (length_taken n xs (omega arith))

length_key : (l m h : ℕ) → AreWords l m h (key_bytes l m h) → length (key_bytes l m h) ≡ slice_index (words_bytes l m h) 23
length_key l m h w =
    let most : slice_index (words_bytes l m h) 23 ≤ 23 = w.most in
    length_taken (slice_index (words_bytes l m h) 23) (words_bytes l m h) (omega (arith, length_words l m h))

pub length_told : (l m h : ℕ) (bytes key : List ℕ) → AreWords l m h (key_bytes l m h) → key_bytes l m h ≡ key → bytes ≡ to_le_bytes w64 h → get_or bytes 7 0 ≡ length key
length_told l m h bytes key w view e = ap (λ (t : List ℕ). get_or t 7 0) e ∙ (sym (last_byte l m h) ∙ (sym (length_key l m h w) ∙ ap length view))

pub most_told : (l m h : ℕ) (bytes : List ℕ) → AreWords l m h (key_bytes l m h) → bytes ≡ to_le_bytes w64 h → get_or bytes 7 0 ≤ 23
most_told l m h bytes w e =
    let same : get_or bytes 7 0 ≡ slice_index (words_bytes l m h) 23 = ap (λ (t : List ℕ). get_or t 7 0) e ∙ sym (last_byte l m h) in
    let most : slice_index (words_bytes l m h) 23 ≤ 23 = w.most in
    omega (arith, same, most)

of_arrays : (l m h : ℕ) (a b c : List ℕ) → a ≡ to_le_bytes w64 l → b ≡ to_le_bytes w64 m → c ≡ to_le_bytes w64 h → listed a 0 8 ++ listed b 0 8 ++ listed c 0 8 ≡ words_bytes l m h
unfolding words_bytes
of_arrays l m h a b c p q r = rw (p, q, r) refl

pub bytes_told : (l m h : ℕ) (a b c key : List ℕ) → AreWords l m h (key_bytes l m h) → key_bytes l m h ≡ key → a ≡ to_le_bytes w64 l → b ≡ to_le_bytes w64 m → c ≡ to_le_bytes w64 h →
    take (length key) (listed a 0 8 ++ listed b 0 8 ++ listed c 0 8) ≡ key
bytes_told l m h a b c key w view p q r =
    let all : listed a 0 8 ++ listed b 0 8 ++ listed c 0 8 ≡ words_bytes l m h = of_arrays l m h a b c p q r in
    let n : length key ≡ slice_index (words_bytes l m h) 23 = ap length (sym view) ∙ length_key l m h w in
    ap (take (length key)) all ∙ (ap (λ k. take k (words_bytes l m h)) n ∙ view)
