-- Where a text stands first in a key, and that what stands before it is a key.
use Rattle.std.proofs.Common.{◌≡◌, ℕ, zero, suc, ◌+◌, ◌<◌, ◌≤◌, ◌==◌, Bool, true, false, cond, List, length, [], ◌∷◌, ◌++◌, take, drop, get_or, Option, Some, None, refl, sym, ap, subst, ◌∙◌, arith}
use Rattle.std.specs.Prelude.{option_map, option_and_then, IfSome}
use Rattle.std.specs.List.{starts_with}
use Rattle.std.specs.Str.{IsUtf8, IsCharBoundary}
use Rattle.std.proofs.lemmas.Bool.Decides.{Decides-eqb}
use Rattle.std.proofs.lemmas.List.{length-take, get_or-drop}
use Rattle.std.proofs.lemmas.Slice.Eq.{starts_is}
use Rattle.std.proofs.lemmas.Str.{IsUtf8-take, IsCharBoundary-start}
use Rattle.ks_record.specs.Texts.{IsKey, IsName, key_from}
use Rattle.ks_row.proofs.Spelled.{key_again}
use Rattle.ks_expr.specs.Keys.{place_in, front_to, front_of}

-- ---- a search byte by byte
pub first_here : (s : List ℕ) (b : ℕ) (bs : List ℕ) (n : ℕ) (w : Option ℕ) → starts_with ◌==◌ (b ∷ bs) s ≡ true → option_map (λ m. n + m) (place_in s (b ∷ bs)) ≡ w → Some n ≡ w
first_here s b bs n w e h = ap (λ (m : ℕ). Some m) (omega arith) ∙ ap (λ t. option_map (λ m. n + m) (cond t (Some 0) (option_map (λ m. suc m) (place_in s bs)))) (sym e) ∙ h

pub first_later : (s : List ℕ) (b : ℕ) (bs : List ℕ) (n : ℕ) (w : Option ℕ) → starts_with ◌==◌ (b ∷ bs) s ≡ false → option_map (λ m. n + m) (place_in s (b ∷ bs)) ≡ w → option_map (λ m. n + 1 + m) (place_in s bs) ≡ w
first_later s b bs n w e h = by (place_in s bs) ∙ ap (λ t. option_map (λ m. n + m) (cond t (Some 0) (option_map (λ m. suc m) (place_in s bs)))) (sym e) ∙ h
  where
    by : (o : Option ℕ) → option_map (λ m. n + 1 + m) o ≡ option_map (λ m. n + m) (option_map (λ m. suc m) o)
    by None = refl
    by (Some m) = ap (λ (i : ℕ). Some i) (omega arith)

-- ---- what is found
-- the text stands there, within the bytes
record Stands (s bs : List ℕ) (n : ℕ) : Type 0 where
  within : n < length bs
  rest : List ℕ
  is : drop n bs ≡ s ++ rest

stands : (s bs : List ℕ) → IfSome (place_in s bs) (Stands s bs)
stands s [] = tt
stands s (b ∷ bs) = by (starts_with ◌==◌ (b ∷ bs) s) (starts_is Decides-eqb (b ∷ bs) s (starts_with ◌==◌ (b ∷ bs) s) refl).0 (place_in s bs) (stands s bs)
  where
    later : (o : Option ℕ) → IfSome o (Stands s bs) → IfSome (option_map (λ n. suc n) o) (Stands s (b ∷ bs))
    later None h = tt
    later (Some n) h = record { within = omega (arith, h.within); rest = h.rest; is = h.is }

    by : (t : Bool) → (t ≡ true → b ∷ bs ≡ s ++ drop (length s) (b ∷ bs)) → (o : Option ℕ) → IfSome o (Stands s bs) → IfSome (cond t (Some 0) (option_map (λ n. suc n) o)) (Stands s (b ∷ bs))
    by true e o h = record { within = omega arith; rest = drop (length s) (b ∷ bs); is = e refl }
    by false e o h = later o h

first_of : (s rest : List ℕ) → 0 < length s → get_or (s ++ rest) 0 0 ≡ get_or s 0 0
first_of [] rest some = absurd (omega (arith, some))
first_of (b ∷ bs) rest some = refl

first_dropped : (bs : List ℕ) (n : ℕ) → get_or (drop n bs) 0 0 ≡ get_or bs n 0
first_dropped bs n = let e : n + 0 ≡ n = omega arith in get_or-drop n bs 0 0 ∙ ap (λ i. get_or bs i 0) e

-- a text of UTF-8 begins at a boundary
boundary : (s k : List ℕ) (n : ℕ) → IsName s → Stands s k n → IsCharBoundary k n
boundary s k n name h =
    let same : get_or k n 0 ≡ get_or s 0 0 = sym (first_dropped k n) ∙ ap (λ l. get_or l 0 0) h.is ∙ first_of s h.rest name.some in
    let start = IsCharBoundary-start s name.utf8 in
    (omega (arith, h.within), λ lt high. subst (λ (v : ℕ). 192 ≤ v) (sym same) (start.1 name.some (subst (λ (v : ℕ). 128 ≤ v) same high)))

front_key_to : (s k : List ℕ) → IsName s → IsKey k → (n : ℕ) → Stands s k n → IfSome (front_to k n) IsKey
front_key_to s k name key zero h = tt
front_key_to s k name key (suc n) h = record {
  some = omega (arith, h.within, length-take (suc n) k);
  most = omega (arith, key.most, length-take (suc n) k);
  utf8 = IsUtf8-take k (suc n) key.utf8 (boundary s k (suc n) name h);
}

pub front_is_key : (s k : List ℕ) → IsName s → IsKey k → IfSome (front_of s k) IsKey
front_is_key s k name key = by (place_in s k) (stands s k)
  where
    by : (o : Option ℕ) → IfSome o (Stands s k) → IfSome (option_and_then (front_to k) o) IsKey
    by None h = tt
    by (Some n) h = front_key_to s k name key n h

-- bytes that are a front are read as the key that they are
pub front_read : (s k x : List ℕ) → IsName s → IsKey k → Some x ≡ front_of s k → key_from x ≡ Some x
front_read s k x name key e = key_again x (of_some (front_of s k) e (front_is_key s k name key))
  where
    of_some : (o : Option (List ℕ)) → Some x ≡ o → IfSome o IsKey → IsKey x
    of_some o e h = subst (λ v. IfSome v IsKey) (sym e) h
