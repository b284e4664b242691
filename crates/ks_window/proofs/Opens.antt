-- The windows that hold a time are all multiples of the advance from the first one on.
use Rattle.std.proofs.Common.{◌≡◌, ℕ, zero, suc, ◌+◌, ◌-◌, ◌*◌, ◌/◌, ◌<◌, ◌≤◌, Bool, cond, nat_lt, List, [], ◌∷◌, ◌++◌, sym, ap, ◌∙◌, arith, append-nil, ⊎_elim}
use Rattle.std.specs.List.{filter}
use Rattle.std.proofs.lemmas.Bool.{cases_lt, lt-ltb, le-ltb}
use Rattle.std.proofs.lemmas.List.Elements.{filter-append}
use Rattle.std.proofs.Math.Nat.{div-lt_iff_lt-mul, div-mul-le_self}
use Rattle.std.proofs.lemmas.Nat.{le-div}
use Rattle.ks_query.specs.Windows.{multiples, windows}
use Rattle.ks_window.specs.Starts.{first_index}

-- so many multiples of a number, from the k-th on
abbrev pub multiples_from : ℕ → ℕ → ℕ → List ℕ
multiples_from a k zero = []
multiples_from a k (suc n) = multiples_from a k n ++ (k + n) * a ∷ []

-- a multiple's window holds the time from the first index on
opens : (t size a i : ℕ) → 1 ≤ a → a ≤ size → first_index t size a ≤ i → t < i * a + size
opens t size a i some most from =
    let few : first_index t size a < suc i = omega arith in
    let below : t - (size - a) < suc i * a = (div-lt_iff_lt-mul {k = a} {x = t - (size - a)} {y = suc i} some).0 few in
    let split : suc i * a ≡ i * a + a = omega arith in
    omega arith

closed : (t size a i : ℕ) → 1 ≤ a → a ≤ size → i < first_index t size a → i * a + size ≤ t
closed t size a i some most before = ⊎_elim (λ (held : t < i * a + size).
    let split : suc i * a ≡ i * a + a = omega arith in
    let below : t - (size - a) < suc i * a = omega arith in
    let few : first_index t size a < suc i = (div-lt_iff_lt-mul {k = a} {x = t - (size - a)} {y = suc i} some).1 below in
    absurd (omega arith)) (λ h. h) (cases_lt t (i * a + size))

abbrev holds : ℕ → ℕ → ℕ → Bool
holds t size s = nat_lt t (s + size)

-- one more multiple passes the test or not
one_more : (t size a k n : ℕ) → ((i : ℕ) → k ≤ i → t < i * a + size) → ((i : ℕ) → i < k → i * a + size ≤ t) →
    filter (holds t size) (multiples a n) ≡ multiples_from a k (n - k) → filter (holds t size) (multiples a (suc n)) ≡ multiples_from a k (suc n - k)
one_more t size a k n held ended h =
    filter-append (holds t size) (multiples a n) (n * a ∷ [])
    ∙ ⊎_elim
    (λ (before : n < k).
    let none : suc n - k ≡ n - k = omega arith in
    ap (λ b. filter (holds t size) (multiples a n) ++ cond b (n * a ∷ []) []) (le-ltb t (n * a + size) (ended n before))
    ∙ append-nil (filter (holds t size) (multiples a n)) ∙ h ∙ ap (multiples_from a k) (sym none))
    (λ (after : k ≤ n).
    let more : suc n - k ≡ suc (n - k) = omega arith in
    let here : n ≡ k + (n - k) = omega arith in
    ap (λ b. filter (holds t size) (multiples a n) ++ cond b (n * a ∷ []) []) (lt-ltb t (n * a + size) (held n after))
    ∙ ap (λ l. l ++ n * a ∷ []) h ∙ ap (λ m. multiples_from a k (n - k) ++ m * a ∷ []) here ∙ ap (multiples_from a k) (sym more))
    (cases_lt n k)

from_first : (t size a k : ℕ) → ((i : ℕ) → k ≤ i → t < i * a + size) → ((i : ℕ) → i < k → i * a + size ≤ t) → (n : ℕ) →
    filter (holds t size) (multiples a n) ≡ multiples_from a k (n - k)
from_first t size a k held ended zero = let none : 0 ≡ 0 - k = omega arith in ap (multiples_from a k) none
from_first t size a k held ended (suc n) = one_more t size a k n held ended (from_first t size a k held ended n)

pub windows_are : (size a grace t : ℕ) → 1 ≤ a → a ≤ size →
    windows (record { size = size; advance = a; grace = grace }) t ≡ multiples_from a (first_index t size a) (t / a + 1 - first_index t size a)
windows_are size a grace t some most = from_first t size a (first_index t size a) (λ i h. opens t size a i some most h) (λ i h. closed t size a i some most h) (t / a + 1)

-- one more start behind those that were found
pub pushed : (a first index : ℕ) (xs : List ℕ) → first ≤ index → xs ≡ multiples_from a first (index - first) → xs ++ index * a ∷ [] ≡ multiples_from a first (index + 1 - first)
pushed a first index xs from is =
    let here : index ≡ first + (index - first) = omega arith in
    let more : index + 1 - first ≡ suc (index - first) = omega arith in
    ap (λ l. l ++ index * a ∷ []) is ∙ ap (λ m. multiples_from a first (index - first) ++ m * a ∷ []) here ∙ ap (multiples_from a first) (sym more)

-- the first window starts no later than the time
pub first_within : (t size a : ℕ) → 1 ≤ a → first_index t size a ≤ t / a
first_within t size a some =
    let short : (t - (size - a)) / a * a ≤ t - (size - a) = div-mul-le_self (t - (size - a)) a in
    let below : (t - (size - a)) / a * a ≤ t = omega arith in
    le-div ((t - (size - a)) / a) t a some below

pub whole : (t size a index : ℕ) (xs : List ℕ) → 1 ≤ a → a ≤ size → first_index t size a ≤ index → index ≡ t / a → xs ≡ multiples_from a (first_index t size a) (index - first_index t size a) →
    xs ++ t / a * a ∷ [] ≡ windows (record { size = size; advance = a; grace = 0 }) t
whole t size a index xs some most from is found =
    ap (λ n. xs ++ n * a ∷ []) (sym is) ∙ pushed a (first_index t size a) index xs from found
    ∙ ap (λ n. multiples_from a (first_index t size a) (n + 1 - first_index t size a)) is ∙ sym (windows_are size a 0 t some most)
