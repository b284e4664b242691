-- Members in order of their names.
use Rattle.std.proofs.Common.{◌≡◌, ℕ, suc, ◌+◌, ◌<◌, ◌≤◌, Bool, true, false, ◌&&◌, ◌==◌, List, [], ◌∷◌, length, get_or, refl, sym, subst, ◌∙◌, arith, eqb, leb, cond, Option, Some, None}
use Rattle.std.specs.Prelude.{IsSome, is_some, ◌↔◌}
use Rattle.std.specs.declared.cmp.Ordering.{Ordering}
use Rattle.std.specs.declared.cmp.Ordering.TheVariants.{Less, Equal, Greater}
use Rattle.std.specs.Ordering.{nat_cmp, is_lt, is_eq, ordering_reverse}
use Rattle.std.specs.Cmp.Lexicographic.{slice_cmp, pointwise, texts_ties}
use Rattle.std.specs.List.{IsDistinct, AllByRecursion}
use Rattle.std.specs.List.Sorted.{IsPermutation, IsStrictlySortedBy, IsSortedBy}
use Rattle.std.proofs.lemmas.Cmp.{nat_list_cmp_total, eq_by_cmp_equiv}
use Rattle.std.proofs.lemmas.Bool.{leb-true, le-leb}
use Rattle.std.proofs.lemmas.Bool.Decides.{nat_tests}
use Rattle.std.proofs.lemmas.List.Sorted.{IsPermutation-sym, IsPermutation-map, length_permutation}
use Rattle.std.proofs.lemmas.Map.Keys.{IsDistinct-from_sorted, IsDistinct-IsPermutation}
use Rattle.ks_row.specs.Rows.{Member, names_of, rises, is_row, IsRow, row_of, HasRow}

abbrev pub below : Member → Member → Bool
below a b = is_lt (slice_cmp nat_cmp a.0 b.0)

-- ---- strictly below, or the other way round, or the same name

above : (o p : Ordering) → p ≡ ordering_reverse o → is_lt o ≡ false → is_eq p ≡ false → is_lt p ≡ true
above Less p e f g = absurd cc
above Equal p e f g = absurd (cc)
above Greater p e f g = rw e refl

rise : (x y : List ℕ) → is_lt (slice_cmp nat_cmp y x) ≡ false → pointwise ◌==◌ x y ≡ false → is_lt (slice_cmp nat_cmp x y) ≡ true
rise x y f g = above (slice_cmp nat_cmp y x) (slice_cmp nat_cmp x y) (nat_list_cmp_total.antisymm x y) f (sym (texts_ties x y) ∙ g)

both : (a b : Bool) → a ≡ true → b ≡ true → a && b ≡ true
both true b e f = f
both false b e f = absurd cc

-- what is sorted and has no name twice rises
pub rises_sorted : (ms : List Member) → ((j k : ℕ) (d : Member) → j ≡ k + 1 → j < length ms → below (get_or ms j d) (get_or ms k d) ≡ false) → IsDistinct (pointwise ◌==◌) (names_of ms) → rises (names_of ms) ≡ true
unfolding IsDistinct
rises_sorted [] s d = refl
rises_sorted (m ∷ []) s d = refl
rises_sorted (m ∷ n ∷ ms) s d = both _ _ (rise m.0 n.0 (s 1 0 m (omega arith) (omega arith)) d.0.0) (rises_sorted (n ∷ ms) (λ j k x e lt. s (suc j) (suc k) x (omega arith) (omega arith)) d.1)

-- ---- what rises has no name twice

less_is : (o : Ordering) → is_lt o ≡ true → o ≡ Less
less_is Less e = refl
less_is Equal e = absurd cc
less_is Greater e = absurd cc

parts : (a b : Bool) → a && b ≡ true → (a ≡ true) × (b ≡ true)
parts true b e = (refl, e)
parts false b e = absurd cc

all_above : (x y : List ℕ) (zs : List (List ℕ)) → slice_cmp nat_cmp x y ≡ Less → AllByRecursion (λ z. slice_cmp nat_cmp y z ≡ Less) zs → AllByRecursion (λ z. slice_cmp nat_cmp x z ≡ Less) zs
all_above x y [] l h = tt
all_above x y (z ∷ zs) l h = (nat_list_cmp_total.trans x y z l h.0, all_above x y zs l h.1)

sorted_rising : (ns : List (List ℕ)) → rises ns ≡ true → IsStrictlySortedBy (slice_cmp nat_cmp) ns
unfolding IsStrictlySortedBy
sorted_rising [] e = tt
sorted_rising (x ∷ []) e = (tt, tt)
sorted_rising (x ∷ y ∷ ns) e =
    let p = parts (is_lt (slice_cmp nat_cmp x y)) (rises (y ∷ ns)) e in
    let l = less_is _ p.0 in
    let s = sorted_rising (y ∷ ns) p.1 in
    ((l, all_above x y ns l s.0), s)

distinct_rising : (ns : List (List ℕ)) → rises ns ≡ true → IsDistinct (pointwise ◌==◌) ns
distinct_rising ns e = subst (λ same. IsDistinct same ns) (λ i x y. sym (texts_ties x y) i) (IsDistinct-from_sorted (slice_cmp nat_cmp) ns (sorted_rising ns e))

same_flips : (x y : List ℕ) → pointwise ◌==◌ x y ≡ pointwise ◌==◌ y x
same_flips x y = texts_ties x y ∙ ((eq_by_cmp_equiv nat_list_cmp_total).symm x y ∙ sym (texts_ties y x))

-- ---- the members given, and the same in order

row_tests : (ms : List Member) → is_row ms ≡ true → (0 < length ms) × (length ms ≤ 64) × (rises (names_of ms) ≡ true)
row_tests [] e = absurd cc
row_tests (m ∷ ms) e =
    let some : eqb (length (m ∷ ms)) 0 ≡ false = grind (arith, nat_tests) in
    let g : cond (leb (length (m ∷ ms)) 64) (rises (names_of (m ∷ ms))) false ≡ true = rw some at e in
    let q = passed (leb (length (m ∷ ms)) 64) (rises (names_of (m ∷ ms))) g in
    (omega arith, leb-true _ _ q.0, q.1)
  where
    passed : (b r : Bool) → cond b r false ≡ true → (b ≡ true) × (r ≡ true)
    passed true r f = (refl, f)
    passed false r f = absurd cc

given_has_row : (given ms : List Member) → IsPermutation given ms → IsRow ms → HasRow given
given_has_row given ms p r =
    let q = row_tests ms r in
    let l = length_permutation given ms p in
    let back = IsPermutation-map (λ (m : Member). m.0) ms given (IsPermutation-sym given ms p) in
    record {
      some = omega (arith, l, q.0);
      most = omega (arith, l, q.1);
      once = IsDistinct-IsPermutation (pointwise ◌==◌) same_flips (names_of ms) (names_of given) back (distinct_rising (names_of ms) q.2);
    }

sorted_is_row : (given ms : List Member) → IsPermutation given ms → IsSortedBy below ms → HasRow given → IsRow ms
sorted_is_row given ms p s h =
    let l = length_permutation given ms p in
    let there = IsPermutation-map (λ (m : Member). m.0) given ms p in
    let d = IsDistinct-IsPermutation (pointwise ◌==◌) same_flips (names_of given) (names_of ms) there h.once in
    let some : eqb (length ms) 0 ≡ false = grind (arith, nat_tests, l, h.some) in
    let most : leb (length ms) 64 ≡ true = le-leb _ _ (omega (arith, l, h.most)) in
    rw (some, most) (rises_sorted ms (λ j k x e lt. rw e (s k x (omega arith) (omega arith))) d)

of_test : (b : Bool) (ms : List Member) → is_some (cond {A = Option (List Member)} b (Some ms) None) ≡ true → b ≡ true
of_test true ms e = refl
of_test false ms e = absurd cc

pub exact_row : (given ms : List Member) (o : Option (List Member)) → o ≡ row_of ms → IsPermutation given ms → IsSortedBy below ms → IsSome o ↔ HasRow given
exact_row given ms o e p s = (
  λ some. given_has_row given ms p (of_test (is_row ms) ms (rw e at some)),
  λ h. rw (e, sorted_is_row given ms p s h) refl,
)
