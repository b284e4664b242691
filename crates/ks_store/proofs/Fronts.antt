-- The keys that begin with given bytes stand one behind another: none is below them, and behind the first that goes beyond them is none.
use Rattle.std.proofs.Common.{◌≡◌, ℕ, ◌<◌, Bool, true, false, cond, ◌&&◌, T, List, [], ◌∷◌, ◌++◌, refl, sym, ap, subst, ◌∙◌, arith, ne_eqb, eqb-true, eq-eqb, append_assoc, append-nil}
use Rattle.std.specs.Prelude.{◌==◌}
use Rattle.std.specs.Global.{Vec}
use Rattle.std.specs.declared.cmp.Ordering.{Ordering}
use Rattle.std.specs.declared.cmp.Ordering.TheVariants.{Less, Equal, Greater}
use Rattle.std.specs.declared.ops.Bound.TheVariants.{Included, Unbounded}
use Rattle.std.specs.Ordering.{nat_cmp, is_le, ordering_then, MatchOrdering}
use Rattle.std.specs.Cmp.{ranks, tied_itself, nat_cmp_total, first_so, second_so}
use Rattle.std.specs.List.{starts_with}
use Rattle.std.specs.FinMap.Entries.{where_key, below_all, is_sorted-where_key}
use Rattle.std.specs.BTreeMap.Range.{entries_between}
use Rattle.std.proofs.lemmas.Bool.{true≢false}
use Rattle.ks_def_runs.specs.Bytes.{by_bytes}
use Rattle.ks_store.specs.Pairs.{pairs_of, Rises}
use Rattle.ks_store.proofs.Trees.{Entry, by_items, first, second, less_is, under}

abbrev Pairs : Type 0
Pairs = List (List ℕ × List ℕ)

-- ---- keys

pub begun_is_from : (front key : List ℕ) → starts_with ◌==◌ key front ≡ true → is_le (by_bytes front key) ≡ true
begun_is_from [] [] h = refl
begun_is_from [] (k ∷ ks) h = refl
begun_is_from (f ∷ fs) [] h = absurd (true≢false (sym h))
begun_is_from (f ∷ fs) (k ∷ ks) h =
    let same : nat_cmp f k ≡ Equal = subst (λ x. nat_cmp f x ≡ Equal) (eqb-true f k (first_so _ _ h)) (tied_itself nat_cmp_total f) in
    ap (λ o. is_le (ordering_then o (by_bytes fs ks))) same ∙ begun_is_from fs ks (second_so _ _ h)

and_false : (t b : Bool) → b ≡ false → (t && b) ≡ false
and_false true b e = e
and_false false b e = refl

rest_apart : (t a : Bool) → t ≡ true → (t && a) ≡ false → a ≡ false
rest_apart true a e h = h
rest_apart false a e h = absurd (true≢false (sym e))

-- one byte more of three keys: the front, one that doesn't begin so, and one behind that
step : (f j k : ℕ) (o p r s : Ordering) (a b : Bool) → MatchOrdering o (f < j) (f ≡ j) (j < f) → MatchOrdering p (j < k) (j ≡ k) (k < j) →
    is_le (ordering_then o r) ≡ true → ((f == j) && a) ≡ false → ordering_then p s ≡ Less → (is_le r ≡ true → a ≡ false → s ≡ Less → b ≡ false) → ((f == k) && b) ≡ false
step f j k Greater p r s a b h g le apart below more = absurd (true≢false (sym le))
step f j k Less Greater r s a b h g le apart below more = absurd cc
step f j k Equal Greater r s a b h g le apart below more = absurd cc
step f j k Less Less r s a b h g le apart below more = ap (λ t. t && b) (ne_eqb f k (λ e. omega (arith, h, g, e)))
step f j k Less Equal r s a b h g le apart below more = ap (λ t. t && b) (ne_eqb f k (λ e. omega (arith, h, g, e)))
step f j k Equal Less r s a b h g le apart below more = ap (λ t. t && b) (ne_eqb f k (λ e. omega (arith, h, g, e)))
step f j k Equal Equal r s a b h g le apart below more = and_false (f == k) b (more le (rest_apart (f == j) a (eq-eqb f j h) apart) below)

-- where a key that isn't below the front doesn't begin so, none behind it does
pub none_behind : (front j k : List ℕ) → is_le (by_bytes front j) ≡ true → starts_with ◌==◌ j front ≡ false → by_bytes j k ≡ Less → starts_with ◌==◌ k front ≡ false
none_behind [] j k le apart below = absurd (true≢false apart)
none_behind (f ∷ fs) [] k le apart below = absurd (true≢false (sym le))
none_behind (f ∷ fs) (j ∷ js) [] le apart below = refl
none_behind (f ∷ fs) (j ∷ js) (k ∷ ks) le apart below =
    step f j k (nat_cmp f j) (nat_cmp j k) (by_bytes fs js) (by_bytes js ks) (starts_with ◌==◌ js fs) (starts_with ◌==◌ ks fs) (ranks f j) (ranks j k) le apart below (none_behind fs js ks)

-- ---- lists of pairs

-- no key is below the front
abbrev pub AreFrom : List ℕ → Pairs → Type 0
AreFrom front [] = Unit {0}
AreFrom front (e ∷ es) = (is_le (by_bytes front e.0) ≡ true) × AreFrom front es

all_behind : (front j : List ℕ) (es : Pairs) → is_le (by_bytes front j) ≡ true → starts_with ◌==◌ j front ≡ false → T (below_all by_bytes j es) → under front es ≡ []
all_behind front j [] le apart h = refl
all_behind front j (x ∷ es) le apart h =
    ap (λ b. cond b (x ∷ under front es) (under front es)) (none_behind front j x.0 le apart (less_is _ (first _ _ h)))
    ∙ all_behind front j es le apart (second _ _ h)

-- where the first key doesn't begin so, none of them does
pub none_more : (front : List ℕ) (e : List ℕ × List ℕ) (es : Pairs) → Rises (e ∷ es) → AreFrom front (e ∷ es) → starts_with ◌==◌ e.0 front ≡ false → under front (e ∷ es) ≡ []
none_more front e es rises from apart =
    ap (λ b. cond b (e ∷ under front es) (under front es)) apart ∙ all_behind front e.0 es from.0 apart (first _ _ rises)

-- ---- the pairs from the front on, as the tree gives them

abbrev from_test : List ℕ → List ℕ → Bool
from_test front k = is_le (by_bytes front k) && true

abbrev since : List ℕ → Pairs → Pairs
since front es = where_key by_bytes (from_test front) es

pub since_is : (start : Vec ℕ) (es : List Entry) → pairs_of (entries_between by_items (Included start) Unbounded es) ≡ since start.items (pairs_of es)
since_is start [] = refl
since_is start (e ∷ es) = by (from_test start.items e.0.items) (since_is start es)
  where
    by : (b : Bool) → pairs_of (entries_between by_items (Included start) Unbounded es) ≡ since start.items (pairs_of es) →
        pairs_of (cond b (e ∷ entries_between by_items (Included start) Unbounded es) (entries_between by_items (Included start) Unbounded es)) ≡ cond b ((e.0.items, e.1.items) ∷ since start.items (pairs_of es)) (since start.items (pairs_of es))
    by true h = ap (λ (x : Pairs). (e.0.items, e.1.items) ∷ x) h
    by false h = h

are_from : (front : List ℕ) (es : Pairs) → AreFrom front (since front es)
are_from front [] = tt
are_from front (e ∷ es) = by (is_le (by_bytes front e.0)) refl (are_from front es)
  where
    by : (b : Bool) → is_le (by_bytes front e.0) ≡ b → AreFrom front (since front es) → AreFrom front (cond (b && true) (e ∷ since front es) (since front es))
    by true h more = (h, more)
    by false h more = more

-- a key below the front doesn't begin so
below_apart : (front key : List ℕ) (t : Bool) → starts_with ◌==◌ key front ≡ t → is_le (by_bytes front key) ≡ false → t ≡ false
below_apart front key true h g = absurd (true≢false (sym (begun_is_from front key h) ∙ g))
below_apart front key false h g = refl

under_since : (front : List ℕ) (es : Pairs) → under front (since front es) ≡ under front es
under_since front [] = refl
under_since front (e ∷ es) = by (is_le (by_bytes front e.0)) refl (under_since front es)
  where
    by : (b : Bool) → is_le (by_bytes front e.0) ≡ b → under front (since front es) ≡ under front es → under front (cond (b && true) (e ∷ since front es) (since front es)) ≡ under front (e ∷ es)
    by true h more = ap (λ (x : Pairs). cond (starts_with ◌==◌ e.0 front) (e ∷ x) x) more
    by false h more = more ∙ sym (ap (λ t. cond t (e ∷ under front es) (under front es)) (below_apart front e.0 _ refl h))

pub are_from_since : (front : List ℕ) (start : Vec ℕ) (es : List Entry) → start.items ≡ front → AreFrom front (pairs_of (entries_between by_items (Included start) Unbounded es))
are_from_since front start es is = subst (AreFrom front) (sym (since_is start es ∙ ap (λ f. since f (pairs_of es)) is)) (are_from front (pairs_of es))

pub rises_since : (start : Vec ℕ) (es : List Entry) → Rises (pairs_of es) → Rises (pairs_of (entries_between by_items (Included start) Unbounded es))
rises_since start es rises = subst Rises (sym (since_is start es)) (is_sorted-where_key by_bytes (from_test start.items) (pairs_of es) rises)

pub under_all : (front : List ℕ) (start : Vec ℕ) (es : List Entry) → start.items ≡ front → under front (pairs_of (entries_between by_items (Included start) Unbounded es)) ≡ under front (pairs_of es)
under_all front start es is = ap (under front) (since_is start es ∙ ap (λ f. since f (pairs_of es)) is) ∙ under_since front (pairs_of es)

-- ---- the walk

-- the pairs found and those of the rest are those of all; the rest rises, and none of it is below the front
abbrev pub Walked : List ℕ → List Entry → Pairs → List Entry → Type 0
Walked front all found rest = (found ++ under front (pairs_of rest) ≡ under front (pairs_of all)) × Rises (pairs_of rest) × AreFrom front (pairs_of rest)

pub walk_begins : (front : List ℕ) (start : Vec ℕ) (all rest : List Entry) (found : Pairs) → start.items ≡ front → Rises (pairs_of all) → rest ≡ entries_between by_items (Included start) Unbounded all → found ≡ [] → Walked front all found rest
walk_begins front start all rest found is up these none =
    let from : Walked front all [] (entries_between by_items (Included start) Unbounded all) = (under_all front start all is, rises_since start all up, are_from_since front start all is) in
    subst (λ (r : List Entry). Walked front all found r) (sym these) (subst (λ (f : Pairs). Walked front all f (entries_between by_items (Included start) Unbounded all)) (sym none) from)

pub walked_on : (front : List ℕ) (all rest next : List Entry) (found more : Pairs) (e : Entry) → Walked front all found rest → rest ≡ e ∷ next → starts_with ◌==◌ e.0.items front ≡ true → more ≡ found ++ (e.0.items, e.1.items) ∷ [] → Walked front all more next
walked_on front all rest next found more e walked is begins longer =
    let with_found : Walked front all found (e ∷ next) = subst (λ (r : List Entry). Walked front all found r) is walked in
    let x : List ℕ × List ℕ = (e.0.items, e.1.items) in
    let under_next = under front (pairs_of next) in (
      ap (λ (f : Pairs). f ++ under_next) longer ∙ (append_assoc found (x ∷ []) under_next
          ∙ (ap (λ (t : Bool). found ++ cond t (x ∷ under_next) under_next) (sym begins) ∙ with_found.0)),
      second _ _ with_found.1,
      with_found.2.1,
    )

pub walk_ends : (front : List ℕ) (all rest next : List Entry) (found : Pairs) (e : Entry) → Walked front all found rest → rest ≡ e ∷ next → starts_with ◌==◌ e.0.items front ≡ false → found ≡ under front (pairs_of all)
walk_ends front all rest next found e walked is apart =
    let with_found : Walked front all found (e ∷ next) = subst (λ (r : List Entry). Walked front all found r) is walked in
    sym (append-nil found) ∙ (ap (λ (y : Pairs). found ++ y) (sym (none_more front (e.0.items, e.1.items) (pairs_of next) with_found.1 with_found.2 apart)) ∙ with_found.0)

pub walked_all : (front : List ℕ) (all rest : List Entry) (found : Pairs) → Walked front all found rest → rest ≡ [] → found ≡ under front (pairs_of all)
walked_all front all rest found walked is =
    sym (append-nil found) ∙ (ap (λ (r : List Entry). found ++ under front (pairs_of r)) (sym is) ∙ walked.0)
