-- A finite map as a value: a list of pairs whose keys rise. As the standard library's `FinMap`, but one that computes where
-- `unfolding` names its words, so that worked examples are theorems by computation.
use Rattle.std.specs.Prelude.{◌≡◌, ℕ, ◌+◌, ◌-◌, Bool, true, false, cond, not, T, List, [], ◌∷◌, ◌++◌, map, length, is_some, Option, None, Some}
use Rattle.std.proofs.Common.{refl, sym, ap, subst, ◌∙◌, arith}
use Rattle.std.specs.declared.cmp.Ordering.{Ordering}
use Rattle.std.specs.declared.cmp.Ordering.TheVariants.{Less, Equal, Greater}
use Rattle.std.specs.Ordering.{eq_by_cmp, is_eq}
use Rattle.std.specs.Cmp.{IsTotalOrder, alike_right, eq_by_cmp_equiv}
use Rattle.std.specs.FinMap.{IsAntisymmetric}
use Rattle.std.specs.FinMap.Entries.{find, put, is_sorted, where_key, is_sorted-put, is_sorted-where_key, find-put, find-where_key, find_tied, is_some-find, length-put, length_without, same_entries}

pub record FinMap {K : Type 0} (R : K → K → Ordering) (X : Type 0) : Type 0 where
  pub list : List (K × X)
  pub sorted : T (is_sorted R list)

T_prop : (b : Bool) (p q : T b) → p ≡ q
T_prop true p q = refl
T_prop false p q = absurd p

module _ {K X : Type 0} {R : K → K → Ordering} where
  -- in the keys' order
  unfoldable pub entries : FinMap R X → List (K × X)
  entries m = m.list

  pub entries_sorted : (m : FinMap R X) → T (is_sorted R (entries m))
  unfolding entries
  entries_sorted m = m.sorted

  pub same_entries_map : (m n : FinMap R X) → entries m ≡ entries n → m ≡ n
  unfolding entries
  same_entries_map m n e = subst (λ es. (s : T (is_sorted R es)) → m ≡ record { list = es; sorted = s }) e (λ s. ap (λ (t : T (is_sorted R m.list)). record { list = m.list; sorted = t }) (T_prop _ m.sorted s)) n.sorted

  unfoldable pub empty : FinMap R X
  empty = record { list = []; sorted = tt }

  -- an order that is not total may leave a list out of order, and then the map is the one given
  unfoldable pub checked : (es : List (K × X)) (b : Bool) → is_sorted R es ≡ b → FinMap R X → FinMap R X
  checked es true e m = record { list = es; sorted = subst T (sym e) tt }
  checked es false e m = m

  entries-checked : (es : List (K × X)) (b : Bool) (e : is_sorted R es ≡ b) (m : FinMap R X) → T b → entries (checked es b e m) ≡ es
  unfolding entries checked
  entries-checked es true e m h = refl
  entries-checked es false e m h = absurd h

  unfoldable pub get : FinMap R X → K → Option X
  get m q = find R q (entries m)

  abbrev pub contains_key : FinMap R X → K → Bool
  contains_key m q = is_some (get m q)

  unfoldable pub insert : FinMap R X → K → X → FinMap R X
  insert m k v = checked (put R k v (entries m)) _ refl m

  unfoldable pub retain_keys : FinMap R X → (K → Bool) → FinMap R X
  retain_keys m p = checked (where_key R p (entries m)) _ refl m

  unfoldable pub remove : FinMap R X → K → FinMap R X
  remove m k = retain_keys m (λ x. not (eq_by_cmp R k x))

  unfoldable pub len : FinMap R X → ℕ
  len m = length (entries m)

  abbrev pub keys : FinMap R X → List K
  keys m = map (λ e. e.0) (entries m)

  abbrev pub values : FinMap R X → List X
  values m = map (λ e. e.1) (entries m)

  unfoldable pub from_sorted : List (K × X) → FinMap R X
  from_sorted es = checked es _ refl empty

  abbrev pub from_entries : List (K × X) → FinMap R X
  from_entries [] = empty
  from_entries (e ∷ es) = insert (from_entries es) e.0 e.1

  pub get-entries : (m : FinMap R X) (q : K) → get m q ≡ find R q (entries m)
  unfolding get
  get-entries m q = refl

  pub len-entries : (m : FinMap R X) → len m ≡ length (entries m)
  unfolding len
  len-entries m = refl

  pub entries-retain_keys : (m : FinMap R X) (p : K → Bool) → entries (retain_keys m p) ≡ where_key R p (entries m)
  unfolding retain_keys
  entries-retain_keys m p = entries-checked _ _ refl m (is_sorted-where_key R p (entries m) (entries_sorted m))

  pub get-retain_keys : (m : FinMap R X) (p : K → Bool) (q : K) → ((x : K) → R q x ≡ Equal → p x ≡ p q) → get (retain_keys m p) q ≡ cond (p q) (get m q) None
  unfolding get
  get-retain_keys m p q alike = ap (find R q) (entries-retain_keys m p) ∙ find-where_key R p q alike (entries m)

module _ {K X : Type 0} (R : K → K → Ordering) where
  pub entries-from_sorted : (es : List (K × X)) → T (is_sorted R es) → entries (from_sorted {R = R} es) ≡ es
  unfolding from_sorted
  entries-from_sorted es h = entries-checked es _ refl empty h

  pub get-empty : (q : K) → get (empty {X = X} {R = R}) q ≡ None
  unfolding entries empty get
  get-empty q = refl

  pub get-from_sorted : (es : List (K × X)) (q : K) → T (is_sorted R es) → get (from_sorted {R = R} es) q ≡ find R q es
  unfolding get
  get-from_sorted es q h = ap (find R q) (entries-from_sorted es h)

pub len-empty : {K : Type 0} (R : K → K → Ordering) (X : Type 0) → len (empty {X = X} {R = R}) ≡ 0
unfolding entries empty len
len-empty R X = refl

one_less : (b : Bool) (a n : ℕ) → cond b 1 0 + a ≡ n → a ≡ cond b (n - 1) n
one_less true a n e = omega arith
one_less false a n e = omega arith

turned : {A : Type 0} (b : Bool) (x y : A) → cond (not b) x y ≡ cond b y x
turned true x y = refl
turned false x y = refl

module _ {K X : Type 0} {R : K → K → Ordering} (o : IsTotalOrder R) where
  pub entries-insert : (m : FinMap R X) (k : K) (v : X) → entries (insert m k v) ≡ put R k v (entries m)
  unfolding insert
  entries-insert m k v = entries-checked _ _ refl m (is_sorted-put R o k v (entries m) (entries_sorted m))

  pub get_tied : (m : FinMap R X) (q x : K) → R q x ≡ Equal → get m x ≡ get m q
  unfolding get
  get_tied m q x t = find_tied R o q x t (entries m)

  pub get-insert : (m : FinMap R X) (k : K) (v : X) (q : K) → get (insert m k v) q ≡ cond (eq_by_cmp R q k) (Some v) (get m q)
  unfolding get
  get-insert m k v q = ap (find R q) (entries-insert m k v) ∙ find-put R o q k v (entries m)

  pub get-remove : (m : FinMap R X) (k q : K) → get (remove m k) q ≡ cond (eq_by_cmp R q k) None (get m q)
  unfolding remove
  get-remove m k q = get-retain_keys m (λ x. not (eq_by_cmp R k x)) q (λ x t. ap (λ r. not (is_eq r)) (sym (alike_right o q x k t)))
      ∙ turned (eq_by_cmp R k q) _ _ ∙ ap (λ b. cond b None (get m q)) ((eq_by_cmp_equiv o).symm k q)

  pub len-insert : (m : FinMap R X) (k : K) (v : X) → len (insert m k v) ≡ cond (contains_key m k) (len m) (len m + 1)
  unfolding len get
  len-insert m k v = ap length (entries-insert m k v) ∙ length-put R o k v (entries m) (entries_sorted m)

  len_before_remove : (m : FinMap R X) (k : K) → cond (contains_key m k) 1 0 + len (remove m k) ≡ len m
  unfolding len get remove
  len_before_remove m k = ap (λ es. cond (contains_key m k) 1 0 + length es) (entries-retain_keys m (λ x. not (eq_by_cmp R k x))) ∙ length_without R o k (entries m) (entries_sorted m)

  pub len-remove : (m : FinMap R X) (k : K) → len (remove m k) ≡ cond (contains_key m k) (len m - 1) (len m)
  len-remove m k = one_less (contains_key m k) _ _ (len_before_remove m k)

  pub same_map : IsAntisymmetric R → (m n : FinMap R X) → ((q : K) → get m q ≡ get n q) → m ≡ n
  unfolding get
  same_map same m n is = same_entries_map m n (same_entries R o same (entries m) (entries n) (entries_sorted m) (entries_sorted n) is)
