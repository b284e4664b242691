-- Two lists of entries in the order of their keys, put together.
use Rattle.std.proofs.Common.{◌≡◌, ℕ, Bool, true, false, cond, T, ◌&&◌, List, [], ◌∷◌, ◌++◌, Option, Some, None, refl, sym, ap, subst, ◌∙◌}
use Rattle.std.specs.declared.cmp.Ordering.{Ordering}
use Rattle.std.specs.declared.cmp.Ordering.TheVariants.{Less, Equal, Greater}
use Rattle.std.specs.Ordering.{match_ordering, eq_by_cmp, ordering_reverse, is_lt, is_eq}
use Rattle.std.specs.Cmp.{IsTotalOrder, alike_right}
use Rattle.std.specs.Option.{option_or}
use Rattle.std.specs.Set.{merge_step, sorted_merge}
use Rattle.std.specs.FinMap.{IsAntisymmetric}
use Rattle.std.specs.FinMap.Entries.{find, put, below_all, is_sorted, is_sorted-put, find-put, same_entries}
use Rattle.ks_def_runs.proofs.Tables.{head_of, tail_of, find_below}

pub both_true : (a b : Bool) → T a → T b → T (a && b)
both_true true b p q = q
both_true false b p q = p

less : (r : Ordering) → T (is_lt r) → r ≡ Less
less Less p = refl
less Equal p = absurd p
less Greater p = absurd p

equal : (r : Ordering) → T (is_eq r) → r ≡ Equal
equal Less p = absurd p
equal Equal p = refl
equal Greater p = absurd p

is_less : (r : Ordering) → r ≡ Less → T (is_lt r)
is_less r p = subst (λ r. T (is_lt r)) (sym p) tt

-- ---- a value at a key, or else another
or_none : {X : Type 0} (a : Option X) → a ≡ option_or a None
or_none None = refl
or_none (Some x) = refl

or_or : {X : Type 0} (a b c : Option X) → option_or a (option_or b c) ≡ option_or (option_or a b) c
or_or None b c = refl
or_or (Some x) b c = refl

or_first : {X : Type 0} (b : Bool) (v : X) (a c : Option X) → cond b (Some v) (option_or a c) ≡ option_or (cond b (Some v) a) c
or_first true v a c = refl
or_first false v a c = refl

or_both : {X : Type 0} (b : Bool) (v w : X) (a c : Option X) → cond b (Some v) (option_or a c) ≡ option_or (cond b (Some v) a) (cond b (Some w) c)
or_both true v w a c = refl
or_both false v w a c = refl

or_second : {X : Type 0} (b : Bool) (w : X) (a c : Option X) → (T b → a ≡ None) → cond b (Some w) (option_or a c) ≡ option_or a (cond b (Some w) c)
or_second true w a c none = ap (λ o. option_or o (Some w)) (sym (none tt))
or_second false w a c none = refl

or_moved : {X : Type 0} (b : Bool) (w : X) (a c : Option X) → (T b → a ≡ None) → option_or a (cond b (Some w) c) ≡ option_or (cond b (Some w) a) c
or_moved true w a c none = ap (λ o. option_or o (Some w)) (none tt)
or_moved false w a c none = refl

turned : {K : Type 0} {R : K → K → Ordering} → IsTotalOrder R → (x y : K) → R x y ≡ Greater → R y x ≡ Less
turned o x y p = o.antisymm y x ∙ ap ordering_reverse p

module _ {K X : Type 0} {R : K → K → Ordering} (o : IsTotalOrder R) where
  below_less : (x y : K) (es : List (K × X)) → R x y ≡ Less → T (below_all R y es) → T (below_all R x es)
  below_less x y [] p h = tt
  below_less x y (e ∷ es) p h = both_true _ _ (is_less _ (o.trans x y e.0 p (less _ (head_of _ _ h)))) (below_less x y es p (tail_of _ _ h))

  below_tied : (x y : K) (es : List (K × X)) → R x y ≡ Equal → T (below_all R y es) → T (below_all R x es)
  below_tied x y [] p h = tt
  below_tied x y (e ∷ es) p h = both_true _ _ (subst (λ r. T (is_lt r)) (sym (o.congr x y e.0 p)) (head_of _ _ h)) (below_tied x y es p (tail_of _ _ h))

  -- a key that ties with one below all is not found
  none_at : (q y : K) (es : List (K × X)) → T (below_all R y es) → T (eq_by_cmp R q y) → find R q es ≡ None
  none_at q y es h t = find_below o (λ _. 0) q es (below_tied q y es (equal _ t) h)

module _ {K X : Type 0} (R : K → K → Ordering) where
  -- two lists as one; where both have a key, the entry of the first
  abbrev pub merge : List (K × X) → List (K × X) → List (K × X)
  merge = sorted_merge (λ (x y : K × X). R x.0 y.0) true

  abbrev step : K × X → List (K × X) → (List (K × X) → List (K × X)) → List (K × X) → List (K × X)
  step = merge_step (λ (x y : K × X). R x.0 y.0) true

  module _ (o : IsTotalOrder R) where
    find-step : (q : K) (x : K × X) (xs : List (K × X)) (on : List (K × X) → List (K × X)) →
        ((ys : List (K × X)) → T (is_sorted R ys) → find R q (on ys) ≡ option_or (find R q xs) (find R q ys)) → T (below_all R x.0 xs) →
        (ys : List (K × X)) → T (is_sorted R ys) → find R q (step x xs on ys) ≡ option_or (find R q (x ∷ xs)) (find R q ys)
    find-step q x xs on h b [] s = or_none (find R q (x ∷ xs))
    find-step q x xs on h b (y ∷ ys) s =
        elim (R x.0 y.0) as (λ r. R x.0 y.0 ≡ r → find R q (match_ordering r (x ∷ on (y ∷ ys)) (x ∷ on ys) (y ∷ step x xs on ys)) ≡ option_or (find R q (x ∷ xs)) (find R q (y ∷ ys))) [
          | Less ↦ λ p. ap (cond (eq_by_cmp R q x.0) (Some x.1)) (h (y ∷ ys) s) ∙ or_first (eq_by_cmp R q x.0) x.1 (find R q xs) (find R q (y ∷ ys))
          | Equal ↦ λ p. ap (cond (eq_by_cmp R q x.0) (Some x.1)) (h ys (tail_of _ _ s)) ∙ or_both (eq_by_cmp R q x.0) x.1 y.1 (find R q xs) (find R q ys)
              ∙ ap (λ r. option_or (find R q (x ∷ xs)) (cond (is_eq r) (Some y.1) (find R q ys))) (alike_right o x.0 y.0 q p)
          | Greater ↦ λ p. ap (cond (eq_by_cmp R q y.0) (Some y.1)) (find-step q x xs on h b ys (tail_of _ _ s))
              ∙ or_second (eq_by_cmp R q y.0) y.1 (find R q (x ∷ xs)) (find R q ys)
              (none_at o q y.0 (x ∷ xs) (both_true _ _ (is_less _ (turned o x.0 y.0 p)) (below_less o y.0 x.0 xs (turned o x.0 y.0 p) b)))
        ] refl

    pub find-merge : (q : K) (xs ys : List (K × X)) → T (is_sorted R xs) → T (is_sorted R ys) → find R q (merge xs ys) ≡ option_or (find R q xs) (find R q ys)
    find-merge q [] ys g h = refl
    find-merge q (x ∷ xs) ys g h = find-step q x xs (merge xs) (λ zs s. find-merge q xs zs (tail_of _ _ g) s) (head_of _ _ g) ys h

    below-step : (k : K) (x : K × X) (xs : List (K × X)) (on : List (K × X) → List (K × X)) → ((ys : List (K × X)) → T (below_all R k ys) → T (below_all R k (on ys))) →
        T (is_lt (R k x.0)) → T (below_all R k xs) → (ys : List (K × X)) → T (below_all R k ys) → T (below_all R k (step x xs on ys))
    below-step k x xs on h l b [] s = both_true _ _ l b
    below-step k x xs on h l b (y ∷ ys) s =
        elim (R x.0 y.0) as (λ r. T (below_all R k (match_ordering r (x ∷ on (y ∷ ys)) (x ∷ on ys) (y ∷ step x xs on ys)))) [
          | Less ↦ both_true _ _ l (h (y ∷ ys) s)
          | Equal ↦ both_true _ _ l (h ys (tail_of _ _ s))
          | Greater ↦ both_true _ _ (head_of _ _ s) (below-step k x xs on h l b ys (tail_of _ _ s))
        ]

    below-merge : (k : K) (xs ys : List (K × X)) → T (below_all R k xs) → T (below_all R k ys) → T (below_all R k (merge xs ys))
    below-merge k [] ys g h = h
    below-merge k (x ∷ xs) ys g h = below-step k x xs (merge xs) (λ zs s. below-merge k xs zs (tail_of _ _ g) s) (head_of _ _ g) (tail_of _ _ g) ys h

    sorted-step : (x : K × X) (xs : List (K × X)) (on : List (K × X) → List (K × X)) →
        ((k : K) (ys : List (K × X)) → T (below_all R k xs) → T (below_all R k ys) → T (below_all R k (on ys))) →
        ((ys : List (K × X)) → T (is_sorted R ys) → T (is_sorted R (on ys))) → T (below_all R x.0 xs) → T (is_sorted R xs) →
        (ys : List (K × X)) → T (is_sorted R ys) → T (is_sorted R (step x xs on ys))
    sorted-step x xs on low rise b g [] s = both_true _ _ b g
    sorted-step x xs on low rise b g (y ∷ ys) s =
        elim (R x.0 y.0) as (λ r. R x.0 y.0 ≡ r → T (is_sorted R (match_ordering r (x ∷ on (y ∷ ys)) (x ∷ on ys) (y ∷ step x xs on ys)))) [
          | Less ↦ λ p. both_true _ _ (low x.0 (y ∷ ys) b (both_true _ _ (is_less _ p) (below_less o x.0 y.0 ys p (head_of _ _ s)))) (rise (y ∷ ys) s)
          | Equal ↦ λ p. both_true _ _ (low x.0 ys b (below_tied o x.0 y.0 ys p (head_of _ _ s))) (rise ys (tail_of _ _ s))
          | Greater ↦ λ p.
              let t : R y.0 x.0 ≡ Less = turned o x.0 y.0 p in
              let c : T (below_all R y.0 xs) = below_less o y.0 x.0 xs t b in
              both_true _ _ (below-step y.0 x xs on (λ zs u. low y.0 zs c u) (is_less _ t) c ys (head_of _ _ s)) (sorted-step x xs on low rise b g ys (tail_of _ _ s))
        ] refl

    pub is_sorted-merge : (xs ys : List (K × X)) → T (is_sorted R xs) → T (is_sorted R ys) → T (is_sorted R (merge xs ys))
    is_sorted-merge [] ys g h = h
    is_sorted-merge (x ∷ xs) ys g h =
        sorted-step x xs (merge xs) (λ k zs a c. below-merge k xs zs a c) (λ zs s. is_sorted-merge xs zs (tail_of _ _ g) s) (head_of _ _ g) (tail_of _ _ g) ys h

-- ---- entries that are put in one after another
module _ {K X : Type 0} (R : K → K → Ordering) where
  abbrev pub put_each : List (K × X) → List (K × X) → List (K × X)
  put_each rows [] = rows
  put_each rows (e ∷ es) = put_each (put R e.0 e.1 rows) es

  module _ (o : IsTotalOrder R) where
    is_sorted-put_each : (rows es : List (K × X)) → T (is_sorted R rows) → T (is_sorted R (put_each rows es))
    is_sorted-put_each rows [] h = h
    is_sorted-put_each rows (e ∷ es) h = is_sorted-put_each (put R e.0 e.1 rows) es (is_sorted-put R o e.0 e.1 rows h)

    find-put_each : (q : K) (rows es : List (K × X)) → T (is_sorted R es) → find R q (put_each rows es) ≡ option_or (find R q es) (find R q rows)
    find-put_each q rows [] h = refl
    find-put_each q rows (e ∷ es) h =
        find-put_each q (put R e.0 e.1 rows) es (tail_of _ _ h) ∙ ap (option_or (find R q es)) (find-put R o q e.0 e.1 rows)
        ∙ or_moved (eq_by_cmp R q e.0) e.1 (find R q es) (find R q rows) (none_at o q e.0 es (head_of _ _ h))

    -- a list that rises is what it leaves when it is put into an empty one
    pub put_each-empty : IsAntisymmetric R → (es : List (K × X)) → T (is_sorted R es) → put_each [] es ≡ es
    put_each-empty same es h = same_entries R o same (put_each [] es) es (is_sorted-put_each [] es tt) h (λ q. find-put_each q [] es h ∙ sym (or_none (find R q es)))

-- ---- lists of entries that are put in one after another
module _ {K X : Type 0} (R : K → K → Ordering) (at : ℕ → List (K × X)) where
  abbrev pub put_lists : List (K × X) → List ℕ → List (K × X)
  put_lists rows [] = rows
  put_lists rows (n ∷ ns) = put_lists (put_each R rows (at n)) ns

  -- the value at a key in the last of the lists that has one
  abbrev found : K → List ℕ → Option X
  found q [] = None
  found q (n ∷ ns) = option_or (found q ns) (find R q (at n))

  module _ (o : IsTotalOrder R) (rises : (n : ℕ) → T (is_sorted R (at n))) where
    is_sorted-put_lists : (rows : List (K × X)) (ns : List ℕ) → T (is_sorted R rows) → T (is_sorted R (put_lists rows ns))
    is_sorted-put_lists rows [] h = h
    is_sorted-put_lists rows (n ∷ ns) h = is_sorted-put_lists (put_each R rows (at n)) ns (is_sorted-put_each R o rows (at n) h)

    find-put_lists : (q : K) (rows : List (K × X)) (ns : List ℕ) → find R q (put_lists rows ns) ≡ option_or (found q ns) (find R q rows)
    find-put_lists q rows [] = refl
    find-put_lists q rows (n ∷ ns) =
        find-put_lists q (put_each R rows (at n)) ns ∙ ap (option_or (found q ns)) (find-put_each R o q rows (at n) (rises n))
        ∙ or_or (found q ns) (find R q (at n)) (find R q rows)

    -- to put lists into rows is to merge the rows with what the lists leave
    pub put_lists-merge : IsAntisymmetric R → (rows : List (K × X)) (ns : List ℕ) → T (is_sorted R rows) → put_lists rows ns ≡ merge R (put_lists [] ns) rows
    put_lists-merge same rows ns h =
        let g = is_sorted-put_lists [] ns tt in
        same_entries R o same _ _ (is_sorted-put_lists rows ns h) (is_sorted-merge R o (put_lists [] ns) rows g h)
        (λ q. find-put_lists q rows ns ∙ ap (λ a. option_or a (find R q rows)) (or_none (found q ns) ∙ sym (find-put_lists q [] ns))
        ∙ sym (find-merge R o q (put_lists [] ns) rows g h))

    pub put_lists-append : (rows : List (K × X)) (ms ns : List ℕ) → put_lists rows (ms ++ ns) ≡ put_lists (put_lists rows ms) ns
    put_lists-append rows [] ns = refl
    put_lists-append rows (m ∷ ms) ns = put_lists-append (put_each R rows (at m)) ms ns

    -- two runs of lists are put in side by side
    pub put_lists-both : IsAntisymmetric R → (ms ns : List ℕ) → put_lists [] (ms ++ ns) ≡ merge R (put_lists [] ns) (put_lists [] ms)
    put_lists-both same ms ns = put_lists-append [] ms ns ∙ put_lists-merge same (put_lists [] ms) ns (is_sorted-put_lists [] ms tt)
