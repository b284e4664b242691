-- The laws of tables.
use Rattle.std.proofs.Common.{◌≡◌, ℕ, ◌+◌, Bool, true, false, cond, not, T, ◌&&◌, List, length, [], ◌∷◌, Option, Some, None, fold, refl, sym, ap, subst, ◌∙◌, arith}
use Rattle.std.specs.declared.cmp.Ordering.{Ordering}
use Rattle.std.specs.declared.cmp.Ordering.TheVariants.{Less, Equal, Greater}
use Rattle.std.specs.Ordering.{eq_by_cmp, is_lt, is_eq}
use Rattle.std.specs.Cmp.{IsTotalOrder, eq_by_cmp_equiv, tied_itself}
use Rattle.ks_def_runs.specs.FinMap as map
use Rattle.ks_def_runs.specs.FinMap.{FinMap}
use Rattle.std.specs.FinMap.{IsAntisymmetric}
use Rattle.std.specs.FinMap.Entries.{find, put, by_order, where_key, below_all, is_sorted}
use Rattle.ks_def_runs.specs.Table.{Change, last, write, latest, total, share_of, sum_of}

less : (r : Ordering) → T (is_lt r) → r ≡ Less
less Less p = refl
less Equal p = absurd p
less Greater p = absurd p

pub equal : (r : Ordering) → is_eq r ≡ true → r ≡ Equal
equal Less p = absurd (subst T (sym p) tt)
equal Equal p = refl
equal Greater p = absurd (subst T (sym p) tt)

and_T : (a b : Bool) → T a → T b → T (a && b)
and_T true b p q = q
and_T false b p q = p

shadow : {A : Type 0} (b : Bool) (x y z : A) → cond b x (cond b y z) ≡ cond b x z
shadow true x y z = refl
shadow false x y z = refl

module _ {K X : Type 0} {R : K → K → Ordering} (o : IsTotalOrder R) where
  pub get-write : (m : FinMap R X) (k : K) (w : Option X) (q : K) → map.get (write R m k w) q ≡ cond (eq_by_cmp R q k) w (map.get m q)
  get-write m k None q = map.get-remove o m k q
  get-write m k (Some x) q = map.get-insert o m k x q

  get-changes : (records : List (Change K X)) (m : FinMap R X) (found : Option X) (q : K) → map.get m q ≡ found →
      map.get (fold (λ m r. write R m r.0 r.1) m records) q ≡ fold (λ found r. cond (eq_by_cmp R q r.0) r.1 found) found records
  get-changes [] m found q e = e
  get-changes (r ∷ rs) m found q e = get-changes rs _ _ q (get-write m r.0 r.1 q ∙ ap (cond (eq_by_cmp R q r.0) r.1) e)

  pub get-latest : (records : List (Change K X)) (q : K) → map.get (latest R records) q ≡ last R records q
  get-latest records q = get-changes records map.empty None q (map.get-empty R q)

tied : {K : Type 0} {R : K → K → Ordering} → IsTotalOrder R → (q k : K) → eq_by_cmp R q k ≡ true → R k q ≡ Equal
tied o q k t = equal _ (sym ((eq_by_cmp_equiv o).symm q k) ∙ t)

-- ---- writes that undo one another
module _ {K X : Type 0} {R : K → K → Ordering} (o : IsTotalOrder R) where
  pub get-write_here : (m : FinMap R X) (k : K) (w : Option X) → map.get (write R m k w) k ≡ w
  get-write_here m k w = get-write o m k w k ∙ ap (λ r. cond (is_eq r) w (map.get m k)) (tied_itself o k)

  -- to write what stands there changes nothing
  pub write_same : IsAntisymmetric R → (m : FinMap R X) (k : K) (w : Option X) → map.get m k ≡ w → write R m k w ≡ m
  write_same same m k w e = map.same_map o same _ _ (λ q. get-write o m k w q
      ∙ elim (eq_by_cmp R q k) as (λ b. eq_by_cmp R q k ≡ b → cond b w (map.get m q) ≡ map.get m q) [
        | true ↦ λ t. sym e ∙ sym (map.get_tied o m k q (tied o q k t))
        | false ↦ λ t. refl
      ] refl)

  -- the second write of a key counts
  pub write-write : IsAntisymmetric R → (m : FinMap R X) (k : K) (v w : Option X) → write R (write R m k v) k w ≡ write R m k w
  write-write same m k v w = map.same_map o same _ _ (λ q. get-write o (write R m k v) k w q
      ∙ ap (cond (eq_by_cmp R q k) w) (get-write o m k v q) ∙ shadow (eq_by_cmp R q k) w v (map.get m q) ∙ sym (get-write o m k w q))

-- ---- one row changes
pub head_of : (a b : Bool) → T (a && b) → T a
head_of true b p = tt
head_of false b p = p

pub tail_of : (a b : Bool) → T (a && b) → T b
tail_of true b p = p
tail_of false b p = absurd p

module _ {K X : Type 0} {R : K → K → Ordering} (o : IsTotalOrder R) (share : X → ℕ) where
  Below-less : (x y : K) (es : List (K × X)) → R x y ≡ Less → T (below_all R y es) → T (below_all R x es)
  Below-less x y [] p h = tt
  Below-less x y (e ∷ es) p h = and_T _ _ (subst (λ r. T (is_lt r)) (sym (o.trans x y e.0 p (less _ (head_of _ _ h)))) tt) (Below-less x y es p (tail_of _ _ h))

  pub find_below : (q : K) (es : List (K × X)) → T (below_all R q es) → find R q es ≡ None
  find_below q [] h = refl
  find_below q (e ∷ es) h = ap (λ r. cond (is_eq r) (Some e.1) (find R q es)) (less _ (head_of _ _ h)) ∙ find_below q es (tail_of _ _ h)

  sum-put : (k : K) (v : X) (es : List (K × X)) → T (is_sorted R es) → sum_of R share (put R k v es) + share_of share (find R k es) ≡ sum_of R share es + share v
  sum-put k v [] h = omega arith
  sum-put k v (e ∷ es) h =
      elim (R k e.0) as (λ r. R k e.0 ≡ r → sum_of R share (by_order r ((k, v) ∷ e ∷ es) ((e.0, v) ∷ es) (e ∷ put R k v es)) + share_of share (cond (is_eq r) (Some e.1) (find R k es)) ≡ sum_of R share (e ∷ es) + share v) [
        | Less ↦ λ p. rw (find_below k es (Below-less k e.0 es p (head_of _ _ h))) (omega arith)
        | Equal ↦ λ p. omega arith
        | Greater ↦ λ p. omega (arith, sum-put k v es (tail_of _ _ h))
      ] refl

  pub total-insert : (m : FinMap R X) (k : K) (x : X) → total R share (map.insert m k x) + share_of share (map.get m k) ≡ total R share m + share x
  total-insert m k x =
      let e = map.entries-insert o m k x in
      let g = map.get-entries m k in
      rw (e, g) (sum-put k x (map.entries m) (map.entries_sorted m))

  total-remove : IsAntisymmetric R → (m : FinMap R X) (k : K) (w : Option X) → map.get m k ≡ w → total R share (map.remove m k) + share_of share w ≡ total R share m
  total-remove same m k None e = omega (arith, ap (total R share) (write_same o same m k None e))
  total-remove same m k (Some x) e =
      let f : map.get (map.remove m k) k ≡ None = get-write_here o m k None in
      let back : map.insert (map.remove m k) k x ≡ m = write-write o same m k None (Some x) ∙ write_same o same m k (Some x) e in
      let h : total R share m + share_of share None ≡ total R share (map.remove m k) + share x = rw (back, f) at (total-insert (map.remove m k) k x) in
      omega arith

  pub total-write : IsAntisymmetric R → (m : FinMap R X) (k : K) (w : Option X) → total R share (write R m k w) + share_of share (map.get m k) ≡ total R share m + share_of share w
  total-write same m k None = omega (arith, total-remove same m k _ refl)
  total-write same m k (Some x) = total-insert m k x

pub total-empty : {K X : Type 0} (R : K → K → Ordering) (share : X → ℕ) → total R share map.empty ≡ 0
total-empty {K} {X} R share = of_none (map.entries map.empty) (sym (map.len-entries map.empty) ∙ map.len-empty R X)
  where
    of_none : (es : List (K × X)) → length es ≡ 0 → sum_of R share es ≡ 0
    of_none [] e = refl
    of_none (x ∷ es) e = absurd (omega arith)
