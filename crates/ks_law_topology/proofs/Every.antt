-- What holds of every entry of a map.
use Rattle.std.proofs.Common.{◌≡◌, ℕ, Bool, true, false, cond, List, [], ◌∷◌, Option, Some, None, fold, refl, sym, subst}
use Rattle.std.specs.declared.cmp.Ordering.{Ordering}
use Rattle.std.specs.declared.cmp.Ordering.TheVariants.{Less, Equal, Greater}
use Rattle.std.specs.Ordering.{eq_by_cmp}
use Rattle.std.specs.Cmp.{IsTotalOrder}
use Rattle.std.specs.FinMap.{IsAntisymmetric}
use Rattle.std.specs.FinMap.Entries.{find, put, by_order, where_key}
use Rattle.ks_def_runs.specs.FinMap as fin
use Rattle.ks_def_runs.specs.FinMap.{FinMap}
use Rattle.ks_def_runs.specs.Table.{write}
use Rattle.ks_def_runs.proofs.Tables.{equal}
use Rattle.ks_row.proofs.Fields.{some_is}
use Rattle.ks_def_tasks.specs.Bytes.{with_pair, map_from}
use Rattle.ks_law_topology.specs.Spelled.{IfThere}

module _ {K X : Type 0} (P : K → X → Type 0) where
  abbrev pub Every : List (K × X) → Type 0
  Every [] = Unit {0}
  Every (e ∷ es) = P e.0 e.1 × Every es

  module _ (R : K → K → Ordering) (o : IsTotalOrder R) (anti : IsAntisymmetric R) where
    every_put : (k : K) (v : X) → P k v → (es : List (K × X)) → Every es → Every (put R k v es)
    every_put k v p [] h = (p, tt)
    every_put k v p (e ∷ es) h = elim (R k e.0) as (λ r. R k e.0 ≡ r → Every (by_order r ((k, v) ∷ e ∷ es) ((e.0, v) ∷ es) (e ∷ put R k v es))) [
      | Less ↦ λ q. (p, h)
      | Equal ↦ λ q. (subst (λ c. P c v) (anti k e.0 q) p, h.1)
      | Greater ↦ λ q. (h.0, every_put k v p es h.1)
    ] refl

    every_where : (f : K → Bool) (es : List (K × X)) → Every es → Every (where_key R f es)
    every_where f [] h = tt
    every_where f (e ∷ es) h = by (f e.0) (every_where f es h.1)
      where
        by : (b : Bool) → Every (where_key R f es) → Every (cond b (e ∷ where_key R f es) (where_key R f es))
        by true g = (h.0, g)
        by false g = g

    entries_remove : (m : FinMap R X) (k : K) → Every (fin.entries m) → Every (fin.entries (fin.remove m k))
    unfolding fin.remove
    entries_remove m k h = subst Every (sym (fin.entries-retain_keys m _)) (every_where _ (fin.entries m) h)

    pub every_insert : (m : FinMap R X) (k : K) (v : X) → P k v → Every (fin.entries m) → Every (fin.entries (fin.insert m k v))
    every_insert m k v p h = subst Every (sym (fin.entries-insert o m k v)) (every_put k v p (fin.entries m) h)

    pub every_write : (m : FinMap R X) (k : K) (w : Option X) → IfThere (P k) w → Every (fin.entries m) → Every (fin.entries (write R m k w))
    every_write m k None p h = entries_remove m k h
    every_write m k (Some v) p h = every_insert m k v p h

    pub every_empty : Every (fin.entries (fin.empty {X = X} {R = R}))
    unfolding fin.entries fin.empty
    every_empty = tt

    module _ (key : List ℕ → Option K) (value : List ℕ → Option X) where
      -- what each of these pairs reads as is such
      abbrev pub Gives : List (List ℕ × List ℕ) → Type 0
      Gives [] = Unit {0}
      Gives (e ∷ es) = ((k : K) (x : X) → key e.0 ≡ Some k → value e.1 ≡ Some x → P k x) × Gives es

      with_one : (m : FinMap R X) (k : Option K) (x : Option X) → ((c : K) (y : X) → k ≡ Some c → x ≡ Some y → P c y) → Every (fin.entries m) → Every (fin.entries (with_pair R m k x))
      with_one m (Some k) (Some x) p h = every_insert m k x (p k x refl refl) h
      with_one m (Some k) None p h = h
      with_one m None x p h = h

      every_pair : (es : List (List ℕ × List ℕ)) → Gives es → (m : FinMap R X) → Every (fin.entries m) → Every (fin.entries (fold (λ m e. with_pair R m (key e.0) (value e.1)) m es))
      every_pair [] g m h = h
      every_pair (e ∷ es) g m h = every_pair es g.1 (with_pair R m (key e.0) (value e.1)) (with_one m (key e.0) (value e.1) g.0 h)

      pub every_read : (es : List (List ℕ × List ℕ)) → Gives es → Every (fin.entries (map_from R key value es))
      every_read es g = every_pair es g fin.empty every_empty

-- at the key at which it is found
module _ {K X : Type 0} (P : K → X → Type 0) (R : K → K → Ordering) (anti : IsAntisymmetric R) where
  pub every_found : (es : List (K × X)) (k : K) (x : X) → Every P es → find R k es ≡ Some x → P k x
  every_found [] k x h e = absurd cc
  every_found (e ∷ es) k x h f = by (eq_by_cmp R k e.0) refl (every_found es k x h.1) f
    where
      by : (b : Bool) → eq_by_cmp R k e.0 ≡ b → (find R k es ≡ Some x → P k x) → cond b (Some e.1) (find R k es) ≡ Some x → P k x
      by true b more g = subst (λ c. P c x) (sym (anti k e.0 (equal _ b))) (subst (P e.0) (some_is e.1 x g) h.0)
      by false b more g = more g

-- and of what is found at a key
module _ {K X : Type 0} (P : X → Type 0) (R : K → K → Ordering) where
  found : (es : List (K × X)) (k : K) → Every (λ c. P) es → IfThere P (find R k es)
  found [] k h = tt
  found (e ∷ es) k h = by (eq_by_cmp R k e.0) (found es k h.1)
    where
      by : (b : Bool) → IfThere P (find R k es) → IfThere P (cond b (Some e.1) (find R k es))
      by true g = h.0
      by false g = g

  pub every_get : (m : FinMap R X) (k : K) → Every (λ c. P) (fin.entries m) → IfThere P (fin.get m k)
  every_get m k h = subst (IfThere P) (sym (fin.get-entries m k)) (found (fin.entries m) k h)
