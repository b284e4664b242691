-- A tree is the finite map of its entries.
use Rattle.std.proofs.Common.{◌≡◌, Bool, true, false, cond, not, ◌&&◌, T, List, [], ◌∷◌, ◌++◌, map, fold, append-nil, append_assoc, Some, refl, sym, ap, subst, ◌∙◌}
use Rattle.std.specs.declared.cmp.Ordering.{Ordering}
use Rattle.std.specs.declared.cmp.Ordering.TheVariants.{Less, Equal, Greater}
use Rattle.std.specs.Ordering.{eq_by_cmp, is_eq, is_lt, ordering_reverse}
use Rattle.std.specs.Cmp.{IsTotalOrder}
use Rattle.std.specs.List.{AllByRecursion}
use Rattle.std.specs.List.Sorted.{IsStrictlySortedBy}
use Rattle.std.specs.Map.{lookup, remove_entry, keys_of}
use Rattle.std.specs.BTreeMap.{insert_entry, is_at}
use Rattle.std.specs.FinMap.Entries.{find, put, by_order, where_key, below_all}
use Rattle.ks_def_runs.specs.FinMap as fin
use Rattle.ks_def_runs.specs.FinMap.{FinMap}
use Rattle.ks_def_runs.specs.Table.{write}
use Rattle.ks_query.specs.Query.{map_values}
use Rattle.ks_oracle.specs.Trees.{Rises, map_of}

both : (a b : Bool) → T a → T b → T (a && b)
both true b p q = q
both false b p q = absurd p

first : (a b : Bool) → T (a && b) → T a
first true b p = tt
first false b p = absurd p

second : (a b : Bool) → T (a && b) → T b
second true b p = p
second false b p = absurd p

less : (o : Ordering) → o ≡ Less → T (is_lt o)
less o e = subst (λ p. T (is_lt p)) (sym e) tt

less_is : (o : Ordering) → T (is_lt o) → o ≡ Less
less_is Less p = refl
less_is Equal p = absurd p
less_is Greater p = absurd p

equal_is : (o : Ordering) → is_eq o ≡ true → o ≡ Equal
equal_is Less p = absurd cc
equal_is Equal p = refl
equal_is Greater p = absurd cc

tied : {K : Type 0} (R : K → K → Ordering) → IsTotalOrder R → (q x y : K) → R q x ≡ Equal → R x y ≡ Less → eq_by_cmp R q y ≡ false
tied R o q x y e l = ap is_eq (o.congr q x y e ∙ l)

module _ {K V : Type 0} (R : K → K → Ordering) where
  below : (k : K) (es : List (K × V)) → AllByRecursion (λ y. R k y ≡ Less) (keys_of es) → T (below_all R k es)
  below k [] h = tt
  below k (e ∷ es) h = both _ _ (less _ h.0) (below k es h.1)

  pub rises : (es : List (K × V)) → IsStrictlySortedBy R (keys_of es) → Rises R es
  unfolding IsStrictlySortedBy
  rises [] h = tt
  rises (e ∷ es) h = both _ _ (below e.0 es h.0) (rises es h.1)

  found : (es : List (K × V)) (q : K) → find R q es ≡ lookup (is_at (R q)) es
  found [] q = refl
  found (e ∷ es) q = ap (cond (is_eq (R q e.0)) (Some e.1)) (found es q)

  inserted : (es : List (K × V)) (k : K) (v : V) → insert_entry R es k v ≡ put R k v es
  inserted [] k v = refl
  inserted (e ∷ es) k v = by (R k e.0) refl (inserted es k v)
    where
      by : (o : Ordering) → R k e.0 ≡ o → insert_entry R es k v ≡ put R k v es → insert_entry R (e ∷ es) k v ≡ put R k v (e ∷ es)
      by Less h more = rw h refl
      by Equal h more = rw h refl
      by Greater h more = rw h (ap (λ (x : List (K × V)). e ∷ x) more)

  module _ (o : IsTotalOrder R) where
    none_left : (q x : K) (es : List (K × V)) → R q x ≡ Equal → T (below_all R x es) → where_key R (λ k. not (eq_by_cmp R q k)) es ≡ es
    none_left q x [] e h = refl
    none_left q x (p ∷ es) e h =
        let t : eq_by_cmp R q p.0 ≡ false = tied R o q x p.0 e (less_is _ (first _ _ h)) in
        ap (λ (b : Bool). cond (not b) (p ∷ where_key R (λ k. not (eq_by_cmp R q k)) es) (where_key R (λ k. not (eq_by_cmp R q k)) es)) t
        ∙ ap (λ (x : List (K × V)). p ∷ x) (none_left q x es e (second _ _ h))

    removed : (es : List (K × V)) (q : K) → Rises R es → remove_entry (is_at (R q)) es ≡ where_key R (λ k. not (eq_by_cmp R q k)) es
    removed [] q h = refl
    removed (e ∷ es) q h = by (is_eq (R q e.0)) refl (removed es q (second _ _ h))
      where
        by : (b : Bool) → is_eq (R q e.0) ≡ b → remove_entry (is_at (R q)) es ≡ where_key R (λ k. not (eq_by_cmp R q k)) es →
            remove_entry (is_at (R q)) (e ∷ es) ≡ where_key R (λ k. not (eq_by_cmp R q k)) (e ∷ es)
        by true t more = rw t (sym (none_left q e.0 es (equal_is _ t) (first _ _ h)))
        by false t more = rw t (ap (λ (x : List (K × V)). e ∷ x) more)

    -- ---- the map
    pub map_entries : (es : List (K × V)) → Rises R es → fin.entries (map_of R es) ≡ es
    map_entries es h = fin.entries-from_sorted R es h

    pub map_get : (es : List (K × V)) (q : K) → Rises R es → fin.get (map_of R es) q ≡ lookup (is_at (R q)) es
    map_get es q h = fin.get-from_sorted R es q h ∙ found es q

    pub map_new : (es : List (K × V)) → es ≡ [] → map_of R es ≡ fin.empty
    unfolding fin.entries fin.empty
    map_new es e = ap (map_of R) e ∙ fin.same_entries_map (map_of R []) fin.empty (map_entries [] tt)

    pub map_insert : (es fs : List (K × V)) (k : K) (v : V) → Rises R es → IsStrictlySortedBy R (keys_of fs) → fs ≡ insert_entry R es k v → map_of R fs ≡ fin.insert (map_of R es) k v
    map_insert es fs k v h g e = fin.same_entries_map (map_of R fs) (fin.insert (map_of R es) k v)
        (map_entries fs (rises fs g) ∙ (e ∙ (inserted es k v ∙ (ap (put R k v) (sym (map_entries es h)) ∙ sym (fin.entries-insert o (map_of R es) k v)))))

    pub map_remove : (es fs : List (K × V)) (q : K) → Rises R es → IsStrictlySortedBy R (keys_of fs) → fs ≡ remove_entry (is_at (R q)) es → map_of R fs ≡ fin.remove (map_of R es) q
    unfolding fin.remove
    map_remove es fs q h g e = fin.same_entries_map (map_of R fs) (fin.remove (map_of R es) q)
        (map_entries fs (rises fs g) ∙ (e ∙ (removed es q h ∙ (ap (where_key R (λ k. not (eq_by_cmp R q k))) (sym (map_entries es h)) ∙ sym (fin.entries-retain_keys (map_of R es) (λ x. not (eq_by_cmp R q x)))))))

    -- ---- values that are all there
    abbrev Above : K → List (K × V) → Type 0
    Above k es = AllByRecursion (λ (e : K × V). R e.0 k ≡ Less) es

    last_put : (es : List (K × V)) (k : K) (v : V) → Above k es → put R k v es ≡ es ++ (k, v) ∷ []
    last_put [] k v h = refl
    last_put (e ∷ es) k v h =
        ap (λ (w : Ordering). by_order w ((k, v) ∷ e ∷ es) ((e.0, v) ∷ es) (e ∷ put R k v es)) (o.antisymm k e.0 ∙ ap ordering_reverse h.0)
        ∙ ap (λ (x : List (K × V)). e ∷ x) (last_put es k v h.1)

    above-push : (k : K) (es : List (K × V)) (c : K) (v : V) → Above k es → R c k ≡ Less → Above k (es ++ (c, v) ∷ [])
    above-push k [] c v h l = (l, tt)
    above-push k (e ∷ es) c v h l = (h.0, above-push k es c v h.1 l)

-- a map whose values are turned into others, one for each
module _ {K X Y : Type 0} (R : K → K → Ordering) (o : IsTotalOrder R) (f : X → Y) where
  abbrev turned : List (K × X) → List (K × Y)
  turned es = map (λ (e : K × X). (e.0, f e.1)) es

  -- all of these entries stand after those of the map
  abbrev After : FinMap R Y → List (K × X) → Type 0
  After m [] = Unit {0}
  After m (e ∷ es) = Above R o e.0 (fin.entries m) × After m es

  grows : (m : FinMap R Y) (k : K) (y : Y) → Above R o k (fin.entries m) → fin.entries (fin.insert m k y) ≡ fin.entries m ++ (k, y) ∷ []
  grows m k y h = fin.entries-insert o m k y ∙ last_put R o (fin.entries m) k y h

  after-insert : (m : FinMap R Y) (k : K) (y : Y) → Above R o k (fin.entries m) → (es : List (K × X)) → After m es → T (below_all R k es) → After (fin.insert m k y) es
  after-insert m k y h [] a b = tt
  after-insert m k y h (e ∷ es) a b = (
    subst (Above R o e.0) (sym (grows m k y h)) (above-push R o e.0 (fin.entries m) k y a.0 (less_is _ (first _ _ b))),
    after-insert m k y h es a.1 (second _ _ b),
  )

  all_turned : (es : List (K × X)) → Rises R es → (m : FinMap R Y) → After m es → fin.entries (fold (λ n e. write R n e.0 (Some (f e.1))) m es) ≡ fin.entries m ++ turned es
  all_turned [] h m a = sym (append-nil (fin.entries m))
  all_turned (e ∷ es) h m a =
      all_turned es (second _ _ h) (fin.insert m e.0 (f e.1)) (after-insert m e.0 (f e.1) a.0 es a.1 (first _ _ h))
      ∙ (ap (λ (x : List (K × Y)). x ++ turned es) (grows m e.0 (f e.1) a.0) ∙ append_assoc (fin.entries m) ((e.0, f e.1) ∷ []) (turned es))

  no_entries : fin.entries (fin.empty {X = Y} {R = R}) ≡ []
  unfolding fin.entries fin.empty
  no_entries = refl

  after_none : (es : List (K × X)) → After fin.empty es
  after_none [] = tt
  after_none (e ∷ es) = (subst (Above R o e.0) (sym no_entries) tt, after_none es)

  pub entries-turned : (m : FinMap R X) → fin.entries (map_values (λ x. Some (f x)) m) ≡ turned (fin.entries m)
  entries-turned m = all_turned (fin.entries m) (fin.entries_sorted m) fin.empty (after_none (fin.entries m)) ∙ ap (λ (x : List (K × Y)). x ++ turned (fin.entries m)) no_entries
