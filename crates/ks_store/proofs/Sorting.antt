-- The rows of a table in order of their keys are the pairs of the map that they are.
use Rattle.std.proofs.Common.{◌≡◌, ℕ, suc, ◌+◌, ◌<◌, ◌≤◌, Bool, true, false, cond, ◌&&◌, ◌==◌, T, List, [], ◌∷◌, length, get_or, Option, Some, None, refl, sym, ap, subst, ◌∙◌, arith}
use Rattle.std.specs.Prelude.{is_some}
use Rattle.std.specs.declared.cmp.Ordering.{Ordering}
use Rattle.std.specs.declared.cmp.Ordering.TheVariants.{Less, Equal, Greater}
use Rattle.std.specs.Ordering.{eq_by_cmp, is_lt, is_eq, ordering_reverse}
use Rattle.std.specs.Cmp.{eq_by_cmp_equiv}
use Rattle.std.specs.List.{starts_with, IsDistinct, AllByRecursion}
use Rattle.std.specs.List.Sorted.{IsPermutation, IsSortedBy}
use Rattle.std.specs.Map.{keys_of}
use Rattle.std.specs.FinMap.{slice_cmp-IsAntisymmetric, nat_cmp-IsAntisymmetric}
use Rattle.std.specs.FinMap.Entries.{find, where_key, below_all, is_some-find, find-where_key, same_entries, is_sorted-where_key}
use Rattle.std.proofs.lemmas.Bool.{true≢false}
use Rattle.std.proofs.lemmas.Cmp.{nat_list_cmp_total}
use Rattle.std.proofs.lemmas.List.Elements.{All-from_recursion, recursion_from_All}
use Rattle.std.proofs.lemmas.List.Sorted.{IsPermutation-map, All-permutation, list_any-IsPermutation}
use Rattle.std.proofs.lemmas.Map.Keys.{IsDistinct-IsPermutation}
use Rattle.std.proofs.lemmas.Map.Made.{IsDistinct-keys_filter}
use Rattle.ks_def_runs.specs.Bytes.{by_bytes}
use Rattle.ks_def_runs.specs.FinMap as fin
use Rattle.ks_store.specs.Pairs.{Rises}
use Rattle.ks_store.specs.Rows.{row_store}
use Rattle.ks_store.proofs.Trees.{first, second, less_is}
use Rattle.ks_store.proofs.Tables.{same_key, get_row}

abbrev Pairs : Type 0
Pairs = List (List ℕ × List ℕ)

abbrev same : List ℕ → List ℕ → Bool
same x y = eq_by_cmp by_bytes x y

abbrev pub below : List ℕ × List ℕ → List ℕ × List ℕ → Bool
below a b = is_lt (by_bytes a.0 b.0)

abbrev begins : List ℕ → List ℕ → Bool
begins front k = starts_with ◌==◌ k front

-- ---- as many rows as the map has keys: no key has two

at_most : (b : Bool) (m n : ℕ) → m ≤ n → cond b m (m + 1) ≤ n + 1
at_most true m n h = omega (arith, h)
at_most false m n h = omega (arith, h)

no_more : (es : Pairs) → fin.len (row_store es) ≤ length es
no_more [] = subst (λ (n : ℕ). n ≤ 0) (sym (fin.len-empty by_bytes (List ℕ))) (omega arith)
no_more (e ∷ es) =
    subst (λ (n : ℕ). n ≤ length (e ∷ es)) (sym (fin.len-insert nat_list_cmp_total (row_store es) e.0 e.1))
    (step (length es) (at_most (is_some (fin.get (row_store es) e.0)) (fin.len (row_store es)) (length es) (no_more es)))
  where
    step : {m : ℕ} (n : ℕ) → m ≤ n + 1 → m ≤ suc n
    step n h = omega (arith, h)

not_found : (q : List ℕ) (es : Pairs) → is_some (find by_bytes q es) ≡ false → AllByRecursion (λ y. same q y ≡ false) (keys_of es)
not_found q [] h = tt
not_found q (e ∷ es) h = by (same q e.0) refl (not_found q es) h
  where
    by : (b : Bool) → same q e.0 ≡ b → (is_some (find by_bytes q es) ≡ false → AllByRecursion (λ y. same q y ≡ false) (keys_of es)) → is_some (cond b (Some e.1) (find by_bytes q es)) ≡ false →
        AllByRecursion (λ y. same q y ≡ false) (keys_of (e ∷ es))
    by true t more h = absurd (true≢false h)
    by false t more h = (t, more h)

pub distinct_rows : (es : Pairs) → length es ≡ fin.len (row_store es) → IsDistinct same (keys_of es)
unfolding IsDistinct
distinct_rows [] h = tt
distinct_rows (e ∷ es) h = by (is_some (fin.get (row_store es) e.0)) refl (distinct_rows es) (h ∙ fin.len-insert nat_list_cmp_total (row_store es) e.0 e.1)
  where
    by : (b : Bool) → is_some (fin.get (row_store es) e.0) ≡ b → (length es ≡ fin.len (row_store es) → IsDistinct same (keys_of es)) → suc (length es) ≡ cond b (fin.len (row_store es)) (fin.len (row_store es) + 1) →
        AllByRecursion (λ y. same e.0 y ≡ false) (keys_of es) × IsDistinct same (keys_of es)
    by true t more g = absurd (omega (arith, g, no_more es))
    by false t more g = (not_found e.0 es (ap is_some (sym (get_row es e.0)) ∙ t), more (omega (arith, g)))

-- ---- each row is the one that is found by its key

beside : (e : List ℕ × List ℕ) (fs es : Pairs) → AllByRecursion (λ y. same e.0 y ≡ false) (keys_of fs) → AllByRecursion (λ f. find by_bytes f.0 es ≡ Some f.1) fs → AllByRecursion (λ f. find by_bytes f.0 (e ∷ es) ≡ Some f.1) fs
beside e [] es a b = tt
beside e (f ∷ fs) es a b = (ap (λ c. cond c (Some e.1) (find by_bytes f.0 es)) ((eq_by_cmp_equiv nat_list_cmp_total).symm f.0 e.0 ∙ a.0) ∙ b.0, beside e fs es a.1 b.1)

found_own : (es : Pairs) → IsDistinct same (keys_of es) → AllByRecursion (λ f. find by_bytes f.0 es ≡ Some f.1) es
unfolding IsDistinct
found_own [] d = tt
found_own (e ∷ es) d = (ap (λ b. cond b (Some e.1) (find by_bytes e.0 es)) ((eq_by_cmp_equiv nat_list_cmp_total).refl e.0), beside e es es d.0 (found_own es d.1))

found_in : (es fs : Pairs) (q v : List ℕ) → AllByRecursion (λ e. find by_bytes e.0 fs ≡ Some e.1) es → find by_bytes q es ≡ Some v → find by_bytes q fs ≡ Some v
found_in [] fs q v h is = absurd (true≢false (ap is_some (sym is)))
found_in (e ∷ es) fs q v h is = by (same q e.0) refl (found_in es fs q v h.1) is
  where
    by : (b : Bool) → same q e.0 ≡ b → (find by_bytes q es ≡ Some v → find by_bytes q fs ≡ Some v) → cond b (Some e.1) (find by_bytes q es) ≡ Some v → find by_bytes q fs ≡ Some v
    by true t more is = ap (λ (x : List ℕ). find by_bytes x fs) (same_key q e.0 t) ∙ (h.0 ∙ is)
    by false t more is = more is

found_alike : (es fs : Pairs) → AllByRecursion (λ e. find by_bytes e.0 fs ≡ Some e.1) es → (q : List ℕ) → is_some (find by_bytes q es) ≡ is_some (find by_bytes q fs) → find by_bytes q es ≡ find by_bytes q fs
found_alike es fs h q alike = by (find by_bytes q es) refl
  where
    none : (o : Option (List ℕ)) → is_some o ≡ false → None ≡ o
    none None e = refl
    none (Some v) e = absurd (true≢false e)

    by : (o : Option (List ℕ)) → find by_bytes q es ≡ o → o ≡ find by_bytes q fs
    by None e = none (find by_bytes q fs) (sym alike ∙ ap is_some e)
    by (Some v) e = sym (found_in es fs q v h e)

-- rows in another order are found alike
found_moved : (es fs : Pairs) → IsDistinct same (keys_of es) → IsPermutation es fs → (q : List ℕ) → find by_bytes q fs ≡ find by_bytes q es
found_moved es fs d moved q =
    found_alike fs es
    (recursion_from_All (λ (e : List ℕ × List ℕ). find by_bytes e.0 es ≡ Some e.1) fs
    (All-permutation (λ (e : List ℕ × List ℕ). find by_bytes e.0 es ≡ Some e.1) es fs moved (All-from_recursion (λ (e : List ℕ × List ℕ). find by_bytes e.0 es ≡ Some e.1) es (found_own es d))))
    q
    (is_some-find by_bytes q fs
    ∙ (sym (list_any-IsPermutation (same q) (keys_of es) (keys_of fs) (IsPermutation-map (λ (e : List ℕ × List ℕ). e.0) es fs moved)) ∙ sym (is_some-find by_bytes q es)))

-- ---- what is sorted and has no key twice rises

both : (a b : Bool) → T a → T b → T (a && b)
both true b p q = q
both false b p q = absurd p

above : (o p : Ordering) → p ≡ ordering_reverse o → is_lt o ≡ false → is_eq p ≡ false → T (is_lt p)
above Less p e f g = absurd (true≢false f)
above Equal p e f g = absurd (true≢false (sym (ap is_eq e) ∙ g))
above Greater p e f g = subst (λ r. T (is_lt r)) (sym e) tt

rise : (x y : List ℕ) → is_lt (by_bytes y x) ≡ false → same x y ≡ false → T (is_lt (by_bytes x y))
rise x y f g = above (by_bytes y x) (by_bytes x y) (nat_list_cmp_total.antisymm x y) f g

below_lower : (x y : List ℕ) (es : Pairs) → T (is_lt (by_bytes x y)) → T (below_all by_bytes y es) → T (below_all by_bytes x es)
below_lower x y [] l h = tt
below_lower x y (e ∷ es) l h =
    both _ _ (subst (λ r. T (is_lt r)) (sym (nat_list_cmp_total.trans x y e.0 (less_is _ l) (less_is _ (first _ _ h)))) tt) (below_lower x y es l (second _ _ h))

rises_sorted : (es : Pairs) → ((j k : ℕ) (d : List ℕ × List ℕ) → j ≡ k + 1 → j < length es → below (get_or es j d) (get_or es k d) ≡ false) → IsDistinct same (keys_of es) → Rises es
unfolding IsDistinct
rises_sorted [] s d = tt
rises_sorted (m ∷ []) s d = tt
rises_sorted (m ∷ n ∷ es) s d =
    let more : Rises (n ∷ es) = rises_sorted (n ∷ es) (λ j k x e lt. s (suc j) (suc k) x (omega (arith, e)) (omega (arith, lt))) d.1 in
    let up : T (is_lt (by_bytes m.0 n.0)) = rise m.0 n.0 (s 1 0 m (omega arith) (omega arith)) d.0.0 in
    both _ _ (both _ _ up (below_lower m.0 n.0 es up (first _ _ more))) more

-- ---- the rows that begin so

pub sorted_under : (front : List ℕ) (rows found : Pairs) → length rows ≡ fin.len (row_store rows) → IsPermutation (where_key by_bytes (begins front) rows) found → IsSortedBy below found → found ≡ where_key by_bytes (begins front) (fin.entries (row_store rows))
sorted_under front rows found once moved sorted =
    same_entries by_bytes nat_list_cmp_total (slice_cmp-IsAntisymmetric nat_cmp-IsAntisymmetric) found (where_key by_bytes (begins front) (fin.entries (row_store rows)))
    rises (is_sorted-where_key by_bytes (begins front) _ (fin.entries_sorted (row_store rows))) each
  where
    distinct : IsDistinct same (keys_of (where_key by_bytes (begins front) rows))
    distinct = IsDistinct-keys_filter same (λ e. begins front e.0) rows (distinct_rows rows once)

    rises : Rises found
    rises =
        rises_sorted found (λ j k x e lt. subst (λ (i : ℕ). below (get_or found i x) (get_or found k x) ≡ false) (sym e) (sorted k x (omega arith) (omega (arith, e, lt))))
        (IsDistinct-IsPermutation same (λ x y. (eq_by_cmp_equiv nat_list_cmp_total).symm x y) (keys_of (where_key by_bytes (begins front) rows)) (keys_of found)
        (IsPermutation-map (λ (e : List ℕ × List ℕ). e.0) (where_key by_bytes (begins front) rows) found moved) distinct)

    alike : (q x : List ℕ) → by_bytes q x ≡ Equal → begins front x ≡ begins front q
    alike q x t = ap (begins front) (sym (slice_cmp-IsAntisymmetric nat_cmp-IsAntisymmetric q x t))

    each : (q : List ℕ) → find by_bytes q found ≡ find by_bytes q (where_key by_bytes (begins front) (fin.entries (row_store rows)))
    each q =
        found_moved (where_key by_bytes (begins front) rows) found distinct moved q
        ∙ (find-where_key by_bytes (begins front) q (alike q) rows
        ∙ (ap (λ (o : Option (List ℕ)). cond (begins front q) o None) (sym (get_row rows q) ∙ fin.get-entries (row_store rows) q)
        ∙ sym (find-where_key by_bytes (begins front) q (alike q) (fin.entries (row_store rows)))))
