-- A tree of vectors is the finite map of its pairs.
use Rattle.std.proofs.Common.{◌≡◌, ℕ, Bool, true, false, cond, not, ◌&&◌, T, List, [], ◌∷◌, length, Option, Some, refl, sym, ap, subst, ◌∙◌}
use Rattle.std.specs.Prelude.{option_map, ◌==◌}
use Rattle.std.specs.Global.{Vec}
use Rattle.std.specs.declared.cmp.Ordering.{Ordering}
use Rattle.std.specs.declared.cmp.Ordering.TheVariants.{Less, Equal, Greater}
use Rattle.std.specs.Ordering.{nat_cmp, eq_by_cmp, is_eq, is_lt}
use Rattle.std.specs.Cmp.Lexicographic.{slice_cmp}
use Rattle.std.specs.List.{filter, starts_with, AllByRecursion}
use Rattle.std.specs.List.Sorted.{IsStrictlySortedBy}
use Rattle.std.specs.Map.{lookup, remove_entry, keys_of}
use Rattle.std.specs.BTreeMap.{insert_entry, is_at}
use Rattle.std.specs.FinMap.Entries.{find, put, where_key, by_order, below_all}
use Rattle.std.proofs.lemmas.Cmp.{nat_list_cmp_total}
use Rattle.std.proofs.lemmas.List.{length-map}
use Rattle.ks_def_runs.specs.Bytes.{by_bytes, empty_store}
use Rattle.ks_def_runs.specs.FinMap as fin
use Rattle.ks_store.specs.Pairs.{pairs_of, Rises, IsTree, store_of}
use Rattle.ks_def_runs.specs.Pairs.{ArePairs}
use Rattle.ks_record.specs.Bytes.{IsBytes}
use Rattle.std.specs.Prelude.{Result, Ok, Err, OnOk, OnErr, ⊤}
use Rattle.std.specs.declared.alloc.AllocError.{AllocError}

abbrev pub Entry : Type 0
Entry = Vec ℕ × Vec ℕ

abbrev pub by_items : Vec ℕ → Vec ℕ → Ordering
by_items a b = slice_cmp nat_cmp a.items b.items

-- ---- in order

both : (a b : Bool) → T a → T b → T (a && b)
both true b p q = q
both false b p q = absurd p

pub first : (a b : Bool) → T (a && b) → T a
first true b p = tt
first false b p = absurd p

pub second : (a b : Bool) → T (a && b) → T b
second true b p = p
second false b p = absurd p

less : (o : Ordering) → o ≡ Less → T (is_lt o)
less o e = subst (λ p. T (is_lt p)) (sym e) tt

pub less_is : (o : Ordering) → T (is_lt o) → o ≡ Less
less_is Less p = refl
less_is Equal p = absurd p
less_is Greater p = absurd p

below : (k : Vec ℕ) (es : List Entry) → AllByRecursion (λ y. by_items k y ≡ Less) (keys_of es) → T (below_all by_bytes k.items (pairs_of es))
below k [] h = tt
below k (e ∷ es) h = both _ _ (less _ h.0) (below k es h.1)

pub rises : (es : List Entry) → IsStrictlySortedBy by_items (keys_of es) → Rises (pairs_of es)
unfolding IsStrictlySortedBy
rises [] h = tt
rises (e ∷ es) h = both _ _ (below e.0 es h.0) (rises es h.1)

-- ---- looking up

pub find_pairs : (es : List Entry) (q : List ℕ) → find by_bytes q (pairs_of es) ≡ option_map (λ (v : Vec ℕ). v.items) (lookup (is_at (λ (k : Vec ℕ). slice_cmp nat_cmp q k.items)) es)
find_pairs [] q = refl
find_pairs (e ∷ es) q = by_test (is_eq (slice_cmp nat_cmp q e.0.items)) e.1 _ _ (find_pairs es q)
  where
    by_test : (b : Bool) (v : Vec ℕ) (r : Option (List ℕ)) (s : Option (Vec ℕ)) → r ≡ option_map (λ (x : Vec ℕ). x.items) s → cond b (Some v.items) r ≡ option_map (λ (x : Vec ℕ). x.items) (cond b (Some v) s)
    by_test true v r s h = refl
    by_test false v r s h = h

-- ---- putting

put_first : (o : Ordering) (e : Entry) (es : List Entry) (k v : Vec ℕ) → slice_cmp nat_cmp k.items e.0.items ≡ o → pairs_of (insert_entry by_items es k v) ≡ put by_bytes k.items v.items (pairs_of es) →
    pairs_of (insert_entry by_items (e ∷ es) k v) ≡ put by_bytes k.items v.items (pairs_of (e ∷ es))
put_first Less e es k v h more = rw h refl
put_first Equal e es k v h more = rw h refl
put_first Greater e es k v h more = rw h (ap (λ (x : List (List ℕ × List ℕ)). (e.0.items, e.1.items) ∷ x) more)

pub put_pairs : (es : List Entry) (k v : Vec ℕ) → pairs_of (insert_entry by_items es k v) ≡ put by_bytes k.items v.items (pairs_of es)
put_pairs [] k v = refl
put_pairs (e ∷ es) k v = put_first (slice_cmp nat_cmp k.items e.0.items) e es k v refl (put_pairs es k v)

-- ---- taking away

tied : (q x y : List ℕ) → by_bytes q x ≡ Equal → by_bytes x y ≡ Less → eq_by_cmp by_bytes q y ≡ false
tied q x y e l = ap is_eq (nat_list_cmp_total.congr q x y e ∙ l)

none_left : (q x : List ℕ) (es : List (List ℕ × List ℕ)) → by_bytes q x ≡ Equal → T (below_all by_bytes x es) → where_key by_bytes (λ k. not (eq_by_cmp by_bytes q k)) es ≡ es
none_left q x [] e h = refl
none_left q x (p ∷ es) e h =
    let t : eq_by_cmp by_bytes q p.0 ≡ false = tied q x p.0 e (less_is _ (first _ _ h)) in
    ap (λ (b : Bool). cond (not b) (p ∷ where_key by_bytes (λ k. not (eq_by_cmp by_bytes q k)) es) (where_key by_bytes (λ k. not (eq_by_cmp by_bytes q k)) es)) t
    ∙ ap (λ (x : List (List ℕ × List ℕ)). p ∷ x) (none_left q x es e (second _ _ h))

equal_is : (o : Ordering) → is_eq o ≡ true → o ≡ Equal
equal_is Less p = absurd cc
equal_is Equal p = refl
equal_is Greater p = absurd cc

take_first : (b : Bool) (e : Entry) (es : List Entry) (q : List ℕ) → is_eq (slice_cmp nat_cmp q e.0.items) ≡ b → Rises (pairs_of (e ∷ es)) →
    pairs_of (remove_entry (is_at (λ (k : Vec ℕ). slice_cmp nat_cmp q k.items)) es) ≡ where_key by_bytes (λ k. not (eq_by_cmp by_bytes q k)) (pairs_of es) →
    pairs_of (remove_entry (is_at (λ (k : Vec ℕ). slice_cmp nat_cmp q k.items)) (e ∷ es)) ≡ where_key by_bytes (λ k. not (eq_by_cmp by_bytes q k)) (pairs_of (e ∷ es))
take_first true e es q t h more = rw t (sym (none_left q e.0.items (pairs_of es) (equal_is _ t) (first _ _ h)))
take_first false e es q t h more = rw t (ap (λ (x : List (List ℕ × List ℕ)). (e.0.items, e.1.items) ∷ x) more)

pub take_pairs : (es : List Entry) (q : List ℕ) → Rises (pairs_of es) →
    pairs_of (remove_entry (is_at (λ (k : Vec ℕ). slice_cmp nat_cmp q k.items)) es) ≡ where_key by_bytes (λ k. not (eq_by_cmp by_bytes q k)) (pairs_of es)
take_pairs [] q h = refl
take_pairs (e ∷ es) q h = take_first (is_eq (slice_cmp nat_cmp q e.0.items)) e es q refl h (take_pairs es q (second _ _ h))

-- ---- the map

pub store_entries : (es : List Entry) → Rises (pairs_of es) → fin.entries (store_of es) ≡ pairs_of es
store_entries es h = fin.entries-from_sorted by_bytes (pairs_of es) h

pub get_store : (es : List Entry) (q : List ℕ) → Rises (pairs_of es) → fin.get (store_of es) q ≡ find by_bytes q (pairs_of es)
get_store es q h = fin.get-from_sorted by_bytes (pairs_of es) q h

pub new_store : (es : List Entry) → es ≡ [] → store_of es ≡ empty_store
unfolding fin.entries fin.empty
new_store es e = ap store_of e ∙ fin.same_entries_map (store_of []) empty_store (store_entries [] tt)

pub put_store : (es fs : List Entry) (k v : List ℕ) → Rises (pairs_of es) → Rises (pairs_of fs) → pairs_of fs ≡ put by_bytes k v (pairs_of es) → store_of fs ≡ fin.insert (store_of es) k v
put_store es fs k v h g e =
    fin.same_entries_map (store_of fs) (fin.insert (store_of es) k v)
    (store_entries fs g ∙ (e ∙ (ap (put by_bytes k v) (sym (store_entries es h)) ∙ sym (fin.entries-insert nat_list_cmp_total (store_of es) k v))))

pub take_store : (es fs : List Entry) (q : List ℕ) → Rises (pairs_of es) → Rises (pairs_of fs) → pairs_of fs ≡ where_key by_bytes (λ k. not (eq_by_cmp by_bytes q k)) (pairs_of es) → store_of fs ≡ fin.remove (store_of es) q
unfolding fin.remove
take_store es fs q h g e =
    fin.same_entries_map (store_of fs) (fin.remove (store_of es) q)
    (store_entries fs g ∙ (e ∙ (ap (where_key by_bytes (λ k. not (eq_by_cmp by_bytes q k))) (sym (store_entries es h)) ∙ sym (fin.entries-retain_keys (store_of es) (λ x. not (eq_by_cmp by_bytes q x))))))

length-pairs_of : (es : List Entry) → length (pairs_of es) ≡ length es
length-pairs_of es = simp length-map

pub len_store : (es : List Entry) → Rises (pairs_of es) → fin.len (store_of es) ≡ length es
len_store es h = fin.len-entries (store_of es) ∙ (ap length (store_entries es h) ∙ length-pairs_of es)

-- ---- the pairs of a prefix

abbrev pub under : List ℕ → List (List ℕ × List ℕ) → List (List ℕ × List ℕ)
under front es = filter (λ e. starts_with ◌==◌ e.0 front) es

-- ---- the keys stay bytes
pub bytes_where : (f : List ℕ → Bool) (es : List (List ℕ × List ℕ)) → ArePairs es → ArePairs (where_key by_bytes f es)
bytes_where f [] h = tt
bytes_where f (e ∷ es) h = by (f e.0) (bytes_where f es h.1)
  where
    by : (b : Bool) → ArePairs (where_key by_bytes f es) → ArePairs (cond b (e ∷ where_key by_bytes f es) (where_key by_bytes f es))
    by true g = (h.0, g)
    by false g = g

pub bytes_put : (k v : List ℕ) (es : List (List ℕ × List ℕ)) → IsBytes k × IsBytes v → ArePairs es → ArePairs (put by_bytes k v es)
bytes_put k v [] b h = (b, tt)
bytes_put k v (e ∷ es) b h = by (by_bytes k e.0) (bytes_put k v es b h.1)
  where
    by : (o : Ordering) → ArePairs (put by_bytes k v es) → ArePairs (by_order o ((k, v) ∷ e ∷ es) ((e.0, v) ∷ es) (e ∷ put by_bytes k v es))
    by Less g = (b, h)
    by Equal g = ((h.0.0, b.1), h.1)
    by Greater g = (h.0, g)

-- ---- what a tree keeps
pub put_tree : (r : Result ⊤ AllocError) (es fs : List (List ℕ × List ℕ)) (k v : List ℕ) → IsBytes k × IsBytes v → IsTree es → Rises fs → OnOk r (fs ≡ put by_bytes k v es) → OnErr r (fs ≡ es) → IsTree fs
put_tree (Ok u) es fs k v b h rises ok err = (rises, subst ArePairs (sym ok) (bytes_put k v es b h.1))
put_tree (Err x) es fs k v b h rises ok err = (rises, subst ArePairs (sym err) h.1)
