-- The pairs of a cache, as lists of bytes.
use Rattle.std.proofs.Common.{◌≡◌, ℕ, zero, suc, ◌+◌, ◌-◌, ◌<◌, ◌≤◌, Bool, true, false, cond, not, List, [], ◌∷◌, ◌++◌, length, take, drop, Option, Some, None, refl, sym, ap, subst, ◌∙◌, arith}
use Rattle.std.specs.Prelude.{option_map, is_some, slice_get, nat_eq, Result, Ok, Err, OnOk, OnErr}
use denote.Ref.{Bor}
use Rattle.ks_def_runs.specs.Pairs.{ArePairs}
use Rattle.std.specs.Option.{option_map_or}
use Rattle.std.specs.Global.{Vec}
use Rattle.std.specs.Ordering.{eq_by_cmp}
use Rattle.std.specs.Cmp.Lexicographic.{pointwise, texts_ties, same_text}
use Rattle.std.specs.List.{IsDistinct, AllByRecursion, take-map, drop-map}
use Rattle.std.specs.Map.{lookup, lookup_entry, remove_entry, keys_of}
use Rattle.std.specs.FinMap.Entries.{find}
use Rattle.std.proofs.lemmas.List.{length-map, drop_all, take_all}
use Rattle.ks_def_runs.specs.Bytes.{Store, by_bytes}
use Rattle.ks_def_runs.specs.FinMap as fin
use Rattle.ks_store.specs.Pairs.{pairs_of}
use Rattle.lru.specs.LruCache.{LruCache, put_entries, last_entry}
use Rattle.ks_cache.specs.Lists.{Pairs, overlaid, without, moved, put_cached, put_through}
use Rattle.ks_cache.proofs.Overlaid.{last_over, again_over}

abbrev pub Entry : Type 0
Entry = Vec ℕ × Vec ℕ

abbrev pub Held : Type 0
Held = LruCache (Vec ℕ) (Vec ℕ)

-- two keys of the same bytes
abbrev pub alike : Vec ℕ → Vec ℕ → Bool
alike a b = pointwise nat_eq a.items b.items

abbrev pub pair_of : Entry → List ℕ × List ℕ
pair_of y = (y.0.items, y.1.items)

pub length-pairs : (es : List Entry) → length (pairs_of es) ≡ length es
length-pairs es = simp length-map

-- ---- a key
module _ (k : List ℕ) where
  abbrev pub is_key : Vec ℕ → Bool
  is_key x = pointwise nat_eq k x.items

  tied : (x : Vec ℕ) → is_key x ≡ eq_by_cmp by_bytes k x.items
  tied x = texts_ties k x.items

  pub find_pairs : (es : List Entry) → find by_bytes k (pairs_of es) ≡ option_map (λ (v : Vec ℕ). v.items) (lookup is_key es)
  find_pairs [] = refl
  find_pairs (e ∷ es) = ap (λ b. cond b (Some e.1.items) (find by_bytes k (pairs_of es))) (sym (tied e.0)) ∙ by (is_key e.0) (find_pairs es)
    where
      by : (b : Bool) → find by_bytes k (pairs_of es) ≡ option_map (λ (v : Vec ℕ). v.items) (lookup is_key es) →
          cond b (Some e.1.items) (find by_bytes k (pairs_of es)) ≡ option_map (λ (v : Vec ℕ). v.items) (cond b (Some e.1) (lookup is_key es))
      by true h = refl
      by false h = h

  none_left : (es : List Entry) → AllByRecursion (λ y. is_key y ≡ false) (keys_of es) → without k (pairs_of es) ≡ pairs_of es
  none_left [] h = refl
  none_left (e ∷ es) h =
      ap (λ b. cond (not b) ((e.0.items, e.1.items) ∷ without k (pairs_of es)) (without k (pairs_of es))) (sym (tied e.0) ∙ h.0)
      ∙ ap (λ (l : Pairs). (e.0.items, e.1.items) ∷ l) (none_left es h.1)

  others : (x : Vec ℕ) (es : List Entry) → is_key x ≡ true → AllByRecursion (λ y. alike x y ≡ false) (keys_of es) → AllByRecursion (λ y. is_key y ≡ false) (keys_of es)
  others x [] t h = tt
  others x (e ∷ es) t h = (ap (λ (l : List ℕ). pointwise nat_eq l e.0.items) (same_text k x.items (sym t)) ∙ h.0, others x es t h.1)

  -- a cache without the key
  pub removed : (es : List Entry) → IsDistinct alike (keys_of es) → pairs_of (remove_entry is_key es) ≡ without k (pairs_of es)
  unfolding IsDistinct
  removed [] d = refl
  removed (e ∷ es) d = by (is_key e.0) refl (removed es d.1)
      ∙ ap (λ b. cond (not b) ((e.0.items, e.1.items) ∷ without k (pairs_of es)) (without k (pairs_of es))) (tied e.0)
    where
      by : (b : Bool) → is_key e.0 ≡ b → pairs_of (remove_entry is_key es) ≡ without k (pairs_of es) → pairs_of (cond (is_key e.0) es (e ∷ remove_entry is_key es)) ≡ cond (not (is_key e.0)) ((e.0.items, e.1.items) ∷ without k (pairs_of es)) (without k (pairs_of es))
      by true t m = rw t (sym (none_left es (others e.0 es t d.0)))
      by false t m = rw t (ap (λ (l : Pairs). (e.0.items, e.1.items) ∷ l) m)

  -- where it is none of the keys
  absent : (es : List Entry) → lookup_entry is_key es ≡ None → AllByRecursion (λ y. is_key y ≡ false) (keys_of es)
  absent [] h = tt
  absent (e ∷ es) h = by (is_key e.0) refl (λ g. absent es g)
    where
      by : (b : Bool) → is_key e.0 ≡ b → (lookup_entry is_key es ≡ None → AllByRecursion (λ y. is_key y ≡ false) (keys_of es)) → AllByRecursion (λ y. is_key y ≡ false) (keys_of (e ∷ es))
      by true t m = let g = rw t at h in absurd cc
      by false t m = (t, m (rw t at h))

  found_key : (es : List Entry) (e : Entry) → lookup_entry is_key es ≡ Some e → is_key e.0 ≡ true
  found_key [] e h = absurd cc
  found_key (x ∷ es) e h = by (is_key x.0) refl (λ g. found_key es e g)
    where
      by : (b : Bool) → is_key x.0 ≡ b → (lookup_entry is_key es ≡ Some e → is_key e.0 ≡ true) → is_key e.0 ≡ true
      by true t m = let g = rw t at h in let same : x ≡ e = cc in subst (λ (y : Entry). is_key y.0 ≡ true) same t
      by false t m = m (rw t at h)

  shorter : (es : List Entry) (e : Entry) → lookup_entry is_key es ≡ Some e → length (remove_entry is_key es) + 1 ≡ length es
  shorter [] e h = absurd cc
  shorter (x ∷ es) e h = by (is_key x.0) refl (λ g. shorter es e g)
    where
      by : (b : Bool) → is_key x.0 ≡ b → (lookup_entry is_key es ≡ Some e → length (remove_entry is_key es) + 1 ≡ length es) → length (cond (is_key x.0) es (x ∷ remove_entry is_key es)) + 1 ≡ length (x ∷ es)
      by true t m = rw t (omega arith)
      by false t m = rw t (omega (arith, m (rw t at h)))

  -- ---- where the key is there, a put writes nothing through
  none_through : (c : ℕ) (value : List ℕ) (es : List Entry) (e : Entry) → IsDistinct alike (keys_of es) → length es ≤ c → lookup_entry is_key es ≡ Some e → put_through c k value (pairs_of es) ≡ []
  none_through c value es e d fits h =
      drop_all c (moved k value (pairs_of es)) (subst (λ (l : Pairs). length ((k, value) ∷ l) ≤ c) (removed es d)
      (omega (arith, fits, shorter es e h, length-pairs (remove_entry is_key es))))

-- ---- a put
fits_all : (c : ℕ) (k value : List ℕ) (rest : List Entry) → length rest + 1 ≤ c → take c ((k, value) ∷ pairs_of rest) ≡ (k, value) ∷ pairs_of rest
fits_all c k value rest le = take_all c ((k, value) ∷ pairs_of rest) (omega (arith, le, length-pairs rest))

pub put_is : (c : Held) (k v : Vec ℕ) → IsDistinct alike (keys_of c.entries) → length c.entries ≤ c.cap → 0 < c.cap →
    pairs_of (put_entries alike c k v) ≡ put_cached c.cap k.items v.items (pairs_of c.entries)
put_is c k v d fits some = by (lookup_entry (alike k) c.entries) refl
  where
    below : (n : ℕ) (l : List Entry) → 0 < n → pairs_of ((k, v) ∷ take (n - 1) l) ≡ take n ((k.items, v.items) ∷ pairs_of l)
    below zero l s = absurd (omega (arith, s))
    below (suc n) l s = let e : suc n - 1 ≡ n = omega arith in rw e (ap (λ (x : Pairs). (k.items, v.items) ∷ x) (sym (take-map pair_of n l)))

    by : (o : Option Entry) → lookup_entry (alike k) c.entries ≡ o →
        pairs_of (option_map_or (λ e. (e.0, v) ∷ remove_entry (alike k) c.entries) (lookup_entry (alike k) c.entries) ((k, v) ∷ take (c.cap - 1) c.entries)) ≡ put_cached c.cap k.items v.items (pairs_of c.entries)
    by None h = rw h (below c.cap c.entries some ∙ ap (λ (l : Pairs). take c.cap ((k.items, v.items) ∷ l)) (sym (none_left k.items c.entries (absent k.items c.entries h))))
    by (Some e) h =
        let same : e.0.items ≡ k.items = sym (same_text k.items e.0.items (sym (found_key k.items c.entries e h))) in
        let rest : List Entry = remove_entry (alike k) c.entries in
        rw h (ap (λ (l : List ℕ). (l, v.items) ∷ pairs_of rest) same
        ∙ (sym (fits_all c.cap k.items v.items rest (omega (arith, fits, shorter k.items c.entries e h)))
        ∙ ap (λ (l : Pairs). take c.cap ((k.items, v.items) ∷ l)) (removed k.items c.entries d)))

-- ---- the last pair
last_of : (es : List Entry) (n : ℕ) (e : Entry) → n + 1 ≡ length es → slice_get es n ≡ Some e → drop n es ≡ e ∷ []
last_of [] n e l h = absurd (omega (arith, l))
last_of (x ∷ []) zero e l h = let same : x ≡ e = cc in ap (λ (y : Entry). y ∷ []) same
last_of (x ∷ y ∷ es) zero e l h = absurd (omega (arith, l))
last_of (x ∷ es) (suc n) e l h = last_of es n e (omega (arith, l)) h

-- where there is room for one more, nothing is to be written
pub room_left : (c : ℕ) (es : List Entry) → length es < c → drop (c - 1) (pairs_of es) ≡ []
room_left c es lt = drop_all (c - 1) (pairs_of es) (omega (arith, lt, length-pairs es))

pub last_dropped : (c : ℕ) (es : List Entry) (e : Entry) → c ≤ length es → length es ≤ c → 0 < c → last_entry es ≡ Some e → drop (c - 1) (pairs_of es) ≡ (e.0.items, e.1.items) ∷ []
last_dropped c es e low high some h =
    let at : length es - 1 ≡ c - 1 = omega (arith, low, high) in
    drop-map pair_of (c - 1) es
    ∙ ap pairs_of (last_of es (c - 1) e (omega (arith, low, high, some)) (ap (slice_get es) (sym at) ∙ h))

pub none_last : (es : List Entry) → last_entry es ≡ None → es ≡ []
none_last [] h = refl
none_last (x ∷ es) h = absurd (there (x ∷ es) (length (x ∷ es) - 1) (omega arith) h)
  where
    there : (l : List Entry) (n : ℕ) → n < length l → slice_get l n ≡ None → ⊥
    there [] n lt g = omega (arith, lt)
    there (y ∷ l) zero lt g = absurd cc
    there (y ∷ l) (suc n) lt g = there l n (omega (arith, lt)) g

cut : {A : Type 0} (n : ℕ) (l : List A) → take n l ++ drop n l ≡ l
cut zero l = refl
cut (suc n) [] = refl
cut (suc n) (x ∷ l) = ap (λ k. x ∷ k) (cut n l)

some_last : (es : List Entry) (e : Entry) → last_entry es ≡ Some e → 0 < length es
some_last [] e h = absurd cc
some_last (x ∷ es) e h = omega arith

-- writing the last pair through leaves the map
pub last_written : (es : List Entry) (e : Entry) (m : Store) → last_entry es ≡ Some e →
    overlaid (pairs_of (take (length es - 1) es)) (fin.insert m e.0.items e.1.items) ≡ overlaid (pairs_of es) m
last_written es e m h =
    let n : ℕ = length es - 1 in
    let front : pairs_of (take n es) ≡ take n (pairs_of es) = sym (take-map pair_of n es) in
    let back : drop n (pairs_of es) ≡ (e.0.items, e.1.items) ∷ [] = drop-map pair_of n es ∙ ap pairs_of (last_of es n e (omega (arith, some_last es e h)) h) in
    ap (λ (l : Pairs). overlaid l (fin.insert m e.0.items e.1.items)) front
    ∙ (sym (last_over (take n (pairs_of es)) (e.0.items, e.1.items) m)
    ∙ ap (λ (l : Pairs). overlaid l m) (ap (λ (l : Pairs). take n (pairs_of es) ++ l) (sym back) ∙ cut n (pairs_of es)))

pub one_less : (es : List Entry) (e : Entry) → last_entry es ≡ Some e → length (take (length es - 1) es) + 1 ≡ length es
one_less es e h = by (length es - 1) es (omega (arith, some_last es e h))
  where
    by : (n : ℕ) (l : List Entry) → n + 1 ≡ length l → length (take n l) + 1 ≡ length l
    by n [] g = absurd (omega (arith, g))
    by zero (x ∷ l) g = g
    by (suc n) (x ∷ l) g = omega (arith, by n l (omega (arith, g)))

-- ---- making room for a key
pub through_there : (c : ℕ) (k value : List ℕ) (es : List Entry) (v : List ℕ) → IsDistinct alike (keys_of es) → length es ≤ c → find by_bytes k (pairs_of es) ≡ Some v → put_through c k value (pairs_of es) ≡ []
through_there c k value es v d fits h = by (lookup_entry (is_key k) es) refl
  where
    nothing : (l : List Entry) → AllByRecursion (λ y. is_key k y ≡ false) (keys_of l) → lookup (is_key k) l ≡ None
    nothing [] a = refl
    nothing (x ∷ l) a = ap (λ b. cond b (Some x.1) (lookup (is_key k) l)) a.0 ∙ nothing l a.1

    by : (o : Option Entry) → lookup_entry (is_key k) es ≡ o → put_through c k value (pairs_of es) ≡ []
    by (Some e) g = none_through k c value es e d fits g
    by None g = let no : find by_bytes k (pairs_of es) ≡ None = find_pairs k es ∙ ap (option_map (λ (x : Vec ℕ). x.items)) (nothing es (absent k es g)) in absurd cc

stays : (k : List ℕ) (l : Pairs) → find by_bytes k l ≡ None → without k l ≡ l
stays k [] g = refl
stays k (x ∷ l) g = by (eq_by_cmp by_bytes k x.0) refl (λ f. stays k l f)
  where
    by : (b : Bool) → eq_by_cmp by_bytes k x.0 ≡ b → (find by_bytes k l ≡ None → without k l ≡ l) → cond (not (eq_by_cmp by_bytes k x.0)) (x ∷ without k l) (without k l) ≡ x ∷ l
    by true t m = let f = rw t at g in absurd cc
    by false t m = rw t (ap (λ (y : Pairs). x ∷ y) (m (rw t at g)))

pub through_absent : (c : ℕ) (k value : List ℕ) (es : List Entry) → 0 < c → find by_bytes k (pairs_of es) ≡ None → put_through c k value (pairs_of es) ≡ drop (c - 1) (pairs_of es)
through_absent c k value es some h = ap (λ (l : Pairs). drop c ((k, value) ∷ l)) (stays k (pairs_of es) h) ∙ below c (pairs_of es) some
  where
    below : (n : ℕ) (l : Pairs) → 0 < n → drop n ((k, value) ∷ l) ≡ drop (n - 1) l
    below zero l s = absurd (omega (arith, s))
    below (suc n) l s = let e : suc n - 1 ≡ n = omega arith in rw e refl

-- what was written through stays under it
pub under_again : (n : ℕ) (es : Pairs) (m : Store) → overlaid es (overlaid (drop n es) m) ≡ overlaid es m
under_again n es m =
    ap (λ (l : Pairs). overlaid l (overlaid (drop n es) m)) (sym (cut n es))
    ∙ (again_over (take n es) (drop n es) m ∙ ap (λ (l : Pairs). overlaid l m) (cut n es))

-- ---- what search is told of a look-up
pub there_some : (o : Option (Bor (List ℕ))) (f : Option (List ℕ)) → option_map (λ (v : Bor (List ℕ)). v.now) o ≡ f → is_some o ≡ true → (v : List ℕ) × (f ≡ Some v)
there_some (Some r) f e h = (r.now, sym e)
there_some None f e h = absurd cc

pub there_none : (o : Option (Bor (List ℕ))) (f : Option (List ℕ)) → option_map (λ (v : Bor (List ℕ)). v.now) o ≡ f → is_some o ≡ false → f ≡ None
there_none (Some r) f e h = absurd cc
there_none None f e h = sym e

pub is_there : (o : Option (Bor (List ℕ))) (f : Option (List ℕ)) → option_map (λ (v : Bor (List ℕ)). v.now) o ≡ f → is_some o ≡ is_some f
is_there (Some r) f e = ap is_some e
is_there None f e = ap is_some e

pub either : {A E P Q R : Type 0} (r : Result A E) → OnOk r P → OnErr r Q → (P → R) → (Q → R) → R
either (Ok x) p q f g = f p
either (Err e) p q f g = g q

-- ---- all are bytes
pub bytes_take : (n : ℕ) (es : Pairs) → ArePairs es → ArePairs (take n es)
bytes_take zero es h = tt
bytes_take (suc n) [] h = tt
bytes_take (suc n) (e ∷ es) h = (h.0, bytes_take n es h.1)
