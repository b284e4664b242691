-- A map with pairs over it, by what is found at each key.
use Rattle.std.proofs.Common.{◌≡◌, ℕ, zero, suc, ◌+◌, ◌-◌, Bool, true, false, cond, not, List, [], ◌∷◌, ◌++◌, take, drop, Option, Some, None, refl, sym, ap, ap₂, subst, ◌∙◌}
use Rattle.std.specs.Prelude.{is_some}
use Rattle.std.specs.Option.{option_or}
use Rattle.std.specs.Ordering.{eq_by_cmp, is_eq}
use Rattle.std.specs.Cmp.{alike_right, eq_by_cmp_equiv}
use Rattle.std.specs.FinMap.{IsAntisymmetric, slice_cmp-IsAntisymmetric, nat_cmp-IsAntisymmetric}
use Rattle.std.specs.FinMap.Entries.{find, find-where_key}
use Rattle.std.proofs.lemmas.Cmp.{nat_list_cmp_total}
use Rattle.ks_def_runs.specs.Bytes.{Store, by_bytes}
use Rattle.ks_def_runs.specs.FinMap as fin
use Rattle.ks_def_runs.specs.Pairs.{ArePairs}
use Rattle.ks_store.proofs.Trees.{bytes_put}
use Rattle.ks_cache.specs.Lists.{Pairs, overlaid, without, moved, put_cached, put_through}

bytes_anti : IsAntisymmetric by_bytes
bytes_anti = slice_cmp-IsAntisymmetric nat_cmp-IsAntisymmetric

-- two maps in which the same is found are one
pub one_map : (m n : Store) → ((q : List ℕ) → fin.get m q ≡ fin.get n q) → m ≡ n
one_map m n same = fin.same_map nat_list_cmp_total bytes_anti m n same

pub get_overlaid : (es : Pairs) (m : Store) (q : List ℕ) → fin.get (overlaid es m) q ≡ option_or (find by_bytes q es) (fin.get m q)
get_overlaid [] m q = refl
get_overlaid (e ∷ es) m q = fin.get-insert nat_list_cmp_total (overlaid es m) e.0 e.1 q ∙ by (eq_by_cmp by_bytes q e.0) (get_overlaid es m q)
  where
    by : (b : Bool) → fin.get (overlaid es m) q ≡ option_or (find by_bytes q es) (fin.get m q) → cond b (Some e.1) (fin.get (overlaid es m) q) ≡ option_or (cond b (Some e.1) (find by_bytes q es)) (fin.get m q)
    by true h = refl
    by false h = h

pub overlaid_twice : (xs ys : Pairs) (m : Store) → overlaid (xs ++ ys) m ≡ overlaid xs (overlaid ys m)
overlaid_twice [] ys m = refl
overlaid_twice (e ∷ xs) ys m = ap (λ (n : Store). fin.insert n e.0 e.1) (overlaid_twice xs ys m)

pub find_without : (key q : List ℕ) (es : Pairs) → find by_bytes q (without key es) ≡ cond (not (eq_by_cmp by_bytes key q)) (find by_bytes q es) None
find_without key q es = find-where_key by_bytes (λ k. not (eq_by_cmp by_bytes key k)) q (λ x t. ap (λ r. not (is_eq r)) (sym (alike_right nat_list_cmp_total q x key t))) es

turned : (a b : List ℕ) → eq_by_cmp by_bytes a b ≡ eq_by_cmp by_bytes b a
turned a b = (eq_by_cmp_equiv nat_list_cmp_total).symm a b

-- ---- a put
pub put_over : (key value : List ℕ) (es : Pairs) (m : Store) → overlaid (moved key value es) m ≡ fin.insert (overlaid es m) key value
put_over key value es m = one_map _ _ (λ q. fin.get-insert nat_list_cmp_total (overlaid (without key es) m) key value q
    ∙ (by q (eq_by_cmp by_bytes q key) refl ∙ sym (fin.get-insert nat_list_cmp_total (overlaid es m) key value q)))
  where
    by : (q : List ℕ) (b : Bool) → eq_by_cmp by_bytes q key ≡ b → cond (eq_by_cmp by_bytes q key) (Some value) (fin.get (overlaid (without key es) m) q) ≡ cond (eq_by_cmp by_bytes q key) (Some value) (fin.get (overlaid es m) q)
    by q true e = rw e refl
    by q false e =
        let kept : find by_bytes q (without key es) ≡ find by_bytes q es = find_without key q es ∙ ap (λ b. cond (not b) (find by_bytes q es) None) (turned key q ∙ e) in
        ap (λ o. cond (eq_by_cmp by_bytes q key) (Some value) o)
        (get_overlaid (without key es) m q ∙ (ap (λ o. option_or o (fin.get m q)) kept ∙ sym (get_overlaid es m q)))

-- what stays over what was written through
pub put_map : (capacity : ℕ) (key value : List ℕ) (es : Pairs) (m : Store) →
    overlaid (put_cached capacity key value es) (overlaid (put_through capacity key value es) m) ≡ fin.insert (overlaid es m) key value
put_map capacity key value es m =
    sym (overlaid_twice (take capacity (moved key value es)) (drop capacity (moved key value es)) m)
    ∙ (ap (λ (l : Pairs). overlaid l m) (whole capacity (moved key value es)) ∙ put_over key value es m)
  where
    whole : (n : ℕ) (l : Pairs) → take n l ++ drop n l ≡ l
    whole zero l = refl
    whole (suc n) [] = refl
    whole (suc n) (x ∷ l) = ap (λ (k : Pairs). x ∷ k) (whole n l)

-- ---- a deletion
pub delete_over : (key : List ℕ) (es : Pairs) (m : Store) → overlaid (without key es) (fin.remove m key) ≡ fin.remove (overlaid es m) key
delete_over key es m = one_map _ _ (λ q. get_overlaid (without key es) (fin.remove m key) q
    ∙ (ap₂ option_or (find_without key q es ∙ ap (λ b. cond (not b) (find by_bytes q es) None) (turned key q)) (fin.get-remove nat_list_cmp_total m key q)
    ∙ (by (eq_by_cmp by_bytes q key) (find by_bytes q es) (fin.get m q) ∙ ap (λ o. cond (eq_by_cmp by_bytes q key) None o) (sym (get_overlaid es m q))
    ∙ sym (fin.get-remove nat_list_cmp_total (overlaid es m) key q))))
  where
    by : (b : Bool) (o p : Option (List ℕ)) → option_or (cond (not b) o None) (cond b None p) ≡ cond b None (option_or o p)
    by true o p = refl
    by false o p = refl

-- ---- writing the last pair through
pub last_over : (es : Pairs) (e : List ℕ × List ℕ) (m : Store) → overlaid (es ++ e ∷ []) m ≡ overlaid es (fin.insert m e.0 e.1)
last_over es e m = overlaid_twice es (e ∷ []) m

find_both : (xs ys : Pairs) (q : List ℕ) → find by_bytes q (xs ++ ys) ≡ option_or (find by_bytes q xs) (find by_bytes q ys)
find_both [] ys q = refl
find_both (x ∷ xs) ys q = one (eq_by_cmp by_bytes q x.0) (find_both xs ys q)
  where
    one : (b : Bool) → find by_bytes q (xs ++ ys) ≡ option_or (find by_bytes q xs) (find by_bytes q ys) → cond b (Some x.1) (find by_bytes q (xs ++ ys)) ≡ option_or (cond b (Some x.1) (find by_bytes q xs)) (find by_bytes q ys)
    one true h = refl
    one false h = h

-- a part of the pairs that was written through already
pub again_over : (xs ys : Pairs) (m : Store) → overlaid (xs ++ ys) (overlaid ys m) ≡ overlaid (xs ++ ys) m
again_over xs ys m = one_map _ _ (λ q. get_overlaid (xs ++ ys) (overlaid ys m) q ∙ (ap (λ o. option_or (find by_bytes q (xs ++ ys)) o) (get_overlaid ys m q)
    ∙ (by (find by_bytes q xs) (find by_bytes q ys) (fin.get m q) (find by_bytes q (xs ++ ys)) (find_both xs ys q) ∙ sym (get_overlaid (xs ++ ys) m q))))
  where
    by : (a b c o : Option (List ℕ)) → o ≡ option_or a b → option_or o (option_or b c) ≡ option_or o c
    by (Some x) b c o e = rw e refl
    by None (Some y) c o e = rw e refl
    by None None c o e = refl

-- ---- what is found
pub found_over : (es : Pairs) (m : Store) (q v : List ℕ) → Some v ≡ find by_bytes q es → Some v ≡ fin.get (overlaid es m) q
found_over es m q v e = sym (get_overlaid es m q ∙ ap (λ o. option_or o (fin.get m q)) (sym e))

pub none_over : (es : Pairs) (m : Store) (q : List ℕ) → None ≡ find by_bytes q es → fin.get m q ≡ fin.get (overlaid es m) q
none_over es m q e = sym (get_overlaid es m q ∙ ap (λ o. option_or o (fin.get m q)) (sym e))

-- ---- how many keys there are
pub counted_off : (m n : Store) (k : List ℕ) (count r : ℕ) (b : Bool) → count ≡ fin.len m → b ≡ is_some (fin.get m k) → r ≡ cond b (count - 1) count → n ≡ fin.remove m k → r ≡ fin.len n
counted_off m n k count r b c e h is =
    h ∙ (ap₂ (λ t x. cond t (x - 1) x) e c ∙ (sym (fin.len-remove nat_list_cmp_total m k) ∙ ap (λ (x : Store). fin.len x) (sym is)))

pub counted_on : (m n : Store) (k v : List ℕ) (count r : ℕ) (b : Bool) → count ≡ fin.len m → b ≡ is_some (fin.get m k) → r ≡ cond b count (count + 1) → n ≡ fin.insert m k v → r ≡ fin.len n
counted_on m n k v count r b c e h is =
    h ∙ (ap₂ (λ t x. cond t x (x + 1)) e c ∙ (sym (fin.len-insert nat_list_cmp_total m k v) ∙ ap (λ (x : Store). fin.len x) (sym is)))

-- ---- all are bytes
pub bytes_over : (es : Pairs) (m : Store) → ArePairs es → ArePairs (fin.entries m) → ArePairs (fin.entries (overlaid es m))
bytes_over [] m h g = g
bytes_over (e ∷ es) m h g = subst ArePairs (sym (fin.entries-insert nat_list_cmp_total (overlaid es m) e.0 e.1)) (bytes_put e.0 e.1 (fin.entries (overlaid es m)) h.0 (bytes_over es m h.1 g))
