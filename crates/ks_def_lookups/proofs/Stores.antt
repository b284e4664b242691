-- What is found in a map that is read from bytes, by the bytes of a key.
use Rattle.std.proofs.Common.{◌≡◌, ℕ, Bool, true, false, cond, List, [], ◌∷◌, Option, Some, None, refl, sym, ap, ap₂, ◌∙◌}
use Rattle.std.specs.Ordering.{eq_by_cmp, is_eq}
use Rattle.std.specs.Cmp.{tied_itself}
use Rattle.std.specs.Cmp.Lexicographic.{nat_list_cmp_total}
use Rattle.std.specs.FinMap.{IsAntisymmetric, slice_cmp-IsAntisymmetric, nat_cmp-IsAntisymmetric}
use Rattle.ks_record.specs.Texts.{IsKey, key_from}
use Rattle.ks_row.specs.Reading.{◌>>=◌}
use Rattle.ks_row.proofs.Spelled.{key_takes}
use Rattle.ks_wire.specs.Spelling.{subscription_key}
use Rattle.ks_wire.specs.Reading.{subscriber_from, subscription_key_from}
use Rattle.ks_wire.proofs.Wired.{subscription_key_codec}
use Rattle.ks_expr.specs.Eval.{same_bytes}
use Rattle.ks_plan.specs.Plan.{is_windowed}
use Rattle.ks_plan.specs.Layout.{kind_at, number_of}
use Rattle.ks_plan.specs.declared.node.Topic.TheVariants.{Changelog, HashChangelog}
use Rattle.ks_def_runs.specs.FinMap as fin
use Rattle.ks_def_runs.specs.FinMap.{FinMap}
use Rattle.ks_def_runs.specs.Bytes.{by_bytes, Store as ByteStore}
use Rattle.ks_query.specs.Streams.{Key}
use Rattle.ks_def_tasks.specs.Bytes.{is_own, stored_from, store_from, map_from, left_at, hashes_from}
use Rattle.ks_def_tasks.specs.Laws.{AreBytes}
use Rattle.ks_def_tasks.proofs.Same.{bytes-is}
use Rattle.ks_def_tasks.proofs.Shown.{Alone, get-read, over_here}
use Rattle.ks_def_lookups.specs.Kept.{kept_under}
use Rattle.ks_def_lookups.proofs.KeptDecoded.{kept_is_decoded}
use Rattle.ks_def_lookups.specs.Stores.{StoresAreLookedUp}

bytes_anti : IsAntisymmetric by_bytes
bytes_anti = slice_cmp-IsAntisymmetric nat_cmp-IsAntisymmetric

bytes_itself : (k : List ℕ) → same_bytes k k ≡ true
bytes_itself k = ap is_eq (tied_itself nat_list_cmp_total k)

-- ---- a map that is read from pairs, at a key whose bytes no other key has
module _ {X : Type 0} (readk : List ℕ → Option Key) (read : List ℕ → Option X) (k : Key) (b : List ℕ) (e : readk b ≡ Some k) (m : ByteStore) (alone : Alone by_bytes nat_list_cmp_total bytes_anti readk read k b (fin.entries m)) where
  by_value : (v : List ℕ) → fin.get m b ≡ Some v → (u : Option X) → read v ≡ u → fin.get (map_from by_bytes readk read (fin.entries m)) k ≡ u
  by_value v named None f =
      rw (named, e, f) at (get-read by_bytes nat_list_cmp_total bytes_anti readk read (fin.entries m) k ∙ over_here by_bytes nat_list_cmp_total bytes_anti readk read k b m alone)
  by_value v named (Some x) f =
      let itself : eq_by_cmp by_bytes k k ≡ true = ap is_eq (tied_itself nat_list_cmp_total k) in
      rw (named, e, f, itself) at (get-read by_bytes nat_list_cmp_total bytes_anti readk read (fin.entries m) k ∙ over_here by_bytes nat_list_cmp_total bytes_anti readk read k b m alone)

  by_found : (v : Option (List ℕ)) → fin.get m b ≡ v → fin.get (map_from by_bytes readk read (fin.entries m)) k ≡ (v >>= read)
  by_found None named =
      rw named at (get-read by_bytes nat_list_cmp_total bytes_anti readk read (fin.entries m) k ∙ over_here by_bytes nat_list_cmp_total bytes_anti readk read k b m alone)
  by_found (Some v) named = by_value v named (read v) refl

at_key : {X : Type 0} (readk : List ℕ → Option Key) (read : List ℕ → Option X) (k : Key) (b : List ℕ) (m : ByteStore) → readk b ≡ Some k → Alone by_bytes nat_list_cmp_total bytes_anti readk read k b (fin.entries m) →
    fin.get (map_from by_bytes readk read (fin.entries m)) k ≡ (fin.get m b >>= read)
at_key readk read k b m e alone = by_found readk read k b e m alone (fin.get m b) refl

-- ---- tables: a key is its own bytes
keys_alone : {X : Type 0} (read : List ℕ → Option X) (k : Key) (es : List (List ℕ × List ℕ)) → Alone by_bytes nat_list_cmp_total bytes_anti key_from read k k es
keys_alone read k [] = tt
keys_alone read k (e ∷ es) = (λ c f tied. (key_takes e.0 c f).0 ∙ sym (bytes-is k c tied), keys_alone read k es)

-- ---- hashes: a foreign key and a left key have one spelling
left-is : (b : Key) (d : Option (Key × Key)) (f : Key) → left_at b d ≡ Some f → d ≡ Some (b, f)
left-is b None f e = absurd cc
left-is b (Some x) f e = by (same_bytes b x.0) refl e
  where
    by : (t : Bool) → same_bytes b x.0 ≡ t → cond t (Some x.1) None ≡ Some f → Some x ≡ Some (b, f)
    by true t g =
        let first : b ≡ x.0 = bytes-is b x.0 t in
        let second : x.1 ≡ f = cc in
        ap (λ y. Some y) (ap₂ (λ y z. (y, z)) (sym first) second)
    by false t g = absurd cc

hashes_alone : (b k : Key) (es : List (List ℕ × List ℕ)) → AreBytes es → Alone by_bytes nat_list_cmp_total bytes_anti (λ c. left_at b (subscription_key_from c)) subscriber_from k (subscription_key b k) es
hashes_alone b k [] h = tt
hashes_alone b k (e ∷ es) h = (
  λ g read tied.
      let same : k ≡ g = bytes-is k g tied in
      (subscription_key_codec.back e.0 (b, g) h.0 (left-is b (subscription_key_from e.0) g read)).1 ∙ ap (subscription_key b) (sym same),
  hashes_alone b k es h.1,
)

empty_at : {X : Type 0} (k : Key) → fin.get (fin.empty {X = X} {R = by_bytes}) k ≡ None
empty_at k = fin.get-empty by_bytes k

no_entries : {X : Type 0} → fin.entries (fin.empty {X = X} {R = by_bytes}) ≡ []
unfolding fin.entries fin.empty
no_entries = refl

pub stores_are_looked_up : StoresAreLookedUp
stores_are_looked_up p sub stores = record { tables = tables; hashes = hashes; kept = kept }
  where
    tables : (n : ℕ) (k : Key) → key_from k ≡ Some k → fin.get ((store_from p sub stores).tables n) k
        ≡ cond (is_windowed (kind_at p n)) None (cond (is_own p sub (Changelog n)) (fin.get (stores (number_of p (Changelog n))) k >>= stored_from (kind_at p n)) None)
    tables n k valid = by (is_windowed (kind_at p n)) (is_own p sub (Changelog n))
      where
        by : (w o : Bool) → fin.get (cond w fin.empty (map_from by_bytes key_from (stored_from (kind_at p n)) (cond o (fin.entries (stores (number_of p (Changelog n)))) []))) k
            ≡ cond w None (cond o (fin.get (stores (number_of p (Changelog n))) k >>= stored_from (kind_at p n)) None)
        by true o = empty_at k
        by false true = at_key key_from (stored_from (kind_at p n)) k k (stores (number_of p (Changelog n))) valid (keys_alone (stored_from (kind_at p n)) k (fin.entries (stores (number_of p (Changelog n)))))
        by false false = empty_at k

    hashes : (n : ℕ) → AreBytes (fin.entries (stores (number_of p (HashChangelog n)))) → (b k : Key) → IsKey b → IsKey k → fin.get ((store_from p sub stores).hashes n b) k
        ≡ cond (is_own p sub (HashChangelog n)) (fin.get (stores (number_of p (HashChangelog n))) (subscription_key b k) >>= subscriber_from) None
    hashes n bytes b k vb vk = by (is_own p sub (HashChangelog n))
      where
        again : left_at b (subscription_key_from (subscription_key b k)) ≡ Some k
        again = ap (left_at b) (subscription_key_codec.again (b, k) (vb, vk)) ∙ ap (λ t. cond t (Some k) None) (bytes_itself b)

        by : (o : Bool) → fin.get (map_from by_bytes (λ c. left_at b (subscription_key_from c)) subscriber_from (cond o (fin.entries (stores (number_of p (HashChangelog n)))) [])) k
            ≡ cond o (fin.get (stores (number_of p (HashChangelog n))) (subscription_key b k) >>= subscriber_from) None
        by true = at_key (λ c. left_at b (subscription_key_from c)) subscriber_from k (subscription_key b k) (stores (number_of p (HashChangelog n))) again (hashes_alone b k (fin.entries (stores (number_of p (HashChangelog n)))) bytes)
        by false = empty_at k

    kept : (n : ℕ) → AreBytes (fin.entries (stores (number_of p (HashChangelog n)))) → (b : Key) → IsKey b → fin.entries ((store_from p sub stores).hashes n b)
        ≡ cond (is_own p sub (HashChangelog n)) (kept_under b (stores (number_of p (HashChangelog n)))) []
    kept n bytes b vb = by (is_own p sub (HashChangelog n)) refl
      where
        by : (o : Bool) → is_own p sub (HashChangelog n) ≡ o → fin.entries (hashes_from p sub stores n b) ≡ cond o (kept_under b (stores (number_of p (HashChangelog n)))) []
        by true e = sym (kept_is_decoded p sub stores n e bytes b vb)
        by false e = ap (λ o. fin.entries (map_from by_bytes (λ c. left_at b (subscription_key_from c)) subscriber_from (cond o (fin.entries (stores (number_of p (HashChangelog n)))) []))) e ∙ no_entries
