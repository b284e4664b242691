-- What records leave of a map, by what is found at each key.
use Rattle.std.proofs.Common.{◌≡◌, ℕ, zero, suc, ◌+◌, ◌-◌, ◌≤◌, ◌<◌, Bool, true, false, cond, not, List, [], ◌∷◌, ◌++◌, length, get_or, take, Option, Some, None, refl, sym, ap, ap₂, subst, ◌∙◌, arith}
use Rattle.std.specs.Prelude.{is_some, option_copied}
use Rattle.std.specs.List.{filter}
use denote.Ref.{Bor}
use Rattle.std.specs.Ordering.{eq_by_cmp}
use Rattle.std.specs.FinMap.{IsAntisymmetric, slice_cmp-IsAntisymmetric, nat_cmp-IsAntisymmetric}
use Rattle.std.specs.FinMap.Entries.{where_key, length_without}
use Rattle.std.proofs.lemmas.Bool.{true≢false}
use Rattle.std.proofs.lemmas.Cmp.{nat_list_cmp_total}
use Rattle.std.proofs.lemmas.List.{take_more, get_or-map, length-map, map-append}
use Rattle.ks_record.specs.Bytes.{IsBytes}
use Rattle.ks_record.specs.Records.{Record as Rec, bytes_or_none}
use Rattle.ks_def_runs.specs.Bytes.{Store, by_bytes, empty_store}
use Rattle.ks_def_runs.specs.FinMap as fin
use Rattle.ks_def_runs.specs.Pairs.{ArePairs}
use Rattle.ks_def_runs.proofs.Tables.{get-write}
use Rattle.ks_history.specs.Machine.{applied, latest_from}
use Rattle.ks_store.specs.Restored.{records_of}
use Rattle.ks_store.proofs.Applied.{latest_from-append}
use Rattle.ks_store.proofs.Tables.{same_key}
use Rattle.ks_store.proofs.Trees.{bytes_put, bytes_where}
use Rattle.ks_restoring.specs.Waiting.{has_key, without, IsOfBytes, AreOfBytes}

bytes_anti : IsAntisymmetric by_bytes
bytes_anti = slice_cmp-IsAntisymmetric nat_cmp-IsAntisymmetric

-- two maps in which the same is found are one
pub one_map : (m n : Store) → ((q : List ℕ) → fin.get m q ≡ fin.get n q) → m ≡ n
one_map m n same = fin.same_map nat_list_cmp_total bytes_anti m n same

-- ---- what is found
pub get_applied : (m : Store) (key value : Option (List ℕ)) (q : List ℕ) → fin.get (applied m key value) q ≡ cond (has_key q key) value (fin.get m q)
get_applied m None value q = refl
get_applied m (Some k) value q = get-write nat_list_cmp_total m k value q

-- the last value of a key, or what was found before
abbrev pub found_by : List ℕ → List Rec → Option (List ℕ) → Option (List ℕ)
found_by q [] o = o
found_by q (r ∷ rs) o = found_by q rs (cond (has_key q r.key) r.value o)

pub get_latest : (m : Store) (rs : List Rec) (q : List ℕ) → fin.get (latest_from m rs) q ≡ found_by q rs (fin.get m q)
get_latest m [] q = refl
get_latest m (r ∷ rs) q = get_latest (applied m r.key r.value) rs q ∙ ap (found_by q rs) (get_applied m r.key r.value q)

-- ---- records with their offsets
pub records_of-append : (recs more : List (ℕ × Rec)) → records_of (recs ++ more) ≡ records_of recs ++ records_of more
records_of-append recs more = simp map-append

pub length-records_of : (recs : List (ℕ × Rec)) → length (records_of recs) ≡ length recs
length-records_of recs = simp length-map

-- the record at a place
pub record_at : (recs : List (ℕ × Rec)) (i : ℕ) (x : ℕ × Rec) → i < length recs → x ≡ get_or recs i x → (i < length (records_of recs)) × (x.1 ≡ get_or (records_of recs) i x.1)
record_at recs i x lt is = (omega (arith, lt, length-records_of recs), sym (get_or-map (λ (r : ℕ × Rec). r.1) recs i x x.1 lt ∙ ap (λ (r : ℕ × Rec). r.1) (sym is)))

pub records_of-take : (recs : List (ℕ × Rec)) (i : ℕ) → records_of (take i recs) ≡ take i (records_of recs)
records_of-take recs zero = refl
records_of-take [] (suc i) = refl
records_of-take (r ∷ recs) (suc i) = ap (λ rs. r.1 ∷ rs) (records_of-take recs i)

pub records_of-filter : (keeps : Rec → Bool) (recs : List (ℕ × Rec)) → records_of (filter (λ (r : ℕ × Rec). keeps r.1) recs) ≡ filter keeps (records_of recs)
records_of-filter keeps [] = refl
records_of-filter keeps (r ∷ recs) = by (keeps r.1) (records_of-filter keeps recs)
  where
    by : (b : Bool) → records_of (filter (λ (r : ℕ × Rec). keeps r.1) recs) ≡ filter keeps (records_of recs) →
        records_of (cond b (r ∷ filter (λ (r : ℕ × Rec). keeps r.1) recs) (filter (λ (r : ℕ × Rec). keeps r.1) recs)) ≡ cond b (r.1 ∷ filter keeps (records_of recs)) (filter keeps (records_of recs))
    by true e = ap (λ rs. r.1 ∷ rs) e
    by false e = e

-- ---- one more record
pub next_taken : (recs : List Rec) (i : ℕ) (x : Rec) → i < length recs → x ≡ get_or recs i x → take (i + 1) recs ≡ take i recs ++ x ∷ []
next_taken recs i x lt is = take_more recs i x lt ∙ ap (λ (r : Rec). take i recs ++ r ∷ []) (sym is)

pub one_more : (m n new : Store) (recs : List Rec) (i : ℕ) (x : Rec) → i < length recs → x ≡ get_or recs i x → n ≡ latest_from m (take i recs) → new ≡ applied n x.key x.value → new ≡ latest_from m (take (i + 1) recs)
one_more m n new recs i x lt is so_far e =
    e ∙ (ap (λ (s : Store). applied s x.key x.value) so_far ∙ (sym (latest_from-append m (take i recs) (x ∷ [])) ∙ ap (latest_from m) (sym (next_taken recs i x lt is))))

-- what is found at a key after one more
pub found_more : (m : Store) (recs : List Rec) (i : ℕ) (x : Rec) (q : List ℕ) (o : Option (List ℕ)) → i < length recs → x ≡ get_or recs i x → o ≡ fin.get (latest_from m (take i recs)) q →
    cond (has_key q x.key) x.value o ≡ fin.get (latest_from m (take (i + 1) recs)) q
found_more m recs i x q o lt is so_far =
    ap (cond (has_key q x.key) x.value) so_far
    ∙ (sym (get_applied (latest_from m (take i recs)) x.key x.value q)
    ∙ ap (λ (s : Store). fin.get s q) (one_more m (latest_from m (take i recs)) (applied (latest_from m (take i recs)) x.key x.value) recs i x lt is refl refl))

-- ---- the first of them once more
found_again : (q : List ℕ) (n : ℕ) (rs : List Rec) (o : Option (List ℕ)) → found_by q rs (found_by q (take n rs) o) ≡ found_by q rs o
found_again q zero rs o = refl
found_again q (suc n) [] o = refl
found_again q (suc n) (r ∷ rs) o = by (has_key q r.key) (found_again q n rs o)
  where
    by : (b : Bool) → found_by q rs (found_by q (take n rs) o) ≡ found_by q rs o → found_by q rs (cond b r.value (found_by q (take n rs) (cond b r.value o))) ≡ found_by q rs (cond b r.value o)
    by true h = refl
    by false h = h

pub again : (m : Store) (n : ℕ) (rs : List Rec) → latest_from (latest_from m (take n rs)) rs ≡ latest_from m rs
again m n rs = one_map _ _ (λ q. get_latest (latest_from m (take n rs)) rs q ∙ (ap (found_by q rs) (get_latest m (take n rs) q) ∙ (found_again q n rs (fin.get m q) ∙ sym (get_latest m rs q))))

pub stopped : (m new : Store) (n : ℕ) (rs : List Rec) → new ≡ latest_from m (take n rs) → latest_from new rs ≡ latest_from m rs
stopped m new n rs e = ap (λ (s : Store). latest_from s rs) e ∙ again m n rs

-- ---- without a key
apart : (q key : List ℕ) (own : Option (List ℕ)) → eq_by_cmp by_bytes q key ≡ false → has_key key own ≡ true → has_key q own ≡ false
apart q key None e h = absurd (true≢false (sym h))
apart q key (Some own) e h = ap (λ (k : List ℕ). eq_by_cmp by_bytes q k) (sym (same_key key own h)) ∙ e

others : (q key : List ℕ) (rs : List Rec) (o : Option (List ℕ)) → eq_by_cmp by_bytes q key ≡ false → found_by q (without key rs) o ≡ found_by q rs o
others q key [] o e = refl
others q key (r ∷ rs) o e = by (has_key key r.key) refl (λ p. others q key rs p e)
  where
    by : (b : Bool) → has_key key r.key ≡ b → ((p : Option (List ℕ)) → found_by q (without key rs) p ≡ found_by q rs p) →
        found_by q (cond (not b) (r ∷ without key rs) (without key rs)) o ≡ found_by q rs (cond (has_key q r.key) r.value o)
    by true h more = more o ∙ ap (λ b. found_by q rs (cond b r.value o)) (sym (apart q key r.key e h))
    by false h more = more (cond (has_key q r.key) r.value o)

none_of : (key : List ℕ) (rs : List Rec) → found_by key (without key rs) None ≡ None
none_of key [] = refl
none_of key (r ∷ rs) = by (has_key key r.key) refl (none_of key rs)
  where
    by : (b : Bool) → has_key key r.key ≡ b → found_by key (without key rs) None ≡ None → found_by key (cond (not b) (r ∷ without key rs) (without key rs)) None ≡ None
    by true h more = more
    by false h more = ap (λ b. found_by key (without key rs) (cond b r.value None)) h ∙ more

pub taken_out : (m : Store) (key : List ℕ) (rs : List Rec) → latest_from (fin.remove m key) (without key rs) ≡ fin.remove (latest_from m rs) key
taken_out m key rs = one_map _ _ (λ q. get_latest (fin.remove m key) (without key rs) q ∙ (ap (found_by q (without key rs)) (fin.get-remove nat_list_cmp_total m key q)
    ∙ (by q (eq_by_cmp by_bytes q key) refl ∙ sym (fin.get-remove nat_list_cmp_total (latest_from m rs) key q))))
  where
    by : (q : List ℕ) (b : Bool) → eq_by_cmp by_bytes q key ≡ b → found_by q (without key rs) (cond b None (fin.get m q)) ≡ cond b None (fin.get (latest_from m rs) q)
    by q true e = ap (λ (k : List ℕ). found_by k (without key rs) None) (same_key q key e) ∙ none_of key rs
    by q false e = others q key rs (fin.get m q) e ∙ sym (get_latest m rs q)

-- ---- how many keys there are
pub len_removed : (m : Store) (key : List ℕ) → fin.len (fin.remove m key) ≤ fin.len m
len_removed m key = by (is_some (fin.get m key)) (fin.len m) (fin.len (fin.remove m key)) (fin.len-remove nat_list_cmp_total m key)
  where
    by : (b : Bool) (old new : ℕ) → new ≡ cond b (old - 1) old → new ≤ old
    by true old new e = omega (arith, e)
    by false old new e = omega (arith, e)

len_before_remove : (m : Store) (k : List ℕ) → cond (is_some (fin.get m k)) 1 0 + fin.len (fin.remove m k) ≡ fin.len m
unfolding fin.len fin.get fin.remove
len_before_remove m k =
    ap (λ (es : List (List ℕ × List ℕ)). cond (is_some (fin.get m k)) 1 0 + length es) (fin.entries-retain_keys m (λ x. not (eq_by_cmp by_bytes k x)))
    ∙ length_without by_bytes nat_list_cmp_total k (fin.entries m) (fin.entries_sorted m)

-- a record with a key and a value sets it, and one without a value takes it away
pub len_changed : (m : Store) (k : List ℕ) (value : Option (List ℕ)) →
    fin.len (applied m (Some k) value) + cond (is_some value) 0 (cond (is_some (fin.get m k)) 1 0) ≡ fin.len m + cond (is_some value) (cond (is_some (fin.get m k)) 0 1) 0
len_changed m k (Some v) = by (is_some (fin.get m k)) (fin.len m) (fin.len (fin.insert m k v)) (fin.len-insert nat_list_cmp_total m k v)
  where
    by : (b : Bool) (old new : ℕ) → new ≡ cond b old (old + 1) → new + 0 ≡ old + cond b 0 1
    by true old new e = omega (arith, e)
    by false old new e = omega (arith, e)
len_changed m k None = by (is_some (fin.get m k)) (fin.len m) (fin.len (fin.remove m k)) (len_before_remove m k)
  where
    by : (b : Bool) (old new : ℕ) → cond b 1 0 + new ≡ old → new + cond b 1 0 ≡ old + 0
    by true old new e = omega (arith, e)
    by false old new e = omega (arith, e)

len_applied : (m : Store) (key value : Option (List ℕ)) → fin.len (applied m key value) ≤ fin.len m + 1
len_applied m None value = omega arith
len_applied m (Some k) value = by (is_some value) (is_some (fin.get m k)) (fin.len m) (fin.len (applied m (Some k) value)) (len_changed m k value)
  where
    by : (a b : Bool) (old new : ℕ) → new + cond a 0 (cond b 1 0) ≡ old + cond a (cond b 0 1) 0 → new ≤ old + 1
    by true true old new e = omega (arith, e)
    by true false old new e = omega (arith, e)
    by false true old new e = omega (arith, e)
    by false false old new e = omega (arith, e)

-- more of them wait
len_latest : (m : Store) (rs : List Rec) → fin.len (latest_from m rs) ≤ fin.len m + length rs
len_latest m [] = omega arith
len_latest m (r ∷ rs) = omega (arith, len_latest (applied m r.key r.value) rs, len_applied m r.key r.value)

pub waits_more : (table old : Store) (recs new more : List (ℕ × Rec)) → latest_from table (records_of recs) ≡ old → new ≡ recs ++ more → latest_from table (records_of new) ≡ latest_from old (records_of more)
waits_more table old recs new more is longer =
    ap (λ l. latest_from table (records_of l)) longer
    ∙ (ap (latest_from table) (records_of-append recs more)
    ∙ (latest_from-append table (records_of recs) (records_of more) ∙ ap (λ (s : Store). latest_from s (records_of more)) is))

pub bounded_more : (table : Store) (recs new more : List (ℕ × Rec)) (most bound : ℕ) → fin.len (latest_from table (records_of recs)) ≤ most → new ≡ recs ++ more → bound ≡ most + length more → fin.len (latest_from table (records_of new)) ≤ bound
bounded_more table recs new more most bound le longer e =
    subst (λ (s : Store). fin.len s ≤ bound) (sym (waits_more table (latest_from table (records_of recs)) recs new more refl longer))
    (omega (arith, le, e, len_latest (latest_from table (records_of recs)) (records_of more), length-records_of more))

-- one is taken away
pub bounded_less : (m n : Store) (key : List ℕ) (most : ℕ) → fin.len m ≤ most → n ≡ fin.remove m key → fin.len n ≤ most
bounded_less m n key most le e = subst (λ (s : Store). fin.len s ≤ most) (sym e) (omega (arith, le, len_removed m key))

-- ---- all are bytes
pub of_bytes_more : (rs : List Rec) (r : Rec) → AreOfBytes rs → IsOfBytes r → AreOfBytes (rs ++ r ∷ [])
of_bytes_more [] r h one = (one, tt)
of_bytes_more (x ∷ rs) r h one = (h.0, of_bytes_more rs r h.1 one)

entries_removed : (m : Store) (key : List ℕ) → fin.entries (fin.remove m key) ≡ where_key by_bytes (λ k. not (eq_by_cmp by_bytes key k)) (fin.entries m)
unfolding fin.remove
entries_removed m key = fin.entries-retain_keys m (λ k. not (eq_by_cmp by_bytes key k))

bytes_applied : (m : Store) (key value : Option (List ℕ)) → IsBytes (bytes_or_none key) → IsBytes (bytes_or_none value) → ArePairs (fin.entries m) → ArePairs (fin.entries (applied m key value))
bytes_applied m None value g h all = all
bytes_applied m (Some k) None g h all = subst ArePairs (sym (entries_removed m k)) (bytes_where (λ x. not (eq_by_cmp by_bytes k x)) (fin.entries m) all)
bytes_applied m (Some k) (Some v) g h all = subst ArePairs (sym (fin.entries-insert nat_list_cmp_total m k v)) (bytes_put k v (fin.entries m) (g, h) all)

pub bytes_latest : (m : Store) (rs : List Rec) → AreOfBytes rs → ArePairs (fin.entries m) → ArePairs (fin.entries (latest_from m rs))
bytes_latest m [] h all = all
bytes_latest m (r ∷ rs) h all = bytes_latest (applied m r.key r.value) rs h.1 (bytes_applied m r.key r.value h.0.0 h.0.1 all)

-- ---- nothing waits any more
pub put_last : (m before after : Store) (rs : List Rec) (key value : List ℕ) → latest_from before rs ≡ m → rs ≡ [] → after ≡ fin.insert before key value → latest_from after rs ≡ fin.insert m key value
put_last m before after rs key value same none put =
    ap (latest_from after) none ∙ (put ∙ ap (λ (s : Store). fin.insert s key value) (sym (ap (latest_from before) none) ∙ same))

pub own_bound : (table : Store) (rs : List Rec) (most : ℕ) → rs ≡ [] → most ≡ fin.len table → fin.len (latest_from table rs) ≤ most
own_bound table rs most none e = subst (λ (xs : List Rec). fin.len (latest_from table xs) ≤ most) (sym none) (omega (arith, e))

pub new_bound : (table : Store) (rs : List Rec) → table ≡ empty_store → rs ≡ [] → fin.len (latest_from table rs) ≤ 0
new_bound table rs e none = own_bound table rs 0 none (sym (ap (λ (s : Store). fin.len s) e ∙ fin.len-empty by_bytes (List ℕ)))

-- ---- one change of the number of keys
pub is_there : (o : Option (Bor (List ℕ))) (f : Option (List ℕ)) → option_copied o ≡ f → is_some o ≡ is_some f
is_there (Some r) f e = ap is_some e
is_there None f e = ap is_some e

pub changed_by : (m : Store) (key value : Option (List ℕ)) (k : List ℕ) (has there : Bool) (r : ℕ × ℕ) → Some k ≡ key → has ≡ is_some value → there ≡ is_some (fin.get m k) →
    r ≡ (cond has (cond there 0 1) 0, cond has 0 (cond there 1 0)) → fin.len (applied m key value) + r.1 ≡ fin.len m + r.0
changed_by m key value k has there r is h t e =
    subst (λ (o : Option (List ℕ)). fin.len (applied m o value) + r.1 ≡ fin.len m + r.0) is
    (subst (λ (p : ℕ × ℕ). fin.len (applied m (Some k) value) + p.1 ≡ fin.len m + p.0)
    (sym (e ∙ ap₂ (λ (a b : Bool). (cond a (cond b 0 1) 0, cond a 0 (cond b 1 0))) h t)) (len_changed m k value))

-- the same of a record by another name
pub changed_at : (m : Store) (x y : Rec) (r : ℕ × ℕ) → y ≡ x → fin.len (applied m y.key y.value) + r.1 ≡ fin.len m + r.0 → fin.len (applied m x.key x.value) + r.1 ≡ fin.len m + r.0
changed_at m x y r is e = subst (λ (z : Rec). fin.len (applied m z.key z.value) + r.1 ≡ fin.len m + r.0) is e

pub counted_more : (m : Store) (recs before : List Rec) (i : ℕ) (x : Rec) (r : ℕ × ℕ) (more less : ℕ) → i < length recs → x ≡ get_or recs i x → before ≡ take i recs →
    fin.len (latest_from m (take i recs)) + less ≡ fin.len m + more → fin.len (applied (latest_from m before) x.key x.value) + r.1 ≡ fin.len (latest_from m before) + r.0 →
    fin.len (latest_from m (take (i + 1) recs)) + (less + r.1) ≡ fin.len m + (more + r.0)
counted_more m recs before i x r more less lt is first so_far change =
    let now : fin.len (applied (latest_from m (take i recs)) x.key x.value) + r.1 ≡ fin.len (latest_from m (take i recs)) + r.0 =
    subst (λ (rs : List Rec). fin.len (applied (latest_from m rs) x.key x.value) + r.1 ≡ fin.len (latest_from m rs) + r.0) first change in
    let next : fin.len (latest_from m (take (i + 1) recs)) ≡ fin.len (applied (latest_from m (take i recs)) x.key x.value) =
    ap (λ (s : Store). fin.len s) (sym (one_more m (latest_from m (take i recs)) (applied (latest_from m (take i recs)) x.key x.value) recs i x lt is refl refl)) in
    by (fin.len (latest_from m (take (i + 1) recs))) (fin.len (applied (latest_from m (take i recs)) x.key x.value)) (fin.len (latest_from m (take i recs))) (fin.len m) r.0 r.1 next now so_far
  where
    by : (after here before start up down : ℕ) → after ≡ here → here + down ≡ before + up → before + less ≡ start + more → after + (less + down) ≡ start + (more + up)
    by after here before start up down e f g = omega (arith, e, f, g)
