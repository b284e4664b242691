-- A table of short keys and one of long keys are the finite map of the rows of both, and the rows of the keys listed under a front are
-- the pairs under it.
use Rattle.std.proofs.Common.{◌≡◌, ℕ, ◌+◌, ◌-◌, Bool, true, false, cond, not, ◌&&◌, T, List, [], ◌∷◌, ◌++◌, length, get_or, take, ◌<◌, ◌≤◌, Option, Some, None, refl, sym, ap, ap₂, subst, ◌∙◌, arith, append-nil}
use Rattle.std.specs.Prelude.{is_some, IsSome, ◌==◌, nat_le, Result, Ok, Err, IfOk, OnOk, OnErr}
use Rattle.std.specs.Bool.{nat_eq}
use Rattle.std.specs.Global.{Vec}
use Rattle.std.specs.declared.alloc.AllocError.{AllocError}
use Rattle.std.specs.declared.cmp.Ordering.{Ordering}
use Rattle.std.specs.declared.cmp.Ordering.TheVariants.{Less, Equal, Greater}
use Rattle.std.specs.Ordering.{eq_by_cmp, is_eq}
use Rattle.std.specs.Cmp.Lexicographic.{pointwise, texts_ties}
use Rattle.std.specs.Cmp.{eq_by_cmp_equiv}
use Rattle.std.specs.List.{starts_with}
use Rattle.std.specs.Map.{lookup, KeepsOthers}
use Rattle.std.proofs.lemmas.List.{length-map, length-append, take_more}
use Rattle.std.specs.FinMap.{slice_cmp-IsAntisymmetric, nat_cmp-IsAntisymmetric}
use Rattle.std.specs.FinMap.Entries.{find, put, where_key, below_all, find-put, find-where_key, same_entries, is_sorted-where_key}
use Rattle.std.proofs.lemmas.Bool.{true≢false, le-leb, leb-true}
use Rattle.std.proofs.lemmas.Cmp.{nat_list_cmp_total}
use Rattle.ks_def_runs.specs.Bytes.{Store, by_bytes, empty_store}
use Rattle.ks_def_runs.specs.FinMap as fin
use Rattle.ks_record.specs.Bytes.{IsBytes}
use Rattle.ks_store.specs.Pairs.{Rises}
use Rattle.ks_def_runs.specs.Pairs.{ArePairs}
use Rattle.ks_def_runs.specs.Prefixes.{pairs_under}
use Rattle.ks_store.specs.declared.groups.Group.{Group}
use Rattle.ks_store.specs.Groups.{front_in, groups_of, listed_under, AreGroups, is_among, is_listed, ListSame, ListSameBut, ListsRows}
use Rattle.ks_store.specs.Rows.{HashedRows, HashedStore, rows_by, short_rows, long_rows, AreApart, row_store, with_found, rows_for, IsTable}
use Rattle.ks_store.proofs.Trees.{first, second, under, bytes_where, bytes_put}

abbrev Pairs : Type 0
Pairs = List (List ℕ × List ℕ)

-- ---- what is seen

abbrev pub rows_in : HashedRows → Pairs
rows_in r = r.rows

abbrev pub start_in : HashedRows → ℕ
start_in r = r.start

abbrev pub store_in : HashedStore → Store
store_in s = s.store

abbrev pub start_of_store : HashedStore → ℕ
start_of_store s = s.start

-- ---- tests of keys

pub same : (x y : List ℕ) → by_bytes x y ≡ Equal → x ≡ y
same = slice_cmp-IsAntisymmetric nat_cmp-IsAntisymmetric

is_equal : (o : Ordering) → is_eq o ≡ true → o ≡ Equal
is_equal Less p = absurd (true≢false (sym p))
is_equal Equal p = refl
is_equal Greater p = absurd (true≢false (sym p))

pub same_key : (x y : List ℕ) → eq_by_cmp by_bytes x y ≡ true → x ≡ y
same_key x y e = same x y (is_equal _ e)

-- whatever keys a table has, by their bytes
module _ {K : Type 0} (bytes : K → List ℕ) where
  pub find_rows : (es : List (K × List ℕ)) (q : List ℕ) → lookup (λ (k : K). pointwise nat_eq q (bytes k)) es ≡ find by_bytes q (rows_by bytes es)
  find_rows [] q = refl
  find_rows (e ∷ es) q = ap (λ b. cond b (Some e.1) (lookup (λ (k : K). pointwise nat_eq q (bytes k)) es)) (texts_ties q (bytes e.0)) ∙ ap (cond (eq_by_cmp by_bytes q (bytes e.0)) (Some e.1)) (find_rows es q)

  -- the same with other words for the key
  pub found_row : (es : List (K × List ℕ)) (q k : List ℕ) → q ≡ k → lookup (λ (x : K). pointwise nat_eq q (bytes x)) es ≡ find by_bytes k (rows_by bytes es)
  found_row es q k is = find_rows es q ∙ ap (λ (x : List ℕ). find by_bytes x (rows_by bytes es)) is

  pub alike_test : (q : List ℕ) (x y : K) → pointwise nat_eq q (bytes x) ≡ true → pointwise nat_eq q (bytes y) ≡ pointwise nat_eq (bytes x) (bytes y)
  alike_test q x y e = ap (λ (k : List ℕ). pointwise nat_eq k (bytes y)) (same_key q (bytes x) (sym (texts_ties q (bytes x)) ∙ e))

  pub apart_test : (q k : List ℕ) → eq_by_cmp by_bytes q k ≡ false → (x : K) → pointwise nat_eq k (bytes x) ≡ true → pointwise nat_eq q (bytes x) ≡ false
  apart_test q k apart x e = ap (λ (y : List ℕ). pointwise nat_eq q y) (sym (same_key k (bytes x) (sym (texts_ties k (bytes x)) ∙ e))) ∙ (texts_ties q k ∙ apart)

  -- what a change at the key k leaves, from what the table says of it
  pub changed : (old new : List (K × List ℕ)) (k : List ℕ) (w : Option (List ℕ)) → lookup (λ (x : K). pointwise nat_eq k (bytes x)) new ≡ w →
      KeepsOthers (λ (x y : K). pointwise nat_eq (bytes x) (bytes y)) (λ (x : K). pointwise nat_eq k (bytes x)) old new →
      (q : List ℕ) → find by_bytes q (rows_by bytes new) ≡ cond (eq_by_cmp by_bytes q k) w (find by_bytes q (rows_by bytes old))
  unfolding KeepsOthers
  changed old new k w at others q = by (eq_by_cmp by_bytes q k) refl
    where
      by : (b : Bool) → eq_by_cmp by_bytes q k ≡ b → find by_bytes q (rows_by bytes new) ≡ cond b w (find by_bytes q (rows_by bytes old))
      by true e = ap (λ (x : List ℕ). find by_bytes x (rows_by bytes new)) (same_key q k e) ∙ (sym (find_rows new k) ∙ at)
      by false e = sym (find_rows new q) ∙ (others (λ (x : K). pointwise nat_eq q (bytes x)) (alike_test q) (apart_test q k e) ∙ find_rows old q)

  pub changed_at : (old new : List (K × List ℕ)) (k t : List ℕ) (w : Option (List ℕ)) → k ≡ t → lookup (λ (x : K). pointwise nat_eq k (bytes x)) new ≡ w →
      KeepsOthers (λ (x y : K). pointwise nat_eq (bytes x) (bytes y)) (λ (x : K). pointwise nat_eq k (bytes x)) old new →
      (q : List ℕ) → find by_bytes q (rows_by bytes new) ≡ cond (eq_by_cmp by_bytes q t) w (find by_bytes q (rows_by bytes old))
  changed_at old new k t w is at others q = changed old new k w at others q ∙ ap (λ (x : List ℕ). cond (eq_by_cmp by_bytes q x) w (find by_bytes q (rows_by bytes old))) is

  pub grown : (old new : List (K × List ℕ)) (k t : List ℕ) (o : Option (List ℕ)) → k ≡ t → o ≡ lookup (λ (x : K). pointwise nat_eq k (bytes x)) old → length new ≡ length old + cond (is_some o) 0 1 →
      length new ≡ length old + cond (is_some (find by_bytes t (rows_by bytes old))) 0 1
  grown old new k t o key is more = more ∙ ap (λ (p : Option (List ℕ)). length old + cond (is_some p) 0 1) (is ∙ found_row old k t key)

  pub shrunk : (old new : List (K × List ℕ)) (k t : List ℕ) (o : Option (List ℕ)) → k ≡ t → o ≡ lookup (λ (x : K). pointwise nat_eq k (bytes x)) old → length new + cond (is_some o) 1 0 ≡ length old →
      length new + cond (is_some (find by_bytes t (rows_by bytes old))) 1 0 ≡ length old
  shrunk old new k t o key is less = ap (λ (p : Option (List ℕ)). length new + cond (is_some p) 1 0) (sym (is ∙ found_row old k t key)) ∙ less

  -- a value that is written in place of one leaves the length
  pub kept_len : (old new : List (K × List ℕ)) (k v : List ℕ) → length new ≡ length old → Some v ≡ lookup (λ (x : K). pointwise nat_eq k (bytes x)) old → length new ≡ length old + cond (is_some (find by_bytes k (rows_by bytes old))) 0 1
  kept_len old new k v same_len is = kept (length old) (length new) same_len ∙ ap (λ (o : Option (List ℕ)). length old + cond (is_some o) 0 1) (is ∙ find_rows old k)
    where
      kept : (m n : ℕ) → n ≡ m → n ≡ m + 0
      kept m n e = omega (arith, e)

grown_by : (b : Bool) (m n : ℕ) → n ≡ m + cond b 0 1 → n ≡ cond b m (m + 1)
grown_by true m n e = omega (arith, e)
grown_by false m n e = e

shrunk_by : (b : Bool) (m n : ℕ) → n + cond b 1 0 ≡ m → n ≡ cond b (m - 1) m
shrunk_by true m n e = omega (arith, e)
shrunk_by false m n e = omega (arith, e)

-- ---- the rows of both tables

abbrev is_short : List ℕ → Bool
is_short q = nat_le (length q) 23

pub of_short : (q : List ℕ) → length q ≤ 23 → is_short q ≡ true
of_short q h = le-leb (length q) 23 h

pub of_long : (q : List ℕ) → 23 < length q → is_short q ≡ false
of_long q h = by (is_short q) refl
  where
    by : (b : Bool) → is_short q ≡ b → b ≡ false
    by false e = refl
    by true e = absurd (omega (arith, h, leb-true (length q) 23 e))

abbrev or_else : Option (List ℕ) → Option (List ℕ) → Option (List ℕ)
or_else (Some v) o = Some v
or_else None o = o

find_joined : (short long : Pairs) (q : List ℕ) → find by_bytes q (short ++ long) ≡ or_else (find by_bytes q short) (find by_bytes q long)
find_joined [] long q = refl
find_joined (e ∷ es) long q = by (eq_by_cmp by_bytes q e.0) (find_joined es long q)
  where
    by : (b : Bool) → find by_bytes q (es ++ long) ≡ or_else (find by_bytes q es) (find by_bytes q long) →
        cond b (Some e.1) (find by_bytes q (es ++ long)) ≡ or_else (cond b (Some e.1) (find by_bytes q es)) (find by_bytes q long)
    by true h = refl
    by false h = h

-- a key is looked up in one of the two
pub find_whole : (short long : Pairs) (q : List ℕ) → AreApart short long → find by_bytes q (short ++ long) ≡ cond (is_short q) (find by_bytes q short) (find by_bytes q long)
find_whole short long q apart = find_joined short long q ∙ by (is_short q) (find by_bytes q short) (find by_bytes q long) (apart q)
  where
    by : (b : Bool) (x y : Option (List ℕ)) → cond b y x ≡ None → or_else x y ≡ cond b x y
    by true None y e = e
    by true (Some v) y e = ap (or_else (Some v)) e
    by false None y e = refl
    by false (Some v) y e = absurd (some_isnt_none e)
      where
        some_isnt_none : {v : List ℕ} → Some v ≡ None → ⊥
        some_isnt_none e = true≢false (ap is_some e)

pub find_short : (short long : Pairs) (q : List ℕ) → AreApart short long → is_short q ≡ true → find by_bytes q (short ++ long) ≡ find by_bytes q short
find_short short long q apart is = find_whole short long q apart ∙ ap (λ b. cond b (find by_bytes q short) (find by_bytes q long)) is

pub find_long : (short long : Pairs) (q : List ℕ) → AreApart short long → is_short q ≡ false → find by_bytes q (short ++ long) ≡ find by_bytes q long
find_long short long q apart is = find_whole short long q apart ∙ ap (λ b. cond b (find by_bytes q short) (find by_bytes q long)) is

-- keys of two kinds differ
differ : (q k : List ℕ) (b : Bool) → is_short k ≡ b → is_short q ≡ not b → eq_by_cmp by_bytes q k ≡ false
differ q k b of_k of_q = by (eq_by_cmp by_bytes q k) refl
  where
    isnt : (c : Bool) → not c ≡ c → ⊥
    isnt true e = true≢false (sym e)
    isnt false e = true≢false e

    by : (c : Bool) → eq_by_cmp by_bytes q k ≡ c → c ≡ false
    by false e = refl
    by true e = absurd (isnt b (sym of_q ∙ (ap is_short (same_key q k e) ∙ of_k)))

-- what a change at k leaves in a list of rows
abbrev pub Changes : List ℕ → Option (List ℕ) → Pairs → Pairs → Type 0
Changes k w old new = (q : List ℕ) → find by_bytes q new ≡ cond (eq_by_cmp by_bytes q k) w (find by_bytes q old)

pub apart_short : (short long new : Pairs) (k : List ℕ) (w : Option (List ℕ)) → is_short k ≡ true → AreApart short long → Changes k w short new → AreApart new long
apart_short short long new k w of_k apart is q = by (is_short q) refl (apart q)
  where
    by : (b : Bool) → is_short q ≡ b → cond b (find by_bytes q long) (find by_bytes q short) ≡ None → cond b (find by_bytes q long) (find by_bytes q new) ≡ None
    by true e h = h
    by false e h = is q ∙ (ap (λ c. cond c w (find by_bytes q short)) (differ q k true of_k e) ∙ h)

pub apart_long : (short long new : Pairs) (k : List ℕ) (w : Option (List ℕ)) → is_short k ≡ false → AreApart short long → Changes k w long new → AreApart short new
apart_long short long new k w of_k apart is q = by (is_short q) refl (apart q)
  where
    by : (b : Bool) → is_short q ≡ b → cond b (find by_bytes q long) (find by_bytes q short) ≡ None → cond b (find by_bytes q new) (find by_bytes q short) ≡ None
    by true e h = is q ∙ (ap (λ c. cond c w (find by_bytes q long)) (differ q k false of_k e) ∙ h)
    by false e h = h

pub change_short : (short long new : Pairs) (k : List ℕ) (w : Option (List ℕ)) → is_short k ≡ true → AreApart short long → Changes k w short new → Changes k w (short ++ long) (new ++ long)
change_short short long new k w of_k apart is q =
    find_whole new long q (apart_short short long new k w of_k apart is)
    ∙ (by (is_short q) refl ∙ ap (cond (eq_by_cmp by_bytes q k) w) (sym (find_whole short long q apart)))
  where
    by : (b : Bool) → is_short q ≡ b → cond b (find by_bytes q new) (find by_bytes q long) ≡ cond (eq_by_cmp by_bytes q k) w (cond b (find by_bytes q short) (find by_bytes q long))
    by true e = is q
    by false e = sym (ap (λ c. cond c w (find by_bytes q long)) (differ q k true of_k e))

pub change_long : (short long new : Pairs) (k : List ℕ) (w : Option (List ℕ)) → is_short k ≡ false → AreApart short long → Changes k w long new → Changes k w (short ++ long) (short ++ new)
change_long short long new k w of_k apart is q =
    find_whole short new q (apart_long short long new k w of_k apart is)
    ∙ (by (is_short q) refl ∙ ap (cond (eq_by_cmp by_bytes q k) w) (sym (find_whole short long q apart)))
  where
    by : (b : Bool) → is_short q ≡ b → cond b (find by_bytes q short) (find by_bytes q new) ≡ cond (eq_by_cmp by_bytes q k) w (cond b (find by_bytes q short) (find by_bytes q long))
    by true e = sym (ap (λ c. cond c w (find by_bytes q short)) (differ q k false of_k e))
    by false e = is q

-- ---- how many rows both tables have

pub length_rows : {K : Type 0} (bytes : K → List ℕ) (es : List (K × List ℕ)) → length (rows_by bytes es) ≡ length es
length_rows bytes es = simp length-map

pub length_whole : (es : List (List ℕ × List ℕ)) (fs : List (Vec ℕ × List ℕ)) → length (short_rows es ++ long_rows fs) ≡ length es + length fs
length_whole es fs = length-append (short_rows es) (long_rows fs) ∙ ap₂ (λ (m n : ℕ). m + n) (length_rows (λ (k : List ℕ). k) es) (length_rows (λ (k : Vec ℕ). k.items) fs)

-- of a table that has d more rows, or d fewer, and another beside it
pub more_left : (a b c d x y : ℕ) → x ≡ a + b → y ≡ c + b → c ≡ a + d → y ≡ x + d
more_left a b c d x y p q r = omega (arith, p, q, r)

pub more_right : (a b c d x y : ℕ) → x ≡ a + b → y ≡ a + c → c ≡ b + d → y ≡ x + d
more_right a b c d x y p q r = omega (arith, p, q, r)

pub fewer_left : (a b c d x y : ℕ) → x ≡ a + b → y ≡ c + b → c + d ≡ a → y + d ≡ x
fewer_left a b c d x y p q r = omega (arith, p, q, r)

pub fewer_right : (a b c d x y : ℕ) → x ≡ a + b → y ≡ a + c → c + d ≡ b → y + d ≡ x
fewer_right a b c d x y p q r = omega (arith, p, q, r)

-- ---- both tables after a change of one

abbrev Short : Type 0
Short = List (List ℕ × List ℕ)

abbrev Long : Type 0
Long = List (Vec ℕ × List ℕ)

pub put_short_apart : (r : Result Bool AllocError) (old new : Short) (long : Long) (k v : List ℕ) → length k ≤ 23 → OnOk r (Changes k (Some v) (short_rows old) (short_rows new)) → OnErr r (new ≡ old) →
    AreApart (short_rows old) (long_rows long) → AreApart (short_rows new) (long_rows long)
put_short_apart (Ok b) old new long k v few is err apart = apart_short (short_rows old) (long_rows long) (short_rows new) k (Some v) (of_short k few) apart is
put_short_apart (Err x) old new long k v few is err apart = subst (λ (es : Short). AreApart (short_rows es) (long_rows long)) (sym err) apart

pub put_long_apart : (r : Result Bool AllocError) (short : Short) (old new : Long) (k v : List ℕ) → 23 < length k → OnOk r (Changes k (Some v) (long_rows old) (long_rows new)) → OnErr r (new ≡ old) →
    AreApart (short_rows short) (long_rows old) → AreApart (short_rows short) (long_rows new)
put_long_apart (Ok b) short old new k v many is err apart = apart_long (short_rows short) (long_rows old) (long_rows new) k (Some v) (of_long k many) apart is
put_long_apart (Err x) short old new k v many is err apart = subst (λ (es : Long). AreApart (short_rows short) (long_rows es)) (sym err) apart

pub whole_short : (old new : Short) (long : Long) (whole : Pairs) (k : List ℕ) (w : Option (List ℕ)) → length k ≤ 23 → AreApart (short_rows old) (long_rows long) → short_rows old ++ long_rows long ≡ whole →
    Changes k w (short_rows old) (short_rows new) → Changes k w whole (short_rows new ++ long_rows long)
whole_short old new long whole k w few apart is changes =
    subst (λ (x : Pairs). Changes k w x (short_rows new ++ long_rows long)) is (change_short (short_rows old) (long_rows long) (short_rows new) k w (of_short k few) apart changes)

pub whole_long : (short : Short) (old new : Long) (whole : Pairs) (k : List ℕ) (w : Option (List ℕ)) → 23 < length k → AreApart (short_rows short) (long_rows old) → short_rows short ++ long_rows old ≡ whole →
    Changes k w (long_rows old) (long_rows new) → Changes k w whole (short_rows short ++ long_rows new)
whole_long short old new whole k w many apart is changes =
    subst (λ (x : Pairs). Changes k w x (short_rows short ++ long_rows new)) is (change_long (short_rows short) (long_rows old) (long_rows new) k w (of_long k many) apart changes)

pub more_short : (old new : Short) (long : Long) (whole : Pairs) (k : List ℕ) → length k ≤ 23 → AreApart (short_rows old) (long_rows long) → short_rows old ++ long_rows long ≡ whole →
    length new ≡ length old + cond (is_some (find by_bytes k (short_rows old))) 0 1 → length (short_rows new ++ long_rows long) ≡ length whole + cond (is_some (find by_bytes k whole)) 0 1
more_short old new long whole k few apart is more =
    subst (λ (x : Pairs). length (short_rows new ++ long_rows long) ≡ length x + cond (is_some (find by_bytes k x)) 0 1) is
    (more_left (length old) (length long) (length new) (cond (is_some (find by_bytes k (short_rows old ++ long_rows long))) 0 1) _ _ (length_whole old long) (length_whole new long)
    (more ∙ ap (λ (o : Option (List ℕ)). length old + cond (is_some o) 0 1) (sym (find_short (short_rows old) (long_rows long) k apart (of_short k few)))))

pub more_long : (short : Short) (old new : Long) (whole : Pairs) (k : List ℕ) → 23 < length k → AreApart (short_rows short) (long_rows old) → short_rows short ++ long_rows old ≡ whole →
    length new ≡ length old + cond (is_some (find by_bytes k (long_rows old))) 0 1 → length (short_rows short ++ long_rows new) ≡ length whole + cond (is_some (find by_bytes k whole)) 0 1
more_long short old new whole k many apart is more =
    subst (λ (x : Pairs). length (short_rows short ++ long_rows new) ≡ length x + cond (is_some (find by_bytes k x)) 0 1) is
    (more_right (length short) (length old) (length new) (cond (is_some (find by_bytes k (short_rows short ++ long_rows old))) 0 1) _ _ (length_whole short old) (length_whole short new)
    (more ∙ ap (λ (o : Option (List ℕ)). length old + cond (is_some o) 0 1) (sym (find_long (short_rows short) (long_rows old) k apart (of_long k many)))))

pub fewer_short : (old new : Short) (long : Long) (whole : Pairs) (k : List ℕ) → length k ≤ 23 → AreApart (short_rows old) (long_rows long) → short_rows old ++ long_rows long ≡ whole →
    length new + cond (is_some (find by_bytes k (short_rows old))) 1 0 ≡ length old → length (short_rows new ++ long_rows long) + cond (is_some (find by_bytes k whole)) 1 0 ≡ length whole
fewer_short old new long whole k few apart is fewer =
    subst (λ (x : Pairs). length (short_rows new ++ long_rows long) + cond (is_some (find by_bytes k x)) 1 0 ≡ length x) is
    (fewer_left (length old) (length long) (length new) (cond (is_some (find by_bytes k (short_rows old ++ long_rows long))) 1 0) _ _ (length_whole old long) (length_whole new long)
    (ap (λ (o : Option (List ℕ)). length new + cond (is_some o) 1 0) (find_short (short_rows old) (long_rows long) k apart (of_short k few)) ∙ fewer))

pub fewer_long : (short : Short) (old new : Long) (whole : Pairs) (k : List ℕ) → 23 < length k → AreApart (short_rows short) (long_rows old) → short_rows short ++ long_rows old ≡ whole →
    length new + cond (is_some (find by_bytes k (long_rows old))) 1 0 ≡ length old → length (short_rows short ++ long_rows new) + cond (is_some (find by_bytes k whole)) 1 0 ≡ length whole
fewer_long short old new whole k many apart is fewer =
    subst (λ (x : Pairs). length (short_rows short ++ long_rows new) + cond (is_some (find by_bytes k x)) 1 0 ≡ length x) is
    (fewer_right (length short) (length old) (length new) (cond (is_some (find by_bytes k (short_rows short ++ long_rows old))) 1 0) _ _ (length_whole short old) (length_whole short new)
    (ap (λ (o : Option (List ℕ)). length new + cond (is_some o) 1 0) (find_long (short_rows short) (long_rows old) k apart (of_long k many)) ∙ fewer))

-- whether a key had a row in the one table is whether it had one in either
pub had_short : (r : Result Bool AllocError) (short : Short) (long : Long) (whole : Pairs) (k : List ℕ) → length k ≤ 23 → AreApart (short_rows short) (long_rows long) → short_rows short ++ long_rows long ≡ whole →
    IfOk r (λ b. b ≡ is_some (find by_bytes k (short_rows short))) → IfOk r (λ b. b ≡ is_some (find by_bytes k whole))
had_short (Ok b) short long whole k few apart is had = had ∙ ap is_some (sym (find_short (short_rows short) (long_rows long) k apart (of_short k few)) ∙ ap (find by_bytes k) is)
had_short (Err x) short long whole k few apart is had = tt

pub had_long : (r : Result Bool AllocError) (short : Short) (long : Long) (whole : Pairs) (k : List ℕ) → 23 < length k → AreApart (short_rows short) (long_rows long) → short_rows short ++ long_rows long ≡ whole →
    IfOk r (λ b. b ≡ is_some (find by_bytes k (long_rows long))) → IfOk r (λ b. b ≡ is_some (find by_bytes k whole))
had_long (Ok b) short long whole k many apart is had = had ∙ ap is_some (sym (find_long (short_rows short) (long_rows long) k apart (of_long k many)) ∙ ap (find by_bytes k) is)
had_long (Err x) short long whole k many apart is had = tt

-- ---- the map

pub get_row : (es : Pairs) (q : List ℕ) → fin.get (row_store es) q ≡ find by_bytes q es
get_row [] q = fin.get-empty by_bytes q
get_row (e ∷ es) q = fin.get-insert nat_list_cmp_total (row_store es) e.0 e.1 q ∙ ap (cond (eq_by_cmp by_bytes q e.0) (Some e.1)) (get_row es q)

pub put_row : (old new : Pairs) (k v : List ℕ) → ((q : List ℕ) → find by_bytes q new ≡ cond (eq_by_cmp by_bytes q k) (Some v) (find by_bytes q old)) → row_store new ≡ fin.insert (row_store old) k v
put_row old new k v is =
    fin.same_map nat_list_cmp_total same (row_store new) (fin.insert (row_store old) k v)
    (λ q. get_row new q ∙ (is q ∙ (ap (cond (eq_by_cmp by_bytes q k) (Some v)) (sym (get_row old q)) ∙ sym (fin.get-insert nat_list_cmp_total (row_store old) k v q))))

pub take_row : (old new : Pairs) (k : List ℕ) → ((q : List ℕ) → find by_bytes q new ≡ cond (eq_by_cmp by_bytes q k) None (find by_bytes q old)) → row_store new ≡ fin.remove (row_store old) k
take_row old new k is =
    fin.same_map nat_list_cmp_total same (row_store new) (fin.remove (row_store old) k)
    (λ q. get_row new q ∙ (is q ∙ (ap (cond (eq_by_cmp by_bytes q k) None) (sym (get_row old q)) ∙ sym (fin.get-remove nat_list_cmp_total (row_store old) k q))))

pub len_put : (old new : Pairs) (k v : List ℕ) → length old ≡ fin.len (row_store old) → row_store new ≡ fin.insert (row_store old) k v → length new ≡ cond (is_some (find by_bytes k old)) (length old) (length old + 1) → length new ≡ fin.len (row_store new)
len_put old new k v so is more =
    more ∙ (ap (λ (o : Option (List ℕ)). cond (is_some o) (length old) (length old + 1)) (sym (get_row old k))
    ∙ (ap (λ (n : ℕ). cond (is_some (fin.get (row_store old) k)) n (n + 1)) so ∙ (sym (fin.len-insert nat_list_cmp_total (row_store old) k v) ∙ ap (λ (m : Store). fin.len m) (sym is))))

pub len_take : (old new : Pairs) (k : List ℕ) → length old ≡ fin.len (row_store old) → row_store new ≡ fin.remove (row_store old) k → length new ≡ cond (is_some (find by_bytes k old)) (length old - 1) (length old) → length new ≡ fin.len (row_store new)
len_take old new k so is less =
    less ∙ (ap (λ (o : Option (List ℕ)). cond (is_some o) (length old - 1) (length old)) (sym (get_row old k))
    ∙ (ap (λ (n : ℕ). cond (is_some (fin.get (row_store old) k)) (n - 1) n) so ∙ (sym (fin.len-remove nat_list_cmp_total (row_store old) k) ∙ ap (λ (m : Store). fin.len m) (sym is))))

pub bytes_after_put : (old new : Store) (k v : List ℕ) → new ≡ fin.insert old k v → IsBytes k × IsBytes v → ArePairs (fin.entries old) → ArePairs (fin.entries new)
bytes_after_put old new k v is b h = subst ArePairs (sym (ap (λ (m : Store). fin.entries m) is ∙ fin.entries-insert nat_list_cmp_total old k v)) (bytes_put k v (fin.entries old) b h)

pub bytes_after_take : (old new : Store) (k : List ℕ) → new ≡ fin.remove old k → ArePairs (fin.entries old) → ArePairs (fin.entries new)
unfolding fin.remove
bytes_after_take old new k is h = subst ArePairs (sym (ap (λ (m : Store). fin.entries m) is ∙ fin.entries-retain_keys old (λ x. not (eq_by_cmp by_bytes k x)))) (bytes_where (λ x. not (eq_by_cmp by_bytes k x)) (fin.entries old) h)

-- ---- the list of keys

-- what is found in one more, by whether the key is the new one
pub some_put : (b : Bool) (v : List ℕ) (o : Option (List ℕ)) → is_some (cond b (Some v) o) ≡ cond b true (is_some o)
some_put true v o = refl
some_put false v o = refl

pub some_take : (b : Bool) (o : Option (List ℕ)) → is_some (cond b None o) ≡ cond b false (is_some o)
some_take true o = refl
some_take false o = refl

pub found_put : (q k v : List ℕ) (es : Pairs) → is_some (find by_bytes q (put by_bytes k v es)) ≡ cond (eq_by_cmp by_bytes q k) true (is_some (find by_bytes q es))
found_put q k v es = ap is_some (find-put by_bytes nat_list_cmp_total q k v es) ∙ some_put (eq_by_cmp by_bytes q k) v (find by_bytes q es)

-- of the key itself nothing new is known
pub as_before : (k : List ℕ) (b : Bool) (groups : List (List ℕ × Pairs)) → is_listed k groups ≡ b → ListSameBut k b groups groups
as_before k b groups is q = by (eq_by_cmp by_bytes q k) refl
  where
    by : (c : Bool) → eq_by_cmp by_bytes q k ≡ c → is_listed q groups ≡ cond c b (is_listed q groups)
    by true e = ap (λ (x : List ℕ). is_listed x groups) (same_key q k e) ∙ is
    by false e = refl

-- a key with a row is listed, where it has a front
pub had_listed : (rows : Pairs) (groups : List (List ℕ × Pairs)) (k : List ℕ) → ListsRows rows groups → is_some (find by_bytes k rows) ≡ true → is_listed k groups ≡ is_some (front_in k)
had_listed rows groups k lists had = by (front_in k) refl
  where
    by : (o : Option (List ℕ)) → front_in k ≡ o → is_among o k groups ≡ is_some o
    by None e = refl
    by (Some f) e = ap (λ (o : Option (List ℕ)). is_among o k groups) (sym e) ∙ (lists k (ap is_some e) ∙ had)

-- a key with a row stands in the group of its front
pub under_front : (rows : Pairs) (groups : List (List ℕ × Pairs)) (front q : List ℕ) → ListsRows rows groups → front_in q ≡ Some front → is_some (find by_bytes q rows) ≡ true →
    is_some (find by_bytes q (listed_under front groups)) ≡ true
under_front rows groups front q lists own has = ap (λ (o : Option (List ℕ)). is_among o q groups) (sym own) ∙ (lists q (ap is_some own) ∙ has)

-- no key is listed in no groups
pub none_listed : (q : List ℕ) → is_listed q [] ≡ false
none_listed q = by (front_in q)
  where
    by : (o : Option (List ℕ)) → is_among o q [] ≡ false
    by None = refl
    by (Some f) = refl

-- after a row is put
pub lists_put : (old new : Pairs) (groups more : List (List ℕ × Pairs)) (k v : List ℕ) → ((q : List ℕ) → find by_bytes q new ≡ cond (eq_by_cmp by_bytes q k) (Some v) (find by_bytes q old)) → ListsRows old groups →
    ListSameBut k (is_some (front_in k)) groups more → ListsRows new more
lists_put old new groups more k v is lists same_but q fronted =
    same_but q ∙ (by (eq_by_cmp by_bytes q k) refl ∙ sym (ap is_some (is q) ∙ some_put (eq_by_cmp by_bytes q k) v (find by_bytes q old)))
  where
    by : (b : Bool) → eq_by_cmp by_bytes q k ≡ b → cond b (is_some (front_in k)) (is_listed q groups) ≡ cond b true (is_some (find by_bytes q old))
    by true e = ap (λ (x : List ℕ). is_some (front_in x)) (sym (same_key q k e)) ∙ fronted
    by false e = lists q fronted

-- after a row is taken, and its key from the groups
pub lists_take : (old new : Pairs) (groups fewer : List (List ℕ × Pairs)) (k : List ℕ) → ((q : List ℕ) → find by_bytes q new ≡ cond (eq_by_cmp by_bytes q k) None (find by_bytes q old)) → ListsRows old groups →
    ListSameBut k false groups fewer → ListsRows new fewer
lists_take old new groups fewer k is lists same_but q fronted =
    same_but q ∙ (ap (cond (eq_by_cmp by_bytes q k) false) (lists q fronted) ∙ sym (ap is_some (is q) ∙ some_take (eq_by_cmp by_bytes q k) (find by_bytes q old)))

-- ---- the rows of a list of keys

below_held : (rows es : Pairs) (x : List ℕ) → T (below_all by_bytes x es) → T (below_all by_bytes x (rows_for rows es))
below_held rows [] x h = tt
below_held rows (e ∷ es) x h = by (find by_bytes e.0 rows) (below_held rows es x (second _ _ h))
  where
    both : (a b : Bool) → T a → T b → T (a && b)
    both true b p q = q
    both false b p q = absurd p

    by : (o : Option (List ℕ)) → T (below_all by_bytes x (rows_for rows es)) → T (below_all by_bytes x (with_found o e.0 (rows_for rows es)))
    by None g = g
    by (Some v) g = both _ _ (first _ _ h) g

rises_held : (rows es : Pairs) → Rises es → Rises (rows_for rows es)
rises_held rows [] h = tt
rises_held rows (e ∷ es) h = by (find by_bytes e.0 rows) (rises_held rows es (second _ _ h))
  where
    both : (a b : Bool) → T a → T b → T (a && b)
    both true b p q = q
    both false b p q = absurd p

    by : (o : Option (List ℕ)) → Rises (rows_for rows es) → Rises (with_found o e.0 (rows_for rows es))
    by None g = g
    by (Some v) g = both _ _ (below_held rows es e.0 (first _ _ h)) g

here : (b : Bool) (o p f : Option (List ℕ)) (v : List ℕ) → p ≡ cond (is_some f) o None → (b ≡ true → Some v ≡ o) → cond b (Some v) p ≡ cond (is_some (cond b (Some v) f)) o None
here true o p f v is at = at refl
here false o p f v is at = is

gone : (b : Bool) (o p f : Option (List ℕ)) (w : List ℕ) → p ≡ cond (is_some f) o None → (b ≡ true → o ≡ None) → p ≡ cond (is_some (cond b (Some w) f)) o None
gone true o p f w is at = is ∙ no (is_some f) o (at refl) ∙ sym (at refl)
  where
    no : (c : Bool) (x : Option (List ℕ)) → x ≡ None → cond c x None ≡ None
    no true x e = e
    no false x e = refl
gone false o p f w is at = is

find_held : (rows es : Pairs) (q : List ℕ) → find by_bytes q (rows_for rows es) ≡ cond (is_some (find by_bytes q es)) (find by_bytes q rows) None
find_held rows [] q = refl
find_held rows (e ∷ es) q = by (find by_bytes e.0 rows) refl (find_held rows es q)
  where
    at : (o : Option (List ℕ)) → find by_bytes e.0 rows ≡ o → eq_by_cmp by_bytes q e.0 ≡ true → o ≡ find by_bytes q rows
    at o is t = sym is ∙ ap (λ (x : List ℕ). find by_bytes x rows) (sym (same_key q e.0 t))

    by : (o : Option (List ℕ)) → find by_bytes e.0 rows ≡ o → find by_bytes q (rows_for rows es) ≡ cond (is_some (find by_bytes q es)) (find by_bytes q rows) None →
        find by_bytes q (with_found o e.0 (rows_for rows es)) ≡ cond (is_some (cond (eq_by_cmp by_bytes q e.0) (Some e.1) (find by_bytes q es))) (find by_bytes q rows) None
    by None is more = gone (eq_by_cmp by_bytes q e.0) (find by_bytes q rows) (find by_bytes q (rows_for rows es)) (find by_bytes q es) e.1 more (λ t. sym (at None is t))
    by (Some v) is more = held_here (eq_by_cmp by_bytes q e.0) (at (Some v) is) more
      where
        held_here : (b : Bool) → (b ≡ true → Some v ≡ find by_bytes q rows) → find by_bytes q (rows_for rows es) ≡ cond (is_some (find by_bytes q es)) (find by_bytes q rows) None →
            cond b (Some v) (find by_bytes q (rows_for rows es)) ≡ cond (is_some (cond b (Some e.1) (find by_bytes q es))) (find by_bytes q rows) None
        held_here true a m = a refl
        held_here false a m = m

abbrev begins : List ℕ → List ℕ → Bool
begins front k = starts_with ◌==◌ k front

under_where : (front : List ℕ) (es : Pairs) → under front es ≡ where_key by_bytes (begins front) es
under_where front [] = refl
under_where front (e ∷ es) = ap (λ (x : Pairs). cond (begins front e.0) (e ∷ x) x) (under_where front es)

-- the list has each key with a row that begins so
abbrev pub ListsUnder : List ℕ → Pairs → Pairs → Type 0
ListsUnder front rows listed = (q : List ℕ) → begins front q ≡ true → is_some (find by_bytes q rows) ≡ true → is_some (find by_bytes q listed) ≡ true

pub rows_under : (front : List ℕ) (rows listed : Pairs) → Rises listed → ListsUnder front rows listed → rows_for rows (under front listed) ≡ pairs_under front (row_store rows)
rows_under front rows listed rises lists =
    ap (rows_for rows) (under_where front listed)
    ∙ (same_entries by_bytes nat_list_cmp_total same (rows_for rows (where_key by_bytes (begins front) listed)) (where_key by_bytes (begins front) (fin.entries (row_store rows)))
    (rises_held rows _ (is_sorted-where_key by_bytes (begins front) listed rises)) (is_sorted-where_key by_bytes (begins front) _ (fin.entries_sorted (row_store rows))) each
    ∙ sym (under_where front (fin.entries (row_store rows))))
  where
    alike : (q x : List ℕ) → by_bytes q x ≡ Equal → begins front x ≡ begins front q
    alike q x t = ap (begins front) (sym (same q x t))

    choose : (p : Bool) (l r : Option (List ℕ)) → (p ≡ true → is_some r ≡ true → is_some l ≡ true) → cond (is_some (cond p l None)) r None ≡ cond p r None
    choose false l r h = refl
    choose true (Some x) r h = refl
    choose true None None h = refl
    choose true None (Some x) h = absurd (true≢false (sym (h refl refl)))

    each : (q : List ℕ) → find by_bytes q (rows_for rows (where_key by_bytes (begins front) listed)) ≡ find by_bytes q (where_key by_bytes (begins front) (fin.entries (row_store rows)))
    each q =
        find_held rows (where_key by_bytes (begins front) listed) q
        ∙ (ap (λ (o : Option (List ℕ)). cond (is_some o) (find by_bytes q rows) None) (find-where_key by_bytes (begins front) q (alike q) listed)
        ∙ (choose (begins front q) (find by_bytes q listed) (find by_bytes q rows) (lists q)
        ∙ (ap (λ (o : Option (List ℕ)). cond (begins front q) o None) (sym (get_row rows q) ∙ fin.get-entries (row_store rows) q)
        ∙ sym (find-where_key by_bytes (begins front) q (alike q) (fin.entries (row_store rows))))))

-- ---- what a table keeps

empty_bytes : ArePairs (fin.entries empty_store)
unfolding fin.entries fin.empty
empty_bytes = tt

pub new_table : (rows : Pairs) (gs : List (Vec ℕ × Group)) → rows ≡ [] → gs ≡ [] → IsTable rows (groups_of gs)
new_table rows gs e f =
    let none : IsTable [] [] = ((λ q. (tt, tt), λ q h. none_listed q), sym (fin.len-empty by_bytes (List ℕ)), empty_bytes) in
    subst (λ (x : Pairs). IsTable x (groups_of gs)) (sym e) (subst (λ (y : List (Vec ℕ × Group)). IsTable [] (groups_of y)) (sym f) none)

pub put_table : (old new : Pairs) (groups more : List (List ℕ × Pairs)) (k v : List ℕ) → Changes k (Some v) old new → length new ≡ length old + cond (is_some (find by_bytes k old)) 0 1 →
    AreGroups more → ListSameBut k (is_some (front_in k)) groups more → IsBytes k × IsBytes v → IsTable old groups → IsTable new more
put_table old new groups more k v is len are same_but b h =
    let m : row_store new ≡ fin.insert (row_store old) k v = put_row old new k v is in
    let longer : length new ≡ cond (is_some (find by_bytes k old)) (length old) (length old + 1) = grown_by (is_some (find by_bytes k old)) (length old) (length new) len in
    ((are, lists_put old new groups more k v is h.0.1 same_but), len_put old new k v h.1 m longer, bytes_after_put _ _ k v m b h.2)

-- a row that was put for a key without one, and then taken out again
module _ (old put back : Pairs) (k v : List ℕ) (new_key : is_some (find by_bytes k old) ≡ false) (is : Changes k (Some v) old put) (gone : Changes k None put back) where
  none_at : (o : Option (List ℕ)) → is_some o ≡ false → o ≡ None
  none_at None e = refl
  none_at (Some x) e = absurd (true≢false e)

  found_as_before : (q : List ℕ) → find by_bytes q back ≡ find by_bytes q old
  found_as_before q = gone q ∙ by (eq_by_cmp by_bytes q k) refl
    where
      by : (b : Bool) → eq_by_cmp by_bytes q k ≡ b → cond b None (find by_bytes q put) ≡ find by_bytes q old
      by true e = sym (ap (λ (x : List ℕ). find by_bytes x old) (same_key q k e) ∙ none_at (find by_bytes k old) new_key)
      by false e = is q ∙ ap (λ b. cond b (Some v) (find by_bytes q old)) e

  pub map_as_before : row_store back ≡ row_store old
  map_as_before = fin.same_map nat_list_cmp_total same (row_store back) (row_store old) (λ q. get_row back q ∙ (found_as_before q ∙ sym (get_row old q)))

  len_as_before : length put ≡ length old + cond (is_some (find by_bytes k old)) 0 1 → length back + cond (is_some (find by_bytes k put)) 1 0 ≡ length put → length back ≡ length old
  len_as_before more fewer =
      counted (length old) (length put) (length back)
      (more ∙ ap (λ b. length old + cond b 0 1) new_key)
      (ap (λ b. length back + cond b 1 0) (sym (ap is_some (is k) ∙ ap (λ b. is_some (cond b (Some v) (find by_bytes k old))) ((eq_by_cmp_equiv nat_list_cmp_total).refl k))) ∙ fewer)
    where
      counted : (m n l : ℕ) → n ≡ m + 1 → l + 1 ≡ n → l ≡ m
      counted m n l p q = omega (arith, p, q)

  pub undone_table : (groups more : List (List ℕ × Pairs)) → length put ≡ length old + cond (is_some (find by_bytes k old)) 0 1 → length back + cond (is_some (find by_bytes k put)) 1 0 ≡ length put →
      AreGroups more → ListSame groups more → IsTable old groups → IsTable back more
  undone_table groups more longer fewer are same_keys h = (
    (are, λ q fronted. same_keys q ∙ (h.0.1 q fronted ∙ ap is_some (sym (found_as_before q)))),
    len_as_before longer fewer ∙ (h.1 ∙ ap (λ (m : Store). fin.len m) (sym map_as_before)),
    subst (λ (m : Store). ArePairs (fin.entries m)) (sym map_as_before) h.2,
  )

pub take_table : (old new : Pairs) (groups fewer : List (List ℕ × Pairs)) (k : List ℕ) → Changes k None old new →
    length new + cond (is_some (find by_bytes k old)) 1 0 ≡ length old → AreGroups fewer →
    ListSameBut k false groups fewer → IsTable old groups → IsTable new fewer
take_table old new groups fewer k is len are same_but h =
    let m : row_store new ≡ fin.remove (row_store old) k = take_row old new k is in
    let shorter : length new ≡ cond (is_some (find by_bytes k old)) (length old - 1) (length old) = shrunk_by (is_some (find by_bytes k old)) (length old) (length new) len in
    ((are, lists_take old new groups fewer k is h.0.1 same_but), len_take old new k h.1 m shorter, bytes_after_take _ _ k m h.2)

-- ---- the rows of the first keys of a list, and one more

rows_for-append : (rows es fs : Pairs) → rows_for rows (es ++ fs) ≡ rows_for rows es ++ rows_for rows fs
rows_for-append rows [] fs = refl
rows_for-append rows (e ∷ es) fs = by (find by_bytes e.0 rows) (rows_for-append rows es fs)
  where
    by : (o : Option (List ℕ)) → rows_for rows (es ++ fs) ≡ rows_for rows es ++ rows_for rows fs → with_found o e.0 (rows_for rows (es ++ fs)) ≡ with_found o e.0 (rows_for rows es) ++ rows_for rows fs
    by None h = h
    by (Some v) h = ap (λ (x : Pairs). (e.0, v) ∷ x) h

pub held_more : (rows keys found more : Pairs) (i : ℕ) (x : List ℕ × List ℕ) → i < length keys → x ≡ get_or keys i x → found ≡ rows_for rows (take i keys) →
    more ≡ found ++ with_found (find by_bytes x.0 rows) x.0 [] → more ≡ rows_for rows (take (i + 1) keys)
held_more rows keys found more i x lt is so_far longer =
    longer ∙ (ap (λ (f : Pairs). f ++ rows_for rows (x ∷ [])) so_far ∙ (sym (rows_for-append rows (take i keys) (x ∷ []))
    ∙ ap (rows_for rows) (sym (take_more keys i x lt ∙ ap (λ (y : List ℕ × List ℕ). take i keys ++ y ∷ []) (sym is)))))

pub held_none : (o : Option (List ℕ)) (k : List ℕ) (found : Pairs) → None ≡ o → found ≡ found ++ with_found o k []
held_none o k found is = sym (append-nil found) ∙ ap (λ (p : Option (List ℕ)). found ++ with_found p k []) is

pub held_some : (o : Option (List ℕ)) (k v : List ℕ) (found more : Pairs) → Some v ≡ o → more ≡ found ++ (k, v) ∷ [] → more ≡ found ++ with_found o k []
held_some o k v found more is longer = longer ∙ ap (λ (p : Option (List ℕ)). found ++ with_found p k []) is

pub held_more_shown : (rows keys shown found more : Pairs) (i : ℕ) (x : List ℕ × List ℕ) → shown ≡ keys → i < length shown → x ≡ get_or shown i x → found ≡ rows_for rows (take i keys) →
    more ≡ found ++ with_found (find by_bytes x.0 rows) x.0 [] → more ≡ rows_for rows (take (i + 1) keys)
held_more_shown rows keys shown found more i x d lt is so_far longer =
    held_more rows keys found more i x (subst (λ (k : Pairs). i < length k) d lt) (is ∙ ap (λ (k : Pairs). get_or k i x) d) so_far longer

pub some_found : {o : Option (List ℕ)} {v : List ℕ} → Some v ≡ o → IsSome o
some_found {o} e = subst IsSome e refl
