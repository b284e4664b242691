-- The pairs under a foreign key, in order, are the entries of the map that is read from all pairs.
use Rattle.std.proofs.Common.{◌≡◌, ℕ, Bool, true, false, cond, ◌&&◌, ◌==◌, T, List, length, [], ◌∷◌, ◌++◌, drop, Option, Some, None, fold, refl, sym, ap, ap₂, subst, ◌∙◌, arith, append_assoc, append-nil, ◌<◌, ◌^◌}
use Rattle.std.specs.List.{filter, starts_with}
use Rattle.std.specs.Int.{w32, to_be_bytes}
use Rattle.std.specs.declared.cmp.Ordering.{Ordering}
use Rattle.std.specs.declared.cmp.Ordering.TheVariants.{Less, Equal, Greater}
use Rattle.std.specs.Ordering.{is_lt, is_eq, ordering_reverse, ordering_then}
use Rattle.std.specs.Cmp.{tied_itself, nat_cmp_total}
use Rattle.std.specs.Cmp.Lexicographic.{nat_list_cmp_total}
use Rattle.std.specs.FinMap.Entries.{put, by_order, below_all, is_sorted}
use Rattle.std.proofs.lemmas.Bool.{true≢false}
use Rattle.std.proofs.lemmas.Bool.Decides.{Decides-eqb}
use Rattle.std.proofs.lemmas.Slice.Eq.{starts_is}
use Rattle.ks_record.specs.Texts.{IsKey, key_from}
use Rattle.ks_row.specs.Reading.{◌>>=◌}
use Rattle.ks_row.proofs.Fields.{wide32, bytes_again, number_again}
use Rattle.ks_row.proofs.Spelled.{key_again}
use Rattle.ks_wire.specs.Spelling.{long_key, subscription_key}
use Rattle.ks_wire.specs.Reading.{long_key_at, subscription_key_from, subscriber_from}
use Rattle.ks_wire.specs.declared.values.Subscriber.{Subscriber}
use Rattle.ks_wire.proofs.Wired.{subscription_key_codec}
use Rattle.ks_expr.specs.Eval.{same_bytes}
use Rattle.ks_def_runs.specs.FinMap as fin
use Rattle.ks_def_runs.specs.FinMap.{FinMap}
use Rattle.ks_def_runs.specs.Bytes.{by_bytes, Store}
use Rattle.ks_query.specs.Streams.{Key, some_of, with_some}
use Rattle.ks_plan.specs.declared.node.Topic.TheVariants.{HashChangelog}
use Rattle.ks_plan.specs.Layout.{number_of}
use Rattle.ks_def_tasks.specs.Bytes.{with_pair, map_from, left_at}
use Rattle.ks_def_tasks.specs.Laws.{AreBytes}
use Rattle.ks_def_tasks.proofs.Same.{bytes-is}
use Rattle.ks_def_lookups.specs.Kept.{kept_in, kept_under}
use Rattle.ks_def_lookups.specs.KeptDecoded.{KeptIsDecoded}

abbrev Pairs : Type 0
Pairs = List (List ℕ × List ℕ)

same_itself : (k : List ℕ) → same_bytes k k ≡ true
same_itself k = ap is_eq (tied_itself nat_list_cmp_total k)

long_key_again : (key rest : List ℕ) → IsKey key → long_key_at (long_key key ++ rest) ≡ Some (key, rest)
unfolding long_key_at
long_key_again key rest k =
    let regrouped : long_key key ++ rest ≡ to_be_bytes w32 (length key) ++ (key ++ rest) = append_assoc (to_be_bytes w32 (length key)) key rest in
    let lt : length key < 2 ^ 32 = omega (arith, k.most) in
    ap long_key_at regrouped ∙ rw (number_again w32 (2 ^ 32) wide32 (length key) (key ++ rest) lt, bytes_again key rest, key_again key k) refl

-- ---- the greatest key comes last
AllUnder : Key → List (Key × Subscriber) → Type 0
AllUnder l [] = Unit {0}
AllUnder l (x ∷ xs) = (by_bytes l x.0 ≡ Greater) × AllUnder l xs

AllUnder-last : (l : Key) (xs : List (Key × Subscriber)) (x : Key × Subscriber) → AllUnder l xs → by_bytes l x.0 ≡ Greater → AllUnder l (xs ++ x ∷ [])
unfolding AllUnder
AllUnder-last l [] x h g = (g, tt)
AllUnder-last l (y ∷ ys) x h g = (h.0, AllUnder-last l ys x h.1 g)

under_nothing : (l : Key) → AllUnder l []
unfolding AllUnder
under_nothing l = tt

put_last : (l : Key) (h : Subscriber) (xs : List (Key × Subscriber)) → AllUnder l xs → put by_bytes l h xs ≡ xs ++ (l, h) ∷ []
unfolding AllUnder
put_last l h [] under = refl
put_last l h (x ∷ xs) under = ap (λ o. by_order o ((l, h) ∷ x ∷ xs) ((x.0, h) ∷ xs) (x ∷ put by_bytes l h xs)) under.0 ∙ ap (λ ys. x ∷ ys) (put_last l h xs under.1)

-- ---- order behind a common front
behind : (front a b : List ℕ) → by_bytes (front ++ a) (front ++ b) ≡ by_bytes a b
behind [] a b = refl
behind (x ∷ xs) a b = ap (λ o. ordering_then o (by_bytes (xs ++ a) (xs ++ b))) (tied_itself nat_cmp_total x) ∙ behind xs a b

module _ (foreign : Key) (key : IsKey foreign) where
  abbrev readk : List ℕ → Option Key
  readk bytes = left_at foreign (subscription_key_from bytes)

  -- both parts, where both are there
  abbrev pick : Option Key → Option Subscriber → Option (Key × Subscriber)
  pick (Some l) (Some h) = Some (l, h)
  pick _ _ = None

  abbrev picked : List ℕ × List ℕ → Option (Key × Subscriber)
  picked e = pick (readk e.0) (subscriber_from e.1)

  -- what is read under the key is spelled under it
  left-is : (d : Option (Key × Key)) (l : Key) → left_at foreign d ≡ Some l → d ≡ Some (foreign, l)
  left-is None l e = absurd cc
  left-is (Some x) l e = elim (same_bytes foreign x.0) as (λ t. same_bytes foreign x.0 ≡ t → cond t (Some x.1) None ≡ Some l → Some x ≡ Some (foreign, l)) [
    | true ↦ λ t g.
        let first : x.0 ≡ foreign = sym (bytes-is foreign x.0 t) in
        let second : x.1 ≡ l = cc in
        ap Some (ap₂ (λ y z. (y, z)) first second)
    | false ↦ λ t g. absurd cc
  ] refl e

  spelled_under : (e : List ℕ × List ℕ) (bytes : AreBytes (e ∷ [])) (l : Key) → readk e.0 ≡ Some l → e.0 ≡ long_key foreign ++ l
  unfolding subscription_key
  spelled_under e bytes l is = (subscription_key_codec.back e.0 (foreign, l) bytes.0 (left-is (subscription_key_from e.0) l is)).1

  abbrev with_foreign : Option Key → Option (Key × Key)
  with_foreign None = None
  with_foreign (Some l) = Some (foreign, l)

  abbrev with_hash : Option Subscriber → Key × Key → Option (Key × Subscriber)
  with_hash None k = None
  with_hash (Some h) k = Some (k.1, h)

  -- what stands under the key is read under it
  read_under : (rest : List ℕ) → subscription_key_from (long_key foreign ++ rest) ≡ with_foreign (key_from rest)
  unfolding subscription_key_from
  read_under rest = rw (long_key_again foreign rest key) (by (key_from rest))
    where
      by : (o : Option Key) → (o >>= (λ left. Some (foreign, left))) ≡ with_foreign o
      by None = refl
      by (Some l) = refl

  kept_is : (s : Option (Key × Key)) (h : Option Subscriber) → (s >>= (λ k. h >>= (λ x. Some (k.1, x)))) ≡ (s >>= with_hash h)
  kept_is None h = refl
  kept_is (Some k) None = refl
  kept_is (Some k) (Some x) = refl

  same_pick : (o : Option Key) (h : Option Subscriber) → (with_foreign o >>= with_hash h) ≡ pick (left_at foreign (with_foreign o)) h
  same_pick None h = refl
  same_pick (Some l) None = ap (λ t. pick (cond t (Some l) None) None) (sym (same_itself foreign))
  same_pick (Some l) (Some x) = ap (λ t. pick (cond t (Some l) None) (Some x)) (sym (same_itself foreign))

  kept_there : (e : List ℕ × List ℕ) (rest : List ℕ) → e.0 ≡ long_key foreign ++ rest → kept_in e ≡ picked e
  unfolding kept_in
  kept_there e rest is =
      let read : subscription_key_from e.0 ≡ with_foreign (key_from rest) = ap subscription_key_from is ∙ read_under rest in
      kept_is (subscription_key_from e.0) (subscriber_from e.1)
      ∙ ap (λ (s : Option (Key × Key)). s >>= with_hash (subscriber_from e.1)) read
      ∙ same_pick (key_from rest) (subscriber_from e.1)
      ∙ ap (λ (s : Option (Key × Key)). pick (left_at foreign s) (subscriber_from e.1)) (sym read)

  -- whether a pair stands under the key
  starts : (e : List ℕ × List ℕ) → (starts_with ◌==◌ e.0 (long_key foreign) ≡ true → e.0 ≡ long_key foreign ++ drop (length (long_key foreign)) e.0)
      × ((rest : List ℕ) → e.0 ≡ long_key foreign ++ rest → starts_with ◌==◌ e.0 (long_key foreign) ≡ true)
  starts e = starts_is Decides-eqb e.0 (long_key foreign) (starts_with ◌==◌ e.0 (long_key foreign)) refl

  not_picked : (e : List ℕ × List ℕ) → AreBytes (e ∷ []) → starts_with ◌==◌ e.0 (long_key foreign) ≡ false → picked e ≡ None
  not_picked e bytes apart = by (readk e.0) refl (subscriber_from e.1)
    where
      by : (o : Option Key) → readk e.0 ≡ o → (h : Option Subscriber) → pick o h ≡ None
      by None is h = refl
      by (Some l) is h = absurd (true≢false (sym ((starts e).1 l (spelled_under e bytes l is)) ∙ apart))

  all_picked : (es : Pairs) → AreBytes es → some_of kept_in (filter (λ e. starts_with ◌==◌ e.0 (long_key foreign)) es) ≡ some_of picked es
  all_picked [] bytes = refl
  all_picked (e ∷ es) bytes = elim (starts_with ◌==◌ e.0 (long_key foreign)) as (λ t. starts_with ◌==◌ e.0 (long_key foreign) ≡ t →
      some_of kept_in (cond t (e ∷ filter (λ e. starts_with ◌==◌ e.0 (long_key foreign)) es) (filter (λ e. starts_with ◌==◌ e.0 (long_key foreign)) es)) ≡ with_some (picked e) (some_of picked es)) [
        | true ↦ λ t. ap₂ with_some (kept_there e _ ((starts e).0 t)) (all_picked es bytes.1)
        | false ↦ λ t. all_picked es bytes.1 ∙ ap (λ o. with_some o (some_of picked es)) (sym (not_picked e (bytes.0, tt) t))
      ] refl

  -- ---- the map that is read in order
  -- the keys so far are under those that are still read
  Above : List (Key × Subscriber) → Pairs → Type 0
  Above xs [] = Unit {0}
  Above xs (e ∷ es) = ((l : Key) → readk e.0 ≡ Some l → AllUnder l xs) × Above xs es

  above_nothing : (es : Pairs) → Above [] es
  unfolding Above
  above_nothing [] = tt
  above_nothing (e ∷ es) = (λ l is. under_nothing l, above_nothing es)

  turned : (a b : List ℕ) → by_bytes a b ≡ Less → by_bytes b a ≡ Greater
  turned a b e = nat_list_cmp_total.antisymm b a ∙ ap ordering_reverse e

  above_more : (e : List ℕ × List ℕ) → AreBytes (e ∷ []) → (l : Key) → readk e.0 ≡ Some l → (h : Subscriber) (xs : List (Key × Subscriber)) (es : Pairs) → AreBytes es → T (below_all by_bytes e.0 es) → Above xs es → Above (xs ++ (l, h) ∷ []) es
  unfolding Above
  above_more e own l is h xs [] bytes below above = tt
  above_more e own l is h xs (d ∷ es) bytes below above = (
    λ k at. AllUnder-last k xs (l, h) (above.0 k at)
        (turned l k (sym (behind (long_key foreign) l k) ∙ ap₂ by_bytes (sym (spelled_under e own l is)) (sym (spelled_under d (bytes.0, tt) k at)) ∙ less _ (head _ _ below))),
    above_more e own l is h xs es bytes.1 (tail _ _ below) above.1,
  )
    where
      less : (o : Ordering) → T (is_lt o) → o ≡ Less
      less Less p = refl
      less Equal p = absurd p
      less Greater p = absurd p

      head : (a b : Bool) → T (a && b) → T a
      head true b p = tt
      head false b p = absurd p

      tail : (a b : Bool) → T (a && b) → T b
      tail true b p = p
      tail false b p = absurd p

  sorted_parts : (a b : Bool) → T (a && b) → T a × T b
  sorted_parts true b p = (tt, p)
  sorted_parts false b p = absurd p

  read_all : (es : Pairs) → AreBytes es → T (is_sorted by_bytes es) → (m : FinMap by_bytes Subscriber) → Above (fin.entries m) es →
      fin.entries (fold (λ m e. with_pair by_bytes m (readk e.0) (subscriber_from e.1)) m es) ≡ fin.entries m ++ some_of picked es
  unfolding Above
  read_all [] bytes sorted m above = sym (append-nil (fin.entries m))
  read_all (e ∷ es) bytes sorted m above =
      let parts = sorted_parts (below_all by_bytes e.0 es) (is_sorted by_bytes es) sorted in
      by (readk e.0) refl (subscriber_from e.1) parts.0 (λ w. read_all es bytes.1 parts.1 w)
    where
      by : (o : Option Key) → readk e.0 ≡ o → (h : Option Subscriber) → T (below_all by_bytes e.0 es) →
          ((w : FinMap by_bytes Subscriber) → Above (fin.entries w) es → fin.entries (fold (λ m e. with_pair by_bytes m (readk e.0) (subscriber_from e.1)) w es) ≡ fin.entries w ++ some_of picked es) →
          fin.entries (fold (λ m e. with_pair by_bytes m (readk e.0) (subscriber_from e.1)) (with_pair by_bytes m o h) es) ≡ fin.entries m ++ with_some (pick o h) (some_of picked es)
      by None is h below rest = rest m above.1
      by (Some l) is None below rest = rest m above.1
      by (Some l) is (Some h) below rest =
          let grown : fin.entries (fin.insert m l h) ≡ fin.entries m ++ (l, h) ∷ [] = fin.entries-insert nat_list_cmp_total m l h ∙ put_last l h (fin.entries m) (above.0 l is) in
          rest (fin.insert m l h) (subst (λ xs. Above xs es) (sym grown) (above_more e (bytes.0, tt) l is h (fin.entries m) es bytes.1 below above.1))
          ∙ ap (λ xs. xs ++ some_of picked es) grown ∙ append_assoc (fin.entries m) ((l, h) ∷ []) (some_of picked es)

  read_from_nothing : (es : Pairs) → AreBytes es → T (is_sorted by_bytes es) → fin.entries (map_from by_bytes readk subscriber_from es) ≡ some_of picked es
  unfolding fin.empty fin.entries
  read_from_nothing es bytes sorted = read_all es bytes sorted fin.empty (above_nothing es)

  pub under_key : (m : Store) → AreBytes (fin.entries m) → kept_under foreign m ≡ fin.entries (map_from by_bytes readk subscriber_from (fin.entries m))
  under_key m bytes = all_picked (fin.entries m) bytes ∙ sym (read_from_nothing (fin.entries m) bytes (fin.entries_sorted m))

pub kept_is_decoded : KeptIsDecoded
kept_is_decoded p sub stores n own bytes foreign key =
    let m = stores (number_of p (HashChangelog n)) in
    under_key foreign key m bytes
    ∙ ap (λ c. fin.entries (map_from by_bytes (λ k. left_at foreign (subscription_key_from k)) subscriber_from (cond c (fin.entries m) []))) (sym own)
