-- The query, key by key: what each word of its definition answers.
use Rattle.std.proofs.Common.{◌≡◌, ℕ, Bool, true, false, cond, ◌||◌, T, List, [], ◌∷◌, ◌++◌, Option, Some, None, fold, refl, sym, ap, ap₂, ◌∙◌}
use Rattle.std.specs.Prelude.{option_and_then, option_map, is_some, is_none}
use Rattle.std.specs.List.{list_any}
use Rattle.std.specs.declared.cmp.Ordering.{Ordering}
use Rattle.std.specs.Ordering.{eq_by_cmp}
use Rattle.std.specs.Cmp.{IsTotalOrder}
use Rattle.std.specs.Cmp.Lexicographic.{nat_list_cmp_total}
use Rattle.std.specs.FinMap.{IsAntisymmetric, slice_cmp-IsAntisymmetric, nat_cmp-IsAntisymmetric}
use Rattle.std.specs.FinMap.Entries.{find, is_sorted, is_some-find}
use Rattle.ks_expr.specs.declared.terms.JoinKind.{JoinKind}
use Rattle.ks_expr.specs.declared.terms.JoinKind.TheVariants.{Inner, Left as LeftJoin, Outer}
use Rattle.ks_expr.specs.Terms.{Set}
use Rattle.ks_expr.specs.Eval.{Row, joined}
use Rattle.ks_def_runs.specs.FinMap as fin
use Rattle.ks_def_runs.specs.FinMap.{FinMap}
use Rattle.ks_def_runs.specs.Table.{write}
use Rattle.ks_def_runs.specs.Bytes.{by_bytes}
use Rattle.ks_def_runs.proofs.Tables.{equal, get-write, get-latest, find_below, head_of, tail_of}
use Rattle.ks_wire.specs.declared.values.Agg.{Agg}
use Rattle.ks_query.specs.Streams.{Key}
use Rattle.ks_query.specs.Aggregates.{agg_row, stream_add}
use Rattle.ks_expr.specs.Keys.{fk_of}
use Rattle.ks_query.specs.Query.{Table, add_to, map_rows, map_values, aggregate, key_join, right_row, foreign_join}
use Rattle.ks_query.specs.Laws.{LatestIsLast, ValuesAreMapped, KeysAreJoined, ForeignKeysAreJoined, rows_of, sum_of_rows, GroupsAreOfTheirRows}

-- ---- rows mapped
module _ {K X Y : Type 0} {R : K → K → Ordering} (o : IsTotalOrder R) (same : IsAntisymmetric R) where
  abbrev onto : (X → Option Y) → Option Y → Option X → Option Y
  onto f old None = old
  onto f old (Some x) = f x

  rows_fold : (f : K → X → Option Y) (acc : FinMap R Y) (es : List (K × X)) → T (is_sorted R es) → (q : K) → fin.get (fold (λ n e. write R n e.0 (f e.0 e.1)) acc es) q ≡ onto (f q) (fin.get acc q) (find R q es)
  rows_fold f acc [] h q = refl
  rows_fold f acc (e ∷ es) h q =
      rows_fold f (write R acc e.0 (f e.0 e.1)) es (tail_of _ _ h) q
      ∙ elim (eq_by_cmp R q e.0) as (λ b. eq_by_cmp R q e.0 ≡ b → onto (f q) (fin.get (write R acc e.0 (f e.0 e.1)) q) (find R q es) ≡ onto (f q) (fin.get acc q) (cond b (Some e.1) (find R q es))) [
        | true ↦ λ b.
            let is : q ≡ e.0 = same q e.0 (equal _ b) in
            let none : find R q es ≡ None = ap (λ k. find R k es) is ∙ find_below o (λ x. 0) e.0 es (head_of _ _ h) in
            ap (onto (f q) (fin.get (write R acc e.0 (f e.0 e.1)) q)) none ∙ get-write o acc e.0 (f e.0 e.1) q ∙ ap (λ c. cond c (f e.0 e.1) (fin.get acc q)) b ∙ ap (λ k. f k e.1) (sym is)
        | false ↦ λ b. ap (λ v. onto (f q) v (find R q es)) (get-write o acc e.0 (f e.0 e.1) q ∙ ap (λ c. cond c (f e.0 e.1) (fin.get acc q)) b)
      ] refl

  pub get-map_rows : (f : K → X → Option Y) (m : FinMap R X) (q : K) → fin.get (map_rows f m) q ≡ option_and_then (f q) (fin.get m q)
  get-map_rows f m q =
      rows_fold f fin.empty (fin.entries m) (fin.entries_sorted m) q ∙ ap (λ v. onto (f q) v (find R q (fin.entries m))) (fin.get-empty R q)
      ∙ of_found (find R q (fin.entries m)) ∙ ap (option_and_then (f q)) (sym (fin.get-entries m q))
    where
      of_found : (x : Option X) → onto (f q) None x ≡ option_and_then (f q) x
      of_found None = refl
      of_found (Some x) = refl

  pub get-map_values : (f : X → Option Y) (m : FinMap R X) (q : K) → fin.get (map_values f m) q ≡ option_and_then f (fin.get m q)
  get-map_values f m q = get-map_rows (λ k. f) m q

module _ {K Y : Type 0} {R : K → K → Ordering} (o : IsTotalOrder R) (same : IsAntisymmetric R) where
  -- rows written at keys
  keys_fold : (f : K → Option Y) (acc : FinMap R Y) (ks : List K) (q : K) → fin.get (fold (λ t k. write R t k (f k)) acc ks) q ≡ cond (list_any (eq_by_cmp R q) ks) (f q) (fin.get acc q)
  keys_fold f acc [] q = refl
  keys_fold f acc (k ∷ ks) q =
      keys_fold f (write R acc k (f k)) ks q
      ∙ ap (λ v. cond (list_any (eq_by_cmp R q) ks) (f q) v) (get-write o acc k (f k) q)
      ∙ elim (eq_by_cmp R q k) as (λ b. eq_by_cmp R q k ≡ b → cond (list_any (eq_by_cmp R q) ks) (f q) (cond b (f k) (fin.get acc q)) ≡ cond (b || list_any (eq_by_cmp R q) ks) (f q) (fin.get acc q)) [
        | true ↦ λ b. ap (λ v. cond (list_any (eq_by_cmp R q) ks) (f q) v) (ap f (sym (same q k (equal _ b)))) ∙ either (list_any (eq_by_cmp R q) ks) (f q)
        | false ↦ λ b. refl
      ] refl
    where
      either : (b : Bool) (v : Option Y) → cond b v v ≡ v
      either true v = refl
      either false v = refl

any_append : {A : Type 0} (f : A → Bool) (xs ys : List A) → list_any f (xs ++ ys) ≡ (list_any f xs || list_any f ys)
any_append f [] ys = refl
any_append f (x ∷ xs) ys = elim (f x) as (λ b. (b || list_any f (xs ++ ys)) ≡ ((b || list_any f xs) || list_any f ys)) [ true ↦ refl | false ↦ any_append f xs ys ]

either_false : (a b : Bool) → (a || b) ≡ false → (a ≡ false) × (b ≡ false)
either_false false b e = (refl, e)
either_false true b e = cc

none_there : {X : Type 0} (w : Option X) → is_some w ≡ false → w ≡ None
none_there None e = refl
none_there (Some x) e = cc

nothing_joined : (kind : JoinKind) (set : Set) → joined kind set None None ≡ None
nothing_joined Inner set = refl
nothing_joined LeftJoin set = refl
nothing_joined Outer set = refl

pub get-key_join : (kind : JoinKind) (set : Set) (l r : Table) (q : Key) → fin.get (key_join kind set l r) q ≡ joined kind set (fin.get l q) (fin.get r q)
get-key_join kind set l r q =
    let row : Key → Option Row = λ k. joined kind set (fin.get l k) (fin.get r k) in
    keys_fold nat_list_cmp_total (slice_cmp-IsAntisymmetric nat_cmp-IsAntisymmetric) row fin.empty (fin.keys l ++ fin.keys r) q
    ∙ elim (list_any (eq_by_cmp by_bytes q) (fin.keys l ++ fin.keys r)) as (λ b. list_any (eq_by_cmp by_bytes q) (fin.keys l ++ fin.keys r) ≡ b → cond b (row q) (fin.get (fin.empty {X = Row} {R = by_bytes}) q) ≡ row q) [
      | true ↦ λ b. refl
      | false ↦ λ b.
          let both = either_false _ _ (sym (any_append (eq_by_cmp by_bytes q) (fin.keys l) (fin.keys r)) ∙ b) in
          fin.get-empty by_bytes q ∙ sym (nothing_joined kind set) ∙ ap₂ (joined kind set) (sym (absent l both.0)) (sym (absent r both.1))
    ] refl
  where
    absent : (t : Table) → list_any (eq_by_cmp by_bytes q) (fin.keys t) ≡ false → fin.get t q ≡ None
    absent t e = none_there (fin.get t q) (ap is_some (fin.get-entries t q) ∙ is_some-find by_bytes q (fin.entries t) ∙ e)

-- ---- the laws
bytes_same : IsAntisymmetric by_bytes
bytes_same = slice_cmp-IsAntisymmetric nat_cmp-IsAntisymmetric

pub latest_is_last : LatestIsLast
latest_is_last changes k = get-latest nat_list_cmp_total changes k

pub values_are_mapped : ValuesAreMapped
values_are_mapped f t k = get-map_values nat_list_cmp_total bytes_same f t k

pub keys_are_joined : KeysAreJoined
keys_are_joined kind set l r k = get-key_join kind set l r k

pub foreign_keys_are_joined : ForeignKeysAreJoined
foreign_keys_are_joined fk kind set l r k = get-map_rows nat_list_cmp_total bytes_same (λ p v. joined kind set (Some v) (right_row r (fk_of fk p v))) l k

-- a group is that of its own rows, from what it was
added_rows : (field : Option (List ℕ)) (xs : List (Key × Row)) (m : FinMap by_bytes Agg) (old : Option Agg) (g : Key) → fin.get m g ≡ old →
    fin.get (fold (add_to {R = by_bytes} field) m xs) g ≡ fold (λ old row. Some (stream_add field old row)) old (rows_of g xs)
added_rows field [] m old g e = e
added_rows field (x ∷ xs) m old g e =
    by (eq_by_cmp by_bytes g x.0) refl (λ now is. added_rows field xs (add_to {R = by_bytes} field m x) now g is)
  where
    next : FinMap by_bytes Agg
    next = add_to {R = by_bytes} field m x

    added : Option Agg → List Row → Option Agg
    added old rows = fold (λ old row. Some (stream_add field old row)) old rows

    by : (b : Bool) → eq_by_cmp by_bytes g x.0 ≡ b → ((now : Option Agg) → fin.get next g ≡ now → fin.get (fold (add_to {R = by_bytes} field) next xs) g ≡ added now (rows_of g xs)) →
        fin.get (fold (add_to {R = by_bytes} field) next xs) g ≡ added old (cond b (x.1 ∷ rows_of g xs) (rows_of g xs))
    by true b more =
        let is : g ≡ x.0 = bytes_same g x.0 (equal _ b) in
        more (Some (stream_add field old x.1)) (get-write nat_list_cmp_total m x.0 (Some (stream_add field (fin.get m x.0) x.1)) g
        ∙ (ap (λ c. cond c (Some (stream_add field (fin.get m x.0) x.1)) (fin.get m g)) b ∙ ap (λ o. Some (stream_add field o x.1)) (ap (λ k. fin.get m k) (sym is) ∙ e)))
    by false b more = more old (get-write nat_list_cmp_total m x.0 (Some (stream_add field (fin.get m x.0) x.1)) g ∙ (ap (λ c. cond c (Some (stream_add field (fin.get m x.0) x.1)) (fin.get m g)) b ∙ e))

pub groups_are_of_their_rows : GroupsAreOfTheirRows
groups_are_of_their_rows field xs g =
    get-map_values nat_list_cmp_total bytes_same (λ a. Some (agg_row (is_none field) a)) (fold (add_to {R = by_bytes} field) fin.empty xs) g
    ∙ ap (option_and_then (λ a. Some (agg_row (is_none field) a))) (added_rows field xs fin.empty None g (fin.get-empty by_bytes g))
    ∙ shown (sum_of_rows field (rows_of g xs))
  where
    shown : (w : Option Agg) → option_and_then (λ a. Some (agg_row (is_none field) a)) w ≡ option_map (agg_row (is_none field)) w
    shown None = refl
    shown (Some a) = refl
