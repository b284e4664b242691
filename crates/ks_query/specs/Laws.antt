-- What the words of the query answer, key by key.
use Rattle.std.specs.Prelude.{◌≡◌, ℕ, ◌%◌, ◌^◌, List, [], ◌∷◌, Option, Some, None, cond, fold, option_map, option_and_then, is_none, length}
use Rattle.std.specs.Int.{w64, cast_unsigned}
use Rattle.std.specs.Ordering.{eq_by_cmp}
use Rattle.ks_expr.specs.declared.terms.JoinKind.{JoinKind}
use Rattle.ks_expr.specs.declared.terms.Fk.{Fk}
use Rattle.ks_expr.specs.Terms.{Set}
use Rattle.ks_expr.specs.Keys.{fk_of}
use Rattle.ks_expr.specs.Eval.{Row, joined}
use Rattle.ks_def_runs.specs.FinMap as map
use Rattle.ks_def_runs.specs.Bytes.{by_bytes}
use Rattle.ks_def_runs.specs.Table.{Change, last, latest}
use Rattle.ks_wire.specs.declared.values.Agg.{Agg}
use Rattle.ks_query.specs.Aggregates.{agg_row, stream_add}
use Rattle.ks_query.specs.Streams.{Key}
use Rattle.ks_query.specs.Query.{Table, map_values, aggregate, key_join, right_row, foreign_join}

-- a table is the last value of each key
abbrev pub LatestIsLast : Type 0
LatestIsLast = (changes : List (Change Key Row)) (k : Key) → map.get (latest by_bytes changes) k ≡ last by_bytes changes k

-- a filter and a mapping act row by row
abbrev pub ValuesAreMapped : Type 0
ValuesAreMapped = (f : Row → Option Row) (t : Table) (k : Key) → map.get (map_values f t) k ≡ option_and_then f (map.get t k)

-- a join of two tables by their keys: of the rows at a key, where they are
abbrev pub KeysAreJoined : Type 0
KeysAreJoined = (kind : JoinKind) (set : Set) (l r : Table) (k : Key) → map.get (key_join kind set l r) k ≡ joined kind set (map.get l k) (map.get r k)

-- a join by a foreign key: of each left row and the right row at its foreign key, where they are
abbrev pub ForeignKeysAreJoined : Type 0
ForeignKeysAreJoined = (fk : Fk) (kind : JoinKind) (set : Set) (l r : Table) (k : Key) →
    map.get (foreign_join fk kind set l r) k ≡ option_and_then (λ v. joined kind set (Some v) (right_row r (fk_of fk k v))) (map.get l k)

-- ---- groups
-- the rows of a group, in their order
abbrev pub rows_of : Key → List (Key × Row) → List Row
rows_of g [] = []
rows_of g (x ∷ xs) = cond (eq_by_cmp by_bytes g x.0) (x.1 ∷ rows_of g xs) (rows_of g xs)

-- these rows added one after another; none of no row
abbrev pub sum_of_rows : Option (List ℕ) → List Row → Option Agg
sum_of_rows field rows = fold (λ old row. Some (stream_add field old row)) None rows

-- each group has the aggregate of its own rows, and none without a row
abbrev pub GroupsAreOfTheirRows : Type 0
GroupsAreOfTheirRows = (field : Option (List ℕ)) (xs : List (Key × Row)) (g : Key) →
    map.get (aggregate {R = by_bytes} field xs) g ≡ option_map (agg_row (is_none field)) (sum_of_rows field (rows_of g xs))

-- it has as many members as it has rows, modulo 2^64, and is absent without a row
abbrev pub members_of : List Row → Option ℕ
members_of [] = None
members_of (row ∷ rows) = Some (length (row ∷ rows) % 2 ^ 64)

abbrev pub MembersAreCounted : Type 0
MembersAreCounted = (field : Option (List ℕ)) (rows : List Row) → option_map (λ a. cast_unsigned w64 a.members) (sum_of_rows field rows) ≡ members_of rows
