-- Aggregates: members and a total, how items and table rows change them, and the row that one is shown as.
-- Kafka Streams developer guide, "Aggregating": of a table, the old row is subtracted and the new one added.
use Rattle.std.specs.Prelude.{ℕ, ℤ, pos, List, [], ◌∷◌, ◌++◌, Option, Some, None, Bool, true, false, cond, ◌&&◌}
use Rattle.std.specs.Int.{w64, cast_signed, cast_unsigned, int_wrapping_add, int_wrapping_sub}
use Rattle.std.specs.Ordering.{int_cmp, eq_by_cmp}
use Rattle.ks_row.specs.Rows.{field_of}
use Rattle.ks_row.specs.declared.row.Field.{Field}
use Rattle.ks_row.specs.declared.row.Field.TheVariants.{Int}
use Rattle.ks_row.specs.FieldKeys.{field_key}
use Rattle.ks_expr.specs.Eval.{Row, same_bytes}
use Rattle.ks_wire.specs.declared.values.Agg.{Agg}
use Rattle.ks_wire.specs.declared.values.Delta.{Delta}
use Rattle.ks_query.specs.Streams.{Key}

-- a field that is absent or a text counts 0
abbrev pub int_of : Option Field → ℤ
int_of (Some (Int z)) = z
int_of _ = pos 0

-- in 64 bits, where a row's number is
abbrev pub as_i64 : ℤ → ℤ
as_i64 z = cast_signed w64 (cast_unsigned w64 z)

-- what a row adds to the total of a sum's field; nothing to a count's
abbrev pub amount_in : Option (List ℕ) → Row → ℤ
amount_in None row = pos 0
amount_in (Some field) row = as_i64 (int_of (field_of field row))

abbrev pub nothing_yet : Agg
nothing_yet = record { members = pos 0; total = pos 0 }

abbrev pub or_nothing : Option Agg → Agg
or_nothing None = nothing_yet
or_nothing (Some a) = a

abbrev pub plus : Agg → ℤ → Agg
plus a z = record { members = int_wrapping_add w64 a.members (pos 1); total = int_wrapping_add w64 a.total z }

abbrev pub minus : Agg → ℤ → Agg
minus a z = record { members = int_wrapping_sub w64 a.members (pos 1); total = int_wrapping_sub w64 a.total z }

-- one more item of a stream
abbrev pub stream_add : Option (List ℕ) → Option Agg → Row → Agg
stream_add field old row = plus (or_nothing old) (amount_in field row)

abbrev pub is_zero : ℤ → Bool
is_zero z = eq_by_cmp int_cmp z (pos 0)

-- a group without members isn't kept
abbrev pub with_members : Agg → Option Agg
with_members a = cond (is_zero a.members) None (Some a)

abbrev pub moved : Agg → Delta → Agg
moved a d = cond d.add (plus a d.amount) (minus a d.amount)

-- one row of a table that joins or leaves
abbrev pub table_apply : Option Agg → Delta → Option Agg
table_apply old d = with_members (moved (or_nothing old) d)

-- "count" and "sum"
abbrev pub count_name : List ℕ
count_name = 99 ∷ 111 ∷ 117 ∷ 110 ∷ 116 ∷ []

abbrev pub sum_name : List ℕ
sum_name = 115 ∷ 117 ∷ 109 ∷ []

-- shown as {"count": members} or {"sum": total}
abbrev pub agg_row : Bool → Agg → Row
agg_row true a = (count_name, Int a.members) ∷ []
agg_row false a = (sum_name, Int a.total) ∷ []

-- ---- the sending part of a table aggregate
-- the group and the amount of a row, where it has a group
abbrev pub with_amount : ℤ → Option Key → Option (Key × ℤ)
with_amount z None = None
with_amount z (Some g) = Some (g, z)

abbrev pub share_under : List ℕ → Option (List ℕ) → Option Row → Option (Key × ℤ)
share_under by field None = None
share_under by field (Some row) = with_amount (amount_in field row) (field_key by row)

abbrev pub same_share : Option (Key × ℤ) → Option (Key × ℤ) → Bool
same_share None None = true
same_share (Some a) (Some b) = same_bytes a.0 b.0 && eq_by_cmp int_cmp a.1 b.1
same_share (Some a) None = false
same_share None (Some b) = false

abbrev pub deltas_of : Bool → Option (Key × ℤ) → List (Key × Delta)
deltas_of add None = []
deltas_of add (Some s) = (s.0, record { add = add; amount = s.1 }) ∷ []

-- a row changes: the subtraction, then the addition; nothing where group and amount stay
abbrev pub table_parts : List ℕ → Option (List ℕ) → Option Row → Option Row → List (Key × Delta)
table_parts by field old new =
    let before = share_under by field old in
    let now = share_under by field new in
    cond (same_share before now) [] (deltas_of false before ++ deltas_of true now)
