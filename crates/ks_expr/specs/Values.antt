-- Values without memory of their own, as fields.
use Rattle.std.specs.Prelude.{ℕ, ℤ, ◌==◌, Bool, false, suc, List, [], ◌∷◌, Option, Some, None, option_map, if◌then◌else◌}
use Rattle.std.specs.Ordering.{nat_cmp, is_lt}
use Rattle.std.specs.Cmp.Lexicographic.{slice_cmp, pointwise}
use Rattle.ks_row.specs.Rows.{Member}
use Rattle.ks_row.specs.declared.row.Field.{Field}
use Rattle.ks_row.specs.declared.row.Field.TheVariants as field
use Rattle.ks_expr.specs.declared.value.Value.{Value}
use Rattle.ks_expr.specs.declared.value.Value.TheVariants.{Int, Text}

abbrev pub field_seen : Value → Field
field_seen (Int z) = field.Int z
field_seen (Text t) = field.Text t.now

abbrev pub found : Option Value → Option Field
found v = option_map field_seen v

abbrev pub number_in : Field → Option ℤ
number_in (field.Int z) = Some z
number_in (field.Text s) = None

-- how many of the first members have a name below this one
abbrev pub place_for : List ℕ → List Member → ℕ
place_for name [] = 0
place_for name (m ∷ ms) = if is_lt (slice_cmp nat_cmp m.0 name) then suc (place_for name ms) else 0

abbrev pub is_named : List ℕ → Option Member → Bool
is_named name None = false
is_named name (Some m) = pointwise ◌==◌ m.0 name
