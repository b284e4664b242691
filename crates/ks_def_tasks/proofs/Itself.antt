-- What is the same as itself, and so writes nothing.
use Rattle.std.proofs.Common.{◌≡◌, Bool, true, false, cond, [], ◌∷◌, Option, Some, None, refl, ap}
use Rattle.std.specs.Ordering.{is_eq}
use Rattle.std.specs.Cmp.{tied_itself, int_cmp_total}
use Rattle.std.specs.Cmp.Lexicographic.{nat_list_cmp_total}
use Rattle.std.proofs.lemmas.Bool.{and_from}
use Rattle.ks_row.specs.declared.row.Field.{Field}
use Rattle.ks_row.specs.declared.row.Field.TheVariants.{Int, Text}
use Rattle.ks_wire.specs.declared.values.Agg.{Agg}
use Rattle.ks_expr.specs.Eval.{Row, same_field}
use Rattle.ks_query.specs.Streams.{Key}
use Rattle.ks_def_tasks.specs.Messages.{same_row, Stored, same_bool, same_option, same_agg, same_stored}
use Rattle.ks_def_tasks.specs.Messages.Stored.{OfRow, OfAgg}
use Rattle.ks_def_tasks.specs.Messages.Message.{Kept}
use Rattle.ks_def_tasks.specs.Step.{value_changes}

-- ---- what stays writes nothing
field_itself : (f : Field) → same_field f f ≡ true
field_itself (Int z) = ap is_eq (tied_itself int_cmp_total z)
field_itself (Text t) = ap is_eq (tied_itself nat_list_cmp_total t)

-- a row is the same as itself
pub row_itself : (r : Row) → same_row r r ≡ true
row_itself [] = refl
row_itself (m ∷ ms) = and_from _ _ (and_from _ _ (ap is_eq (tied_itself nat_list_cmp_total m.0)) (field_itself m.1)) (row_itself ms)

agg_itself : (a : Agg) → same_agg a a ≡ true
agg_itself a = and_from _ _ (ap is_eq (tied_itself int_cmp_total a.members)) (ap is_eq (tied_itself int_cmp_total a.total))

bool_itself : (b : Bool) → same_bool b b ≡ true
bool_itself true = refl
bool_itself false = refl

stored_itself : (w : Stored) → same_stored w w ≡ true
stored_itself (OfRow row) = row_itself row
stored_itself (OfAgg c a) = and_from _ _ (bool_itself c) (agg_itself a)

-- a value is the same as itself
pub option_itself : (w : Option Stored) → same_option same_stored w w ≡ true
option_itself None = refl
option_itself (Some w) = stored_itself w

pub nothing_changes : (key : Option Key) (w : Option Stored) → value_changes key w w ≡ []
nothing_changes None w = refl
nothing_changes (Some k) w = ap (λ b. cond b [] (Kept k w ∷ [])) (option_itself w)
