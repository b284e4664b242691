-- What an answer shows has no float, so its text is told.
use Rattle.std.proofs.Common.{◌≡◌, ℕ, List, [], Bool, true, false, ◌||◌, refl, ap, ◌∙◌}
use Rattle.std.specs.Prelude.{Option, Some, None}
use Rattle.serde_json.specs.Data.{Data}
use Rattle.serde_json.specs.Written.{has_float, compact_text}
use Rattle.ks_expr.specs.Eval.{Row}
use Rattle.ks_query.specs.Printed.{row_object}
use Rattle.ks_query.proofs.Floats.{no_float_in_row}
use Rattle.ks_run_ask.specs.Texts.{value_data}

first_is : (a : Bool) → (a || false) ≡ false → a ≡ false
first_is true e = e
first_is false e = refl

no_float : (value : Option Row) → has_float (value_data value) ≡ false
no_float None = refl
no_float (Some row) = first_is (has_float (row_object row)) (no_float_in_row (record { key = []; start = None; row = row }))

pub text_is : (value : Option Row) (d : Data) (text : List ℕ) → d ≡ value_data value → (has_float d ≡ false → text ≡ compact_text d) → text ≡ compact_text (value_data value)
text_is value d text e t = t (ap has_float e ∙ no_float value) ∙ ap compact_text e
