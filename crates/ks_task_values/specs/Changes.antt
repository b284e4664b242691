-- What is written of a value, and whether the nodes below see another row.
use Rattle.std.specs.Prelude.{ℕ, ℤ, Bool, true, false, not, cond, List, get_or, Option, Some, None, option_map}
use Rattle.ks_wire.specs.declared.values.Agg.{Agg}
use Rattle.ks_def_tasks.specs.Messages.{Stored, shown, same_option, same_row, same_stored}
use Rattle.ks_def_tasks.specs.Step.{Values}
use Rattle.ks_def_tasks.specs.Bytes.{stored_bytes}

-- what is written of a value, where it changes
abbrev pub changed_bytes : Option Stored → Option Stored → Option (Option (List ℕ))
changed_bytes old new = cond (same_option same_stored old new) None (Some (option_map stored_bytes new))

-- whether the nodes below see another row
abbrev pub is_other : Option Stored → Option Stored → Bool
is_other old new = not (same_option same_row (option_map shown old) (option_map shown new))

-- ---- by number; none past the end
abbrev pub in_list : List (Option Stored) → Values
in_list os n = get_or os n None

-- what an aggregate's row shows
abbrev pub number_shown : Bool → Agg → ℤ
number_shown true agg = agg.members
number_shown false agg = agg.total
