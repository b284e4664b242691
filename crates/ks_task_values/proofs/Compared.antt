-- What stays: a row has one spelling, so that bytes tell whether a row is another.
use Rattle.std.proofs.Common.{◌≡◌, ℕ, Bool, true, false, ◌&&◌, List, Option, Some, None, cond, not, refl, sym, ap, subst, ◌∙◌}
use Rattle.std.specs.Prelude.{option_map, nat_eq}
use Rattle.std.specs.Cmp.Lexicographic.{pointwise, same_text, other_text}
use Rattle.std.specs.Ordering.{eq_by_cmp, int_cmp}
use Rattle.ks_record.specs.Bytes.{IsBytes}
use Rattle.ks_row.specs.Spelling.{FitsRow, spelling}
use Rattle.ks_row.specs.Reading.{row_from}
use Rattle.ks_row.proofs.Spelled.{row_codec}
use Rattle.ks_wire.specs.declared.values.Agg.{Agg}
use Rattle.ks_expr.specs.Eval.{Row}
use Rattle.ks_def_tasks.specs.Messages.{same_row, same_stored, same_option, same_bool, shown}
use Rattle.ks_def_tasks.specs.Messages.Stored.{OfRow, OfAgg}
use Rattle.ks_def_tasks.proofs.Same.{row-is}
use Rattle.ks_def_tasks.proofs.Itself.{row_itself, option_itself}
use Rattle.ks_def_tasks.specs.Bytes.{stored_bytes}
use Rattle.ks_task_values.specs.Changes.{changed_bytes, is_other, number_shown}
use Rattle.ks_task_nodes.proofs.Spellings.{read_again}

abbrev is_row : Option Row → Row → Bool
is_row old row = same_option same_stored (option_map OfRow old) (Some (OfRow row))

other_row : (old : Option Row) (row : Row) → (old ≡ Some row → ⊥) → false ≡ is_row old row
other_row None row other = refl
other_row (Some old) row other = by (same_row old row) refl
  where
    by : (b : Bool) → same_row old row ≡ b → false ≡ b
    by false e = refl
    by true e = absurd (other (ap Some (row-is old row e)))

-- bytes that are the row's spelling are that row, and all others aren't
pub told_by_bytes : (bytes : List ℕ) (row : Row) → IsBytes bytes → FitsRow row → (spelled : List ℕ) → spelled ≡ spelling row → pointwise nat_eq bytes spelled ≡ is_row (row_from bytes) row
told_by_bytes bytes row are fits spelled is = by (pointwise nat_eq bytes spelled) refl
  where
    by : (b : Bool) → b ≡ pointwise nat_eq bytes spelled → b ≡ is_row (row_from bytes) row
    by true e =
        let same : bytes ≡ spelling row = same_text bytes spelled e ∙ is in
        sym (ap (λ o. is_row o row) (ap row_from same ∙ row_codec.again row fits) ∙ row_itself row)
    by false e = other_row (row_from bytes) row (λ read. other_text bytes spelled e ((row_codec.back bytes row are read).1 ∙ sym is))

pub same_rows : (bytes : List ℕ) (a b : Row) → bytes ≡ spelling a → FitsRow a → same_option same_stored (option_map OfRow (row_from bytes)) (Some (OfRow b)) ≡ same_row a b
same_rows bytes a b is fits = ap (λ o. same_option same_stored (option_map OfRow o) (Some (OfRow b))) (read_again bytes a is fits)

-- ---- equal bytes
pub nothing_changed : (a b : List ℕ) → pointwise nat_eq a b ≡ true → None ≡ changed_bytes (option_map OfRow (row_from a)) (option_map OfRow (row_from b))
nothing_changed a b e = subst (λ c. None ≡ changed_bytes (option_map OfRow (row_from a)) (option_map OfRow (row_from c))) (same_text a b (sym e))
    (ap (λ t. cond t None (Some (option_map stored_bytes (option_map OfRow (row_from a))))) (sym (option_itself (option_map OfRow (row_from a)))))

rows_itself : (o : Option Row) → same_option same_row (option_map shown (option_map OfRow o)) (option_map shown (option_map OfRow o)) ≡ true
rows_itself None = refl
rows_itself (Some row) = row_itself row

pub nothing_other : (a b : List ℕ) → pointwise nat_eq a b ≡ true → false ≡ is_other (option_map OfRow (row_from a)) (option_map OfRow (row_from b))
nothing_other a b e = subst (λ c. false ≡ is_other (option_map OfRow (row_from a)) (option_map OfRow (row_from c))) (same_text a b (sym e))
    (ap not (sym (rows_itself (row_from a))))

-- a row is shown as it is stored
pub same_shown : (o : Option Row) (row : Row) → not (same_option same_stored (option_map OfRow o) (Some (OfRow row))) ≡ is_other (option_map OfRow o) (Some (OfRow row))
same_shown None row = refl
same_shown (Some other) row = refl

-- ---- the rows of aggregates show one number each
same_number : (b : Bool) → not b ≡ not (b && true)
same_number true = refl
same_number false = refl

pub same_totals : (c d : Bool) (a b : Agg) → same_bool c d ≡ true → not (eq_by_cmp int_cmp (number_shown d a) (number_shown d b)) ≡ is_other (Some (OfAgg c a)) (Some (OfAgg d b))
same_totals true true a b e = same_number (eq_by_cmp int_cmp a.members b.members)
same_totals false false a b e = same_number (eq_by_cmp int_cmp a.total b.total)
same_totals true false a b e = cc
same_totals false true a b e = cc

pub other_totals : (c d : Bool) (a b : Agg) → same_bool c d ≡ false → true ≡ is_other (Some (OfAgg c a)) (Some (OfAgg d b))
other_totals true false a b e = refl
other_totals false true a b e = refl
other_totals true true a b e = cc
other_totals false false a b e = cc
