-- Where the row of each task stands.
use Rattle.std.proofs.Common.{◌≡◌, ℕ, suc, ◌<◌, ◌≤◌, Bool, true, false, cond, List, [], ◌∷◌, length, map, get_or, refl, sym, ap, ◌∙◌, arith}
use Rattle.ks_record.specs.declared.record.TaskId.{TaskId}
use Rattle.ks_record.specs.Parts.{same_task}
use Rattle.ks_history.specs.declared.transaction.Pending.{Pending}
use Rattle.ks_group.specs.Committed.{offsets_of, row_with}
use Rattle.ks_group.specs.Places.{row_place, task_number, ArePlaces}

abbrev Row : Type 0
Row = TaskId × List (ℕ × ℕ)

-- ---- a task's row
pub row-there : (t : TaskId) (rows : List Row) (d : Row) → row_place t rows < length rows → (get_or rows (row_place t rows) d).1 ≡ offsets_of t rows
row-there t [] d h = absurd (omega (arith, h))
row-there t (row ∷ rows) d h = by (same_task t row.0) h (row-there t rows d)
  where
    by : (b : Bool) → cond b 0 (suc (row_place t rows)) < suc (length rows) → (row_place t rows < length rows → (get_or rows (row_place t rows) d).1 ≡ offsets_of t rows)
        → (get_or (row ∷ rows) (cond b 0 (suc (row_place t rows))) d).1 ≡ cond b row.1 (offsets_of t rows)
    by true h more = refl
    by false h more = more (omega (arith, h))

pub no_row : (t : TaskId) (rows : List Row) → length rows ≤ row_place t rows → offsets_of t rows ≡ []
no_row t [] h = refl
no_row t (row ∷ rows) h = by (same_task t row.0) h (no_row t rows)
  where
    by : (b : Bool) → suc (length rows) ≤ cond b 0 (suc (row_place t rows)) → (length rows ≤ row_place t rows → offsets_of t rows ≡ []) → cond b row.1 (offsets_of t rows) ≡ []
    by true h more = absurd (omega (arith, h))
    by false h more = more (omega (arith, h))

-- ---- after a commit
place-with : (pending : List Pending) (t : TaskId) (rows : List Row) → row_place t (map (row_with pending) rows) ≡ row_place t rows
place-with pending t [] = refl
place-with pending t (row ∷ rows) = ap (λ n. cond (same_task t row.0) 0 (suc n)) (place-with pending t rows)

length-with : (pending : List Pending) (rows : List Row) → length (map (row_with pending) rows) ≡ length rows
length-with pending [] = refl
length-with pending (row ∷ rows) = ap suc (length-with pending rows)

pub places-with : (places : List ℕ) (pending : List Pending) (rows rows' : List Row) → rows' ≡ map (row_with pending) rows → ArePlaces places rows → ArePlaces places rows'
places-with places pending rows rows' is k t h =
    ap (get_or places (task_number t)) (ap length is ∙ length-with pending rows) ∙ k t h ∙ sym (ap (row_place t) is ∙ place-with pending t rows)
