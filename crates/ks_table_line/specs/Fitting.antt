-- Rows of tables as the types allow them, and their lines.
use Rattle.std.specs.Prelude.{◌≡◌, ℕ, ◌<◌, ◌^◌, Bool, true, false, List, [], ◌∷◌, ◌++◌, Option, Some, None, ⊤}
use Rattle.ks_record.specs.Texts.{IsKey}
use Rattle.ks_row.specs.Spelling.{FitsRow}
use Rattle.ks_query.specs.declared.table.TableRow.{TableRow}
use Rattle.ks_query.specs.Printed.{row_line}

-- of a windowed table each row has the start of its window, and of another one none
abbrev pub HasStart : Bool → Option ℕ → Type 0
HasStart true (Some start) = start < 2 ^ 64
HasStart true None = ⊥
HasStart false (Some start) = ⊥
HasStart false None = ⊤

pub record FitsTableRow (windowed : Bool) (r : TableRow) : Type 0 where
  pub key : IsKey r.key
  pub start : HasStart windowed r.start
  pub row : FitsRow r.row

-- the line, without its end, of such a row
pub record IsRowLine (windowed : Bool) (line : List ℕ) : Type 0 where
  pub row : TableRow
  pub fits : FitsTableRow windowed row
  pub printed : line ++ 10 ∷ [] ≡ row_line row
