-- The lines of two halves are those of the whole.
use Rattle.std.proofs.Common.{◌≡◌, List, ◌++◌, sym, ap, ◌∙◌}
use Rattle.std.specs.List.{flat_map}
use Rattle.std.proofs.lemmas.Grind.{flat_map-append}
use Rattle.ks_query.specs.declared.table.TableRow.{TableRow}
use Rattle.ks_query.specs.Printed.{row_line}

pub both_printed : (front back rows : List TableRow) → front ++ back ≡ rows → flat_map row_line front ++ flat_map row_line back ≡ flat_map row_line rows
both_printed front back rows e = sym (flat_map-append row_line front back) ∙ ap (flat_map row_line) e
