-- What is left of a settled run's output at each place of it.
use Rattle.std.proofs.Common.{◌≡◌, ℕ, suc, ◌<◌, ◌^◌, Bool, List, [], ◌∷◌, ◌++◌, length, map}
use Rattle.std.specs.Prelude.{codes}
use Rattle.std.specs.Str.{IsUtf8}
use Rattle.ks_job_source.specs.Cutting.{HasNoEnd}
use Rattle.std.specs.List.{AllByRecursion, flat_map}
use Rattle.ks_plan.specs.Drafts.{Name, DraftView}
use Rattle.ks_query.specs.declared.table.Table.{Table}
use Rattle.ks_query.specs.declared.table.TableRow.{TableRow}
use Rattle.ks_query.specs.Printed.{row_line, tables_text}
use Rattle.ks_history.specs.declared.journal.Entry.{Entry}
use Rattle.ks_journal.specs.Lines.{journal_text}
use Rattle.ks_table_line.specs.Fitting.{FitsTableRow}
use Rattle.ks_audit_verdict.specs.Places.{Place, has_windows}
use Rattle.ks_audit_verdict.specs.Places.Place.{first_line, table_head, table_row, journal_line}

abbrev pub RowsFit : Bool → List TableRow → Type 0
RowsFit windowed rows = AllByRecursion (FitsTableRow windowed) rows

abbrev pub TablesFit : DraftView → List Table → Type 0
TablesFit d [] = Unit {0}
TablesFit d (t ∷ ts) = RowsFit (has_windows d t.name) t.rows × (length t.rows < 2 ^ 64) × IsUtf8 t.name × HasNoEnd t.name × TablesFit d ts

abbrev pub names_of : List Table → List Name
names_of ts = map (λ t. t.name) ts

abbrev pub Left : DraftView → List Table → List Entry → Place → List ℕ → Type 0
Left d tables journal first_line rest = rest ≡ codes "settled" ++ 10 ∷ (tables_text tables ++ journal_text journal)
Left d tables journal (table_head name names) rest = (ts : List Table) × (names_of ts ≡ name ∷ names) × TablesFit d ts × (rest ≡ tables_text ts ++ journal_text journal)
Left d tables journal (table_row windowed left names) rest =
    (rows : List TableRow) × (ts : List Table) × (length rows ≡ suc left) × RowsFit windowed rows × (names_of ts ≡ names) × TablesFit d ts × (rest ≡ flat_map row_line rows ++ (tables_text ts ++ journal_text journal))
Left d tables journal (journal_line told) rest = (more : List Entry) × (journal ≡ told ++ more) × (rest ≡ journal_text more)
