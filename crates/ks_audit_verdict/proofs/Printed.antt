-- A settled run's output, line by line: none of its lines is refused.
use Rattle.std.proofs.Common.{◌≡◌, ℕ, ◌<◌, ◌^◌, Bool, List, [], ◌∷◌, ◌++◌, length, decimal, refl, sym, ap, subst, ◌∙◌, append_assoc, append-nil, arith}
use Rattle.std.specs.Prelude.{codes}
use Rattle.std.specs.Str.{IsUtf8}
use Rattle.std.specs.List.{flat_map}
use Rattle.ks_plan.specs.Drafts.{Name, DraftView}
use Rattle.ks_query.specs.declared.table.Table.{Table}
use Rattle.ks_query.specs.declared.table.TableRow.{TableRow}
use Rattle.ks_query.specs.Printed.{head_line, row_line, row_data, table_text, tables_text}
use Rattle.ks_history.specs.declared.journal.Entry.{Entry}
use Rattle.ks_journal.specs.Lines.{entry_text, line_text, journal_text}
use Rattle.serde_json.specs.Written.{compact_text}
use Rattle.ks_job_source.specs.Cutting.{HasNoEnd}
use Rattle.ks_audit_verdict.specs.Lines.{ended}
use Rattle.ks_journal.specs.Fits.{FitsEntry, FitsJournal}
use Rattle.ks_table_line.specs.Fitting.{IsRowLine}
use Rattle.ks_audit_verdict.specs.Places.{Place, next_table, next_row, has_windows}
use Rattle.ks_audit_verdict.specs.Places.Place.{first_line, table_head, table_row, journal_line}
use Rattle.ks_audit_verdict.proofs.Left.{RowsFit, TablesFit, names_of, Left}
use Rattle.ks_audit_verdict.proofs.Chains.{same_cut, no_end_both}
use Rattle.ks_audit_verdict.proofs.LineTexts.{decimal_plain, entry_plain, row_plain}

-- ---- texts, cut at their first line
abbrev pub head_front : Name → List ℕ
head_front name = codes "table " ++ name ++ codes " "

pub head_is : (name : Name) (count : ℕ) (more : List ℕ) → head_line name count ++ more ≡ (head_front name ++ decimal count) ++ 10 ∷ more
unfolding head_line
head_is name count more = append_assoc (head_front name ++ decimal count) (10 ∷ []) more

pub table_is : (t : Table) (more : List ℕ) → table_text t ++ more ≡ head_line t.name (length t.rows) ++ (flat_map row_line t.rows ++ more)
unfolding table_text
table_is t more = append_assoc (head_line t.name (length t.rows)) (flat_map row_line t.rows) more

pub row_is : (r : TableRow) (more : List ℕ) → row_line r ++ more ≡ compact_text (row_data r) ++ 10 ∷ more
unfolding row_line
row_is r more = append_assoc (compact_text (row_data r)) (10 ∷ []) more

pub entry_is : (e : Entry) (more : List ℕ) → line_text e ++ more ≡ entry_text e ++ 10 ∷ more
unfolding line_text
entry_is e more = append_assoc (entry_text e) (10 ∷ []) more

settled_plain : HasNoEnd (codes "settled")
settled_plain = (refl, (refl, (refl, (refl, (refl, (refl, (refl, tt)))))))

abbrev first : List Name → Name
first [] = []
first (x ∷ xs) = x

abbrev others : List Name → List Name
others [] = []
others (x ∷ xs) = xs

row_ends : (r : TableRow) → ended (compact_text (row_data r)) ≡ row_line r
unfolding row_line
row_ends r = refl

table_plain : HasNoEnd (codes "table ")
table_plain = (refl, (refl, (refl, (refl, (refl, (refl, tt))))))

front_plain : (name : Name) → HasNoEnd name → HasNoEnd (head_front name)
front_plain name h = no_end_both (codes "table " ++ name) (codes " ") (no_end_both (codes "table ") name table_plain h) (refl, tt)

pub head_ends : (name : Name) (count : ℕ) → ended (head_front name ++ decimal count) ≡ head_line name count
unfolding head_line
head_ends name count = refl

not_nil : (line more : List ℕ) → line ++ 10 ∷ more ≡ [] → ⊥
not_nil [] more e = cc
not_nil (x ∷ xs) more e = cc

no_row : (r : TableRow) (rows more : List ℕ) → [] ≡ (row_line r ++ rows) ++ more → ⊥
no_row r rows more e = not_nil (compact_text (row_data r)) (rows ++ more) (sym (e ∙ append_assoc (row_line r) rows more ∙ row_is r (rows ++ more)))

no_entry : (e : Entry) (more : List ℕ) → [] ≡ line_text e ++ more → ⊥
no_entry e more is = not_nil (entry_text e) more (sym (is ∙ entry_is e more))

fits_at : (told : List Entry) (e : Entry) (rest : List Entry) → FitsJournal (told ++ e ∷ rest) → FitsEntry e
fits_at [] e rest h = h.0
fits_at (x ∷ told) e rest h = fits_at told e rest h.1

module _ (d : DraftView) (tables : List Table) (journal : List Entry) where
  -- ---- what is left behind a table, and behind a row
  pub at_tables : (ts : List Table) (names : List Name) (rest : List ℕ) → names_of ts ≡ names → TablesFit d ts → rest ≡ tables_text ts ++ journal_text journal → Left d tables journal (next_table names) rest
  at_tables [] [] rest e f is = (journal, refl, is)
  at_tables [] (n ∷ ns) rest e f is = absurd (cc)
  at_tables (t ∷ ts) [] rest e f is = absurd (cc)
  at_tables (t ∷ ts) (n ∷ ns) rest e f is = (t ∷ ts, e, f, is)

  pub at_rows : (windowed : Bool) (rows : List TableRow) (ts : List Table) (names : List Name) (rest : List ℕ) → RowsFit windowed rows → names_of ts ≡ names → TablesFit d ts → rest ≡ flat_map row_line rows ++ (tables_text ts ++ journal_text journal) → Left d tables journal (next_row windowed (length rows) names) rest
  at_rows windowed [] ts names rest fit e f is = at_tables ts names rest e f is
  at_rows windowed (r ∷ rows) ts names rest fit e f is = (r ∷ rows, ts, refl, fit, e, f, is)

  -- ---- one line
  pub settled_left : (line more : List ℕ) → Left d tables journal first_line (line ++ 10 ∷ more) → HasNoEnd line → names_of tables ≡ d.print → TablesFit d tables → (line ≡ codes "settled") × Left d tables journal (next_table d.print) more
  settled_left line more left plain names fit =
      let s = same_cut line (codes "settled") more (tables_text tables ++ journal_text journal) plain settled_plain left in
      (s.line, at_tables tables d.print more names fit s.left)

  -- the head of a table
  pub head_left : (name : Name) (names : List Name) (line more : List ℕ) → Left d tables journal (table_head name names) (line ++ 10 ∷ more) → HasNoEnd line →
      (n : ℕ) × (n < 2 ^ 64) × IsUtf8 name × (line ≡ head_front name ++ decimal n) × Left d tables journal (next_row (has_windows d name) n names) more
  head_left name names line more ([], e, f, is) plain = absurd (cc)
  head_left name names line more (t ∷ ts, e, f, is) plain =
      let n = length t.rows in
      let named : t.name ≡ name = ap (λ (l : List Name). first l) e in
      let rest = flat_map row_line t.rows ++ (tables_text ts ++ journal_text journal) in
      let cut : line ++ 10 ∷ more ≡ (head_front t.name ++ decimal n) ++ 10 ∷ rest =
      is ∙ append_assoc (table_text t) (tables_text ts) (journal_text journal) ∙ table_is t (tables_text ts ++ journal_text journal) ∙ head_is t.name n rest in
      let s = same_cut line (head_front t.name ++ decimal n) more rest plain (no_end_both (head_front t.name) (decimal n) (front_plain t.name f.3) (decimal_plain n f.1)) cut in (
        n,
        f.1,
        subst IsUtf8 named f.2,
        s.line ∙ ap (λ x. head_front x ++ decimal n) named,
        subst (λ x. Left d tables journal (next_row (has_windows d x) n names) more) named (at_rows (has_windows d t.name) t.rows ts names more f.0 (ap (λ (l : List Name). others l) e) f.4 s.left),
      )

  -- a row of a table
  pub row_left : (windowed : Bool) (left : ℕ) (names : List Name) (line more : List ℕ) → Left d tables journal (table_row windowed left names) (line ++ 10 ∷ more) → HasNoEnd line → IsRowLine windowed line × Left d tables journal (next_row windowed left names) more
  row_left windowed left names line more ([], ts, e, fit, named, fits, is) plain = absurd (omega arith)
  row_left windowed left names line more (r ∷ rows, ts, e, fit, named, fits, is) plain =
      let rest = flat_map row_line rows ++ (tables_text ts ++ journal_text journal) in
      let cut : line ++ 10 ∷ more ≡ compact_text (row_data r) ++ 10 ∷ rest = is ∙ append_assoc (row_line r) (flat_map row_line rows) (tables_text ts ++ journal_text journal) ∙ row_is r rest in
      let s = same_cut line (compact_text (row_data r)) more rest plain (row_plain windowed r fit.0) cut in
      let count : length rows ≡ left = omega (arith, e) in (
        record { row = r; fits = fit.0; printed = ap ended s.line ∙ row_ends r },
        subst (λ n. Left d tables journal (next_row windowed n names) more) count (at_rows windowed rows ts names more fit.1 named fits s.left),
      )

  -- an entry
  pub entry_left : (told : List Entry) (line more : List ℕ) → Left d tables journal (journal_line told) (line ++ 10 ∷ more) → HasNoEnd line → FitsJournal journal → (e : Entry) × (rest : List Entry) × (journal ≡ told ++ e ∷ rest) × FitsEntry e × (line ≡ entry_text e) × Left d tables journal (journal_line (told ++ e ∷ [])) more
  entry_left told line more ([], whole, is) plain fits = absurd (not_nil line more is)
  entry_left told line more (e ∷ rest, whole, is) plain fits =
      let fit = fits_at told e rest (subst FitsJournal whole fits) in
      let s = same_cut line (entry_text e) more (journal_text rest) plain (entry_plain e fit) (is ∙ entry_is e (journal_text rest)) in
      (e, rest, whole, fit, s.line, (rest, whole ∙ sym (append_assoc told (e ∷ []) rest), s.left))

  -- the output ends where its journal does
  pub none_left : (place : Place) → Left d tables journal place [] → (told : List Entry) × (place ≡ journal_line told) × (journal ≡ told)
  none_left first_line h = absurd (cc)
  none_left (table_head name names) ([], e, f, is) = absurd (cc)
  none_left (table_head name names) (t ∷ ts, e, f, is) =
      absurd (not_nil (head_front t.name ++ decimal (length t.rows)) _ (sym (is ∙ append_assoc (table_text t) (tables_text ts) (journal_text journal) ∙ table_is t (tables_text ts ++ journal_text journal) ∙ head_is t.name (length t.rows) _)))
  none_left (table_row windowed left names) ([], ts, e, fit, named, fits, is) = absurd (omega arith)
  none_left (table_row windowed left names) (r ∷ rows, ts, e, fit, named, fits, is) = absurd (no_row r (flat_map row_line rows) (tables_text ts ++ journal_text journal) is)
  none_left (journal_line told) ([], whole, is) = (told, refl, whole ∙ append-nil told)
  none_left (journal_line told) (e ∷ rest, whole, is) = absurd (no_entry e (journal_text rest) is)
