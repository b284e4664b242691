-- The end of a settled run's output, and its lengths.
use Rattle.std.proofs.Common.{◌≡◌, ℕ, ◌+◌, ◌≤◌, arith, List, [], ◌∷◌, ◌++◌, length, map, decimal, refl, sym, ap, subst, ◌∙◌, append_assoc, length-append}
use Rattle.std.specs.Prelude.{codes, None}
use Rattle.std.proofs.lemmas.List.{append_cancel_left, append_cancel_right}
use Rattle.std.specs.List.{flat_map}
use Rattle.serde_json.specs.Written.{compact_text}
use Rattle.ks_plan.specs.Drafts.{Name, DraftView}
use Rattle.ks_plan.specs.Plan.{plan_of}
use Rattle.ks_query.specs.declared.table.Table.{Table}
use Rattle.ks_query.specs.Printed.{row_line, row_data, table_text, tables_text}
use Rattle.ks_def_tasks.specs.Messages.{Rules}
use Rattle.ks_history.specs.declared.journal.Entry.{Entry}
use Rattle.ks_history.specs.State.{State, Setup}
use Rattle.ks_history.specs.Settled.{IsSettled}
use Rattle.ks_law_settled.specs.Collision.{first_pair}
use Rattle.ks_law_settled.specs.Folded.{folded_table}
use Rattle.ks_journal.specs.Lines.{entry_text, journal_text}
use Rattle.ks_audit_verdict.specs.declared.fault.OutputFault.{OutputFault}
use Rattle.ks_audit_verdict.specs.declared.fault.OutputFault.TheVariants.{TooLong, NotJournal, NotLegal, NotFaithful, NotSettled, Collision, Late, WrongTable}
use Rattle.ks_job_source.specs.Cutting.{HasNoEnd}
use Rattle.ks_audit_verdict.specs.Lines.{ArePlain, lines_text, IsWithinMost}
use Rattle.ks_audit_verdict.specs.Places.{Place}
use Rattle.ks_audit_verdict.specs.Places.Place.{first_line, table_head, table_row, journal_line}
use Rattle.ks_audit_verdict.specs.Faults.{IsLongLine, IsLongInput, IsWrongTable, ShowsFault}
use Rattle.ks_audit_verdict.proofs.Left.{Left}
use Rattle.ks_audit_verdict.proofs.Chains.{behind, line_first, no_longer, no_end_within}
use Rattle.ks_audit_verdict.proofs.Printed.{head_front, head_is, table_is, row_is, entry_is}

-- ---- nothing has begun at its end
pub at_end : (d : DraftView) (tables : List Table) (journal : List Entry) (place : Place) (rest : List ℕ) → Left d tables journal place rest → HasNoEnd rest → rest ≡ []
at_end d tables journal first_line rest h plain = absurd (no_end_within rest (codes "settled") (tables_text tables ++ journal_text journal) plain h)
at_end d tables journal (table_head name names) rest ([], e, f, is) plain = absurd (cc)
at_end d tables journal (table_head name names) rest (t ∷ ts, e, f, is) plain =
    absurd (no_end_within rest (head_front t.name ++ decimal (length t.rows)) _ plain
    (is ∙ append_assoc (table_text t) (tables_text ts) (journal_text journal) ∙ table_is t (tables_text ts ++ journal_text journal) ∙ head_is t.name (length t.rows) _))
at_end d tables journal (table_row windowed left names) rest ([], ts, e, fit, named, fits, is) plain = absurd (omega arith)
at_end d tables journal (table_row windowed left names) rest (r ∷ rows, ts, e, fit, named, fits, is) plain =
    absurd (no_end_within rest (compact_text (row_data r)) _ plain (is ∙ append_assoc (row_line r) (flat_map row_line rows) (tables_text ts ++ journal_text journal) ∙ row_is r _))
at_end d tables journal (journal_line told) rest ([], whole, is) plain = is
at_end d tables journal (journal_line told) rest (e ∷ more, whole, is) plain = absurd (no_end_within rest (entry_text e) _ plain (is ∙ entry_is e (journal_text more)))

-- ---- no length is passed
no_front : (front more : List ℕ) → front ++ more ≡ [] → length front ≤ 0
no_front [] more e = omega arith
no_front (x ∷ front) more e = absurd cc

first_long : (all : List (List ℕ)) (front more : List ℕ) → ArePlain all → HasNoEnd front → front ++ more ≡ lines_text all → length front ≤ 67108864
first_long [] front more h plain e = omega (arith, no_front front more e)
first_long (x ∷ xs) front more h plain e = omega (arith, no_longer front x more (lines_text xs) plain h.0.0 (e ∙ line_first x (lines_text xs)), h.0.1)

plain_behind : (lines more : List (List ℕ)) → ArePlain (lines ++ more) → ArePlain more
plain_behind [] more h = h
plain_behind (x ∷ xs) more h = plain_behind xs more h.1

module _ (text : List ℕ) (before : ℕ) (lines : List (List ℕ)) (rest : List ℕ) (within : IsWithinMost before text) (plain : ArePlain lines) (cut : text ≡ lines_text lines ++ rest) where
  pub no_long_line : IsLongLine rest → ⊥
  no_long_line h =
      let b = behind within.lines lines rest within.plain plain (sym within.cut ∙ cut) in
      let all : ArePlain b.more = plain_behind lines b.more (subst ArePlain b.both within.plain) in
      omega (arith, h.long, first_long b.more h.front h.more all h.line (sym h.cut ∙ b.rest_is))

  pub no_long_input : IsLongInput (before + length (lines_text lines)) rest → ⊥
  no_long_input h =
      omega (arith, h.full, within.most, ap (λ (l : List ℕ). length l) cut, length-append (lines_text lines) rest, ap (λ (l : List ℕ). length l) h.cut, length-append h.front (h.byte ∷ h.more))

-- ---- the whole shows no fault
same_lines : (a b tail : List ℕ) → codes "settled" ++ 10 ∷ (a ++ tail) ≡ codes "settled" ++ 10 ∷ (b ++ tail) → a ≡ b
same_lines a b tail e =
    append_cancel_right a b tail (append_cancel_left (codes "settled" ++ 10 ∷ []) (a ++ tail) (b ++ tail) (append_assoc (codes "settled") (10 ∷ []) (a ++ tail) ∙ e ∙ sym (append_assoc (codes "settled") (10 ∷ []) (b ++ tail))))

module _ (rules : Rules) (d : DraftView) (setup : Setup) (s : State) where
  abbrev f : Name → Table
  f = folded_table d s

  split : (before after : List Name) (name : Name) → tables_text (map f (before ++ name ∷ after)) ≡ tables_text (map f before) ++ (table_text (f name) ++ tables_text (map f after))
  split [] after name = refl
  split (b ∷ bs) after name = ap (λ l. table_text (f b) ++ l) (split bs after name) ∙ sym (append_assoc (table_text (f b)) (tables_text (map f bs)) (table_text (f name) ++ tables_text (map f after)))

  no_wrong : (lines : List ℕ) (name : Name) → lines ≡ tables_text (map f d.print) → IsWrongTable d s lines name → ⊥
  no_wrong lines name is w =
      let whole : tables_text (map f w.before) ++ w.rest ≡ tables_text (map f w.before) ++ (table_text (f name) ++ tables_text (map f w.after)) =
      sym w.good ∙ is ∙ ap (λ n. tables_text (map f n)) w.printed ∙ split w.before w.after name in
      w.wrong (tables_text (map f w.after)) (append_cancel_left (tables_text (map f w.before)) w.rest (table_text (f name) ++ tables_text (map f w.after)) whole) (λ none. ap (λ n. tables_text (map f n)) none)

  pub shows_none : (lines : List ℕ) (fault : OutputFault) → lines ≡ tables_text (map f d.print) → IsSettled setup s → first_pair rules.hash (plan_of d) s ≡ None → s.late ≡ 0 → ShowsFault rules d setup s lines fault → ⊥
  shows_none lines (NotSettled lags pending) is settled alone in_time h = h.0 settled
  shows_none lines Collision is settled alone in_time h = h.1 alone
  shows_none lines (Late late) is settled alone in_time h = h.3 in_time
  shows_none lines (WrongTable name) is settled alone in_time h = no_wrong lines name is h.3
  shows_none lines TooLong is settled alone in_time h = h
  shows_none lines NotJournal is settled alone in_time h = h
  shows_none lines NotLegal is settled alone in_time h = h
  shows_none lines (NotFaithful t) is settled alone in_time h = h

pub lines_same : (text a b journal : List ℕ) → text ≡ codes "settled" ++ 10 ∷ (a ++ journal) → text ≡ codes "settled" ++ 10 ∷ (b ++ journal) → a ≡ b
lines_same text a b journal e g = same_lines a b journal (sym e ∙ g)
