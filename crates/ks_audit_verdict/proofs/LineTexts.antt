-- No line has LF within it.
use Rattle.std.proofs.Common.{◌≡◌, ℕ, suc, ◌+◌, ◌/◌, ◌%◌, ◌^◌, ◌<◌, ◌==◌, ◌||◌, nat_lt, pos, negsuc, Bool, true, false, cond, List, [], ◌∷◌, ◌++◌, decimal, refl, arith}
use Rattle.std.specs.Char.{digit_char}
use Rattle.std.specs.List.{AllByRecursion}
use Rattle.std.proofs.lemmas.Bool.{ltb-true, ltb-false, eqb-true, ne_eqb}
use Rattle.std.proofs.lemmas.Fmt.{decimal_by_steps}
use Rattle.json.specs.Print.{escape, escape_byte, escape_letter, quoted}
use Rattle.serde_json.specs.Data.{unsigned, negative, float, Data, null, boolean, number, string, array, object, Items, no_items, item, Members, no_members, member}
use Rattle.serde_json.specs.Written.{compact_text, items_text, members_text, comma_if}
use Rattle.std.specs.Prelude.{Option, Some, None}
use Rattle.std.specs.Ordering.{nat_cmp, match_ordering}
use Rattle.std.specs.declared.cmp.Ordering.{Ordering}
use Rattle.std.specs.declared.cmp.Ordering.TheVariants.{Less, Equal, Greater}
use Rattle.std.specs.Cmp.Lexicographic.{slice_cmp}
use Rattle.serde_json.specs.Data.{put}
use Rattle.ks_row.specs.Rows.{Member}
use Rattle.ks_row.specs.Spelling.{FitsField, FitsMember}
use Rattle.ks_row.specs.declared.row.Field.{Field}
use Rattle.ks_row.specs.declared.row.Field.TheVariants.{Int, Text}
use Rattle.ks_query.specs.declared.table.TableRow.{TableRow}
use Rattle.ks_query.specs.Printed.{field_data, put_all, row_object, start_onto, row_data}
use Rattle.ks_history.specs.declared.journal.Entry.{Entry}
use Rattle.ks_journal.specs.Lines.{entry_data, entry_text}
use Rattle.ks_journal.specs.Fits.{FitsEntry}
use Rattle.ks_journal.proofs.DataAgain.{IsSimple, AreSimple}
use Rattle.ks_journal.proofs.JournalAgain.{digit_above, short_above}
use Rattle.ks_journal.proofs.LineAgain.{entry_simple}
use Rattle.ks_table_line.specs.Fitting.{HasStart, FitsTableRow}
use Rattle.ks_job_source.specs.Cutting.{HasNoEnd}
use Rattle.ks_audit_verdict.proofs.Chains.{no_end_both}

above : (c : ℕ) (cs : List ℕ) → 10 < c → HasNoEnd cs → HasNoEnd (c ∷ cs)
above c cs h k = (ne_eqb c 10 (λ e. omega (arith, h, e)), k)

-- ---- an escaped byte
byte_plain : (x : ℕ) → HasNoEnd (escape_byte x)
unfolding escape_byte
byte_plain x = by_letter (nat_lt 0 (escape_letter x)) refl
  where
    by_control : (b : Bool) → nat_lt x 32 ≡ b → HasNoEnd (cond b (92 ∷ 117 ∷ 48 ∷ 48 ∷ digit_char (x / 16) ∷ digit_char (x % 16) ∷ []) (x ∷ []))
    by_control true e = (refl, (refl, (refl, (refl, above (digit_char (x / 16)) (digit_char (x % 16) ∷ []) (digit_above (x / 16)) (above (digit_char (x % 16)) [] (digit_above (x % 16)) tt)))))
    by_control false e = above x [] (omega (arith, ltb-false x 32 e)) tt

    by_letter : (b : Bool) → nat_lt 0 (escape_letter x) ≡ b
        → HasNoEnd (cond b (92 ∷ escape_letter x ∷ []) (cond (nat_lt x 32) (92 ∷ 117 ∷ 48 ∷ 48 ∷ digit_char (x / 16) ∷ digit_char (x % 16) ∷ []) (x ∷ [])))
    by_letter true e = (refl, above (escape_letter x) [] (short_above x (ltb-true 0 (escape_letter x) e)) tt)
    by_letter false e = by_control (nat_lt x 32) refl

escape_plain : (s : List ℕ) → HasNoEnd (escape s)
escape_plain [] = tt
escape_plain (x ∷ s) = no_end_both (escape_byte x) (escape s) (byte_plain x) (escape_plain s)

quoted_plain : (s : List ℕ) → HasNoEnd (quoted s)
quoted_plain s = (refl, no_end_both (escape s) (34 ∷ []) (escape_plain s) (refl, tt))

-- ---- a value
pub decimal_plain : (n : ℕ) → n < 2 ^ 64 → HasNoEnd (decimal n)
decimal_plain = decimal_by_steps (λ m ds. HasNoEnd ds) (λ m l. above (48 + m) [] (omega arith) tt)
    (λ m ds l h. no_end_both ds ((48 + m % 10) ∷ []) h (above (48 + m % 10) [] (omega arith) tt))

comma_plain : (later : Bool) → HasNoEnd (comma_if later)
comma_plain true = (refl, tt)
comma_plain false = tt

-- whole numbers of 64 bits
abbrev mutual
  pub IsWhole : Data → Type 0
  IsWhole null = Unit {0}
  IsWhole (boolean b) = Unit {0}
  IsWhole (number (unsigned n)) = n < 2 ^ 64
  IsWhole (number (negative (pos n))) = ⊥
  IsWhole (number (negative (negsuc n))) = suc n < 2 ^ 64
  IsWhole (number (float x)) = ⊥
  IsWhole (string s) = Unit {0}
  IsWhole (array ds) = AreWhole ds
  IsWhole (object ms) = HaveWhole ms

  pub AreWhole : Items → Type 0
  AreWhole no_items = Unit {0}
  AreWhole (item d ds) = IsWhole d × AreWhole ds

  pub HaveWhole : Members → Type 0
  HaveWhole no_members = Unit {0}
  HaveWhole (member k d ms) = IsWhole d × HaveWhole ms

mutual
  pub text_plain : (d : Data) → IsWhole d → HasNoEnd (compact_text d)
  text_plain null h = (refl, (refl, (refl, (refl, tt))))
  text_plain (boolean true) h = (refl, (refl, (refl, (refl, tt))))
  text_plain (boolean false) h = (refl, (refl, (refl, (refl, (refl, tt)))))
  text_plain (number (unsigned n)) h = decimal_plain n h
  text_plain (number (negative (pos n))) h = absurd h
  text_plain (number (negative (negsuc n))) h = (refl, decimal_plain (suc n) h)
  text_plain (number (float x)) h = absurd h
  text_plain (string s) h = quoted_plain s
  text_plain (array ds) h = (refl, items_plain false ds h)
  text_plain (object ms) h = (refl, members_plain false ms h)

  items_plain : (later : Bool) (ds : Items) → AreWhole ds → HasNoEnd (items_text later ds)
  items_plain later no_items h = (refl, tt)
  items_plain later (item d ds) h =
      no_end_both (comma_if later) (compact_text d ++ items_text true ds) (comma_plain later)
      (no_end_both (compact_text d) (items_text true ds) (text_plain d h.0) (items_plain true ds h.1))

  members_plain : (later : Bool) (ms : Members) → HaveWhole ms → HasNoEnd (members_text later ms)
  members_plain later no_members h = (refl, tt)
  members_plain later (member k d ms) h =
      no_end_both (comma_if later) (quoted k ++ 58 ∷ (compact_text d ++ members_text true ms)) (comma_plain later)
      (no_end_both (quoted k) (58 ∷ (compact_text d ++ members_text true ms)) (quoted_plain k)
      (refl, no_end_both (compact_text d) (members_text true ms) (text_plain d h.0) (members_plain true ms h.1)))

-- ---- an entry
mutual
  simple_whole : (d : Data) → IsSimple d → IsWhole d
  simple_whole null h = tt
  simple_whole (boolean b) h = tt
  simple_whole (number (unsigned n)) h = h
  simple_whole (number (negative z)) h = absurd h
  simple_whole (number (float x)) h = absurd h
  simple_whole (string s) h = tt
  simple_whole (array ds) h = items_whole ds h
  simple_whole (object ms) h = absurd h

  items_whole : (ds : Items) → AreSimple ds → AreWhole ds
  items_whole no_items h = tt
  items_whole (item d ds) h = (simple_whole d h.0, items_whole ds h.1)

pub entry_plain : (e : Entry) → FitsEntry e → HasNoEnd (entry_text e)
entry_plain e h = text_plain (entry_data e) (simple_whole (entry_data e) (entry_simple e h))

-- ---- a row
put_whole : (k : List ℕ) (d : Data) (ms : Members) → IsWhole d → HaveWhole ms → HaveWhole (put k d ms)
put_whole k d no_members h g = (h, tt)
put_whole k d (member l e ms) h g = by (slice_cmp nat_cmp k l) (put_whole k d ms h g.1)
  where
    by : (o : Ordering) → HaveWhole (put k d ms) → HaveWhole (match_ordering o (member k d (member l e ms)) (member l d ms) (member l e (put k d ms)))
    by Less more = (h, g)
    by Equal more = (h, g.1)
    by Greater more = (g.0, more)

field_whole : (f : Field) → FitsField f → IsWhole (field_data f)
field_whole (Int (pos n)) h = omega (arith, h)
field_whole (Int (negsuc n)) h = omega (arith, h)
field_whole (Text s) h = tt

all_whole : (ms : List Member) (found : Members) → AllByRecursion FitsMember ms → HaveWhole found → HaveWhole (put_all ms found)
all_whole [] found h g = g
all_whole (m ∷ ms) found h g = all_whole ms (put m.0 (field_data m.1) found) h.1 (put_whole m.0 (field_data m.1) found (field_whole m.1 h.0.field) g)

start_whole : (windowed : Bool) (start : Option ℕ) (rest : Items) → HasStart windowed start → AreWhole rest → AreWhole (start_onto start rest)
start_whole windowed None rest h g = g
start_whole true (Some start) rest h g = (h, g)
start_whole false (Some start) rest h g = absurd h

pub row_plain : (windowed : Bool) (r : TableRow) → FitsTableRow windowed r → HasNoEnd (compact_text (row_data r))
row_plain windowed r h = text_plain (row_data r) (tt, start_whole windowed r.start (item (row_object r.row) no_items) h.start (all_whole r.row no_members h.row.members tt, tt))
