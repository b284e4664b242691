-- No line has LF within it, so the text of a journal is cut into its lines in one way.
use Rattle.std.proofs.Common.{◌≡◌, ℕ, ◌+◌, ◌/◌, ◌%◌, ◌^◌, ◌<◌, ◌==◌, ◌||◌, nat_lt, Bool, true, false, cond, List, [], ◌∷◌, ◌++◌, decimal, refl, ap, ap₂, ◌∙◌, sym, arith, append_assoc}
use Rattle.std.specs.Char.{digit_char}
use Rattle.std.specs.List.{AllByRecursion}
use Rattle.std.proofs.lemmas.Bool.{true≢false, or_parts, or_from, ltb-true, ltb-false, eqb-true, ne_eqb}
use Rattle.std.proofs.lemmas.Fmt.{decimal_by_steps}
use Rattle.json.specs.Print.{escape, escape_byte, escape_letter}
use Rattle.serde_json.specs.Data.{unsigned, negative, float, Data, null, boolean, number, string, array, object, Items, no_items, item}
use Rattle.serde_json.specs.Written.{compact_text, items_text, comma_if}
use Rattle.ks_history.specs.declared.journal.Entry.{Entry}
use Rattle.ks_journal.specs.Lines.{entry_data, entry_text, line_text, journal_text}
use Rattle.ks_journal.specs.Fits.{FitsEntry}
use Rattle.ks_journal.proofs.DataAgain.{IsSimple, AreSimple}
use Rattle.ks_journal.proofs.LineAgain.{entry_simple, one_line}

-- whether some byte is LF
abbrev has_lf : List ℕ → Bool
has_lf [] = false
has_lf (c ∷ cs) = (c == 10) || has_lf cs

above : (c : ℕ) (cs : List ℕ) → 10 < c → has_lf cs ≡ false → has_lf (c ∷ cs) ≡ false
above c cs h k = or_from (c == 10) (has_lf cs) (ne_eqb c 10 (λ e. omega (arith, h, e))) k

joined : (a b : List ℕ) → has_lf a ≡ false → has_lf b ≡ false → has_lf (a ++ b) ≡ false
joined [] b h k = k
joined (c ∷ a) b h k = or_from (c == 10) (has_lf (a ++ b)) (or_parts (c == 10) (has_lf a) h).0 (joined a b (or_parts (c == 10) (has_lf a) h).1 k)

-- ---- an escaped byte
pub digit_above : (d : ℕ) → 10 < digit_char d
digit_above d = by (nat_lt d 10)
  where
    by : (b : Bool) → 10 < cond b (48 + d) (87 + d)
    by true = omega arith
    by false = omega arith

letter_above : (a b c d e f : Bool) (x : ℕ) → (a ≡ true → 10 < x) → 0 < cond a x (cond b 98 (cond c 102 (cond d 110 (cond e 114 (cond f 116 0)))))
    → 10 < cond a x (cond b 98 (cond c 102 (cond d 110 (cond e 114 (cond f 116 0)))))
letter_above true b c d e f x h k = h refl
letter_above false true c d e f x h k = omega arith
letter_above false false true d e f x h k = omega arith
letter_above false false false true e f x h k = omega arith
letter_above false false false false true f x h k = omega arith
letter_above false false false false false true x h k = omega arith
letter_above false false false false false false x h k = absurd (omega (arith, k))

marks_above : (x : ℕ) (p q : Bool) → (p ≡ true → 10 < x) → (q ≡ true → 10 < x) → (p || q) ≡ true → 10 < x
marks_above x true q h k e = h refl
marks_above x false q h k e = k e

pub short_above : (x : ℕ) → 0 < escape_letter x → 10 < escape_letter x
short_above x h = letter_above ((x == 34) || (x == 92)) (x == 8) (x == 12) (x == 10) (x == 13) (x == 9) x
    (marks_above x (x == 34) (x == 92) (λ e. omega (arith, eqb-true x 34 e)) (λ e. omega (arith, eqb-true x 92 e))) h

byte_clean : (x : ℕ) → has_lf (escape_byte x) ≡ false
unfolding escape_byte
byte_clean x = by_letter (nat_lt 0 (escape_letter x)) refl
  where
    by_control : (b : Bool) → nat_lt x 32 ≡ b → has_lf (cond b (92 ∷ 117 ∷ 48 ∷ 48 ∷ digit_char (x / 16) ∷ digit_char (x % 16) ∷ []) (x ∷ [])) ≡ false
    by_control true e = above (digit_char (x / 16)) (digit_char (x % 16) ∷ []) (digit_above (x / 16)) (above (digit_char (x % 16)) [] (digit_above (x % 16)) refl)
    by_control false e = above x [] (omega (arith, ltb-false x 32 e)) refl

    by_letter : (b : Bool) → nat_lt 0 (escape_letter x) ≡ b
        → has_lf (cond b (92 ∷ escape_letter x ∷ []) (cond (nat_lt x 32) (92 ∷ 117 ∷ 48 ∷ 48 ∷ digit_char (x / 16) ∷ digit_char (x % 16) ∷ []) (x ∷ []))) ≡ false
    by_letter true e = above (escape_letter x) [] (short_above x (ltb-true 0 (escape_letter x) e)) refl
    by_letter false e = by_control (nat_lt x 32) refl

escape_clean : (s : List ℕ) → has_lf (escape s) ≡ false
escape_clean [] = refl
escape_clean (x ∷ s) = joined (escape_byte x) (escape s) (byte_clean x) (escape_clean s)

-- ---- a value
decimal_clean : (n : ℕ) → n < 2 ^ 64 → has_lf (decimal n) ≡ false
decimal_clean = decimal_by_steps (λ m ds. has_lf ds ≡ false) (λ m l. above (48 + m) [] (omega arith) refl)
    (λ m ds l h. joined ds ((48 + m % 10) ∷ []) h (above (48 + m % 10) [] (omega arith) refl))

comma_clean : (later : Bool) → has_lf (comma_if later) ≡ false
comma_clean true = refl
comma_clean false = refl

mutual
  text_clean : (d : Data) → IsSimple d → has_lf (compact_text d) ≡ false
  text_clean null h = refl
  text_clean (boolean true) h = refl
  text_clean (boolean false) h = refl
  text_clean (number (unsigned n)) h = decimal_clean n h
  text_clean (number (negative z)) h = absurd h
  text_clean (number (float x)) h = absurd h
  text_clean (string s) h = joined (escape s) (34 ∷ []) (escape_clean s) refl
  text_clean (array ds) h = items_clean false ds h
  text_clean (object ms) h = absurd h

  items_clean : (later : Bool) (ds : Items) → AreSimple ds → has_lf (items_text later ds) ≡ false
  items_clean later no_items h = refl
  items_clean later (item d ds) h =
      joined (comma_if later) (compact_text d ++ items_text true ds) (comma_clean later)
      (joined (compact_text d) (items_text true ds) (text_clean d h.0) (items_clean true ds h.1))

entry_clean : (e : Entry) → FitsEntry e → has_lf (entry_text e) ≡ false
entry_clean e h = text_clean (entry_data e) (entry_simple e h)

-- ---- the lines
abbrev front : List ℕ → ℕ
front [] = 0
front (c ∷ cs) = c

abbrev rest : List ℕ → List ℕ
rest [] = []
rest (c ∷ cs) = cs

not_lf : (c : ℕ) (cs : List ℕ) → has_lf (c ∷ cs) ≡ false → 10 ≡ c → ⊥
not_lf c cs h e = true≢false (ap (λ x. x == 10) e ∙ (or_parts (c == 10) (has_lf cs) h).0)

first_line : (a b r s : List ℕ) → has_lf a ≡ false → has_lf b ≡ false → a ++ 10 ∷ r ≡ b ++ 10 ∷ s → (a ≡ b) × (r ≡ s)
first_line [] [] r s h k e = (refl, ap rest e)
first_line [] (c ∷ b) r s h k e = absurd (not_lf c b k (ap front e))
first_line (c ∷ a) [] r s h k e = absurd (not_lf c a h (sym (ap front e)))
first_line (c ∷ a) (d ∷ b) r s h k e =
    let more : (a ≡ b) × (r ≡ s) = first_line a b r s (or_parts (c == 10) (has_lf a) h).1 (or_parts (d == 10) (has_lf b) k).1 (ap rest e) in
    (ap₂ (λ (x : ℕ) (l : List ℕ). x ∷ l) (ap front e) more.0, more.1)

line_first : (e : Entry) (es : List Entry) → journal_text (e ∷ es) ≡ entry_text e ++ 10 ∷ journal_text es
unfolding line_text
line_first e es = append_assoc (entry_text e) (10 ∷ []) (journal_text es)

pub one_journal : (a b : List Entry) → AllByRecursion FitsEntry a → AllByRecursion FitsEntry b → journal_text a ≡ journal_text b → a ≡ b
one_journal [] [] f g e = refl
one_journal [] (y ∷ b) f g e = absurd (omega (arith, ap front (e ∙ line_first y b)))
one_journal (x ∷ a) [] f g e = absurd (omega (arith, ap front (sym e ∙ line_first x a)))
one_journal (x ∷ a) (y ∷ b) f g e =
    let cut : (entry_text x ≡ entry_text y) × (journal_text a ≡ journal_text b) =
    first_line (entry_text x) (entry_text y) (journal_text a) (journal_text b) (entry_clean x f.0) (entry_clean y g.0) (sym (line_first x a) ∙ e ∙ line_first y b) in
    ap₂ (λ (z : Entry) (l : List Entry). z ∷ l) (one_line x y f.0 g.0 cut.0) (one_journal a b f.1 g.1 cut.1)
