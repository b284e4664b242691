-- Texts of which no byte is escaped, and the digits of a number.
use Rattle.std.proofs.Common.{◌≡◌, ℕ, ◌+◌, ◌/◌, ◌%◌, ◌^◌, ◌<◌, ◌≤◌, nat_lt, Bool, true, false, cond, List, [], ◌∷◌, ◌++◌, decimal, refl, ap, ap₂, ◌∙◌, sym, arith}
use Rattle.std.specs.Char.{digit_char}
use Rattle.std.proofs.lemmas.Bool.{ltb-true, ltb-false}
use Rattle.std.proofs.lemmas.Fmt.{decimal_by_steps, decimal_step, decimal_digit}
use Rattle.std.proofs.lemmas.List.Concat.{flat_map-append}
use Rattle.json.specs.Print.{escape, escape_byte}
use Rattle.json.proofs.Printed.Strings.{escape_byte_plain}
use Rattle.ks_record.specs.declared.record.TaskId.{TaskId}
use Rattle.ks_history.specs.declared.journal.Request.{Request}
use Rattle.ks_history.specs.declared.journal.Request.TheVariants.{Produce, Init, Add, Append, SendOffsets, Decide, MarkNext, Join, Expire, Hold, Probe, Assign, Park, Unpark}
use Rattle.ks_journal.specs.Lines.{hex, task_text, call_of}

pub decimal_is_digit : (n : ℕ) → n < 10 → decimal n ≡ (48 + n) ∷ []
decimal_is_digit = decimal_digit

pub decimal_is_steps : (n : ℕ) → 10 ≤ n → n < 2 ^ 64 → decimal n ≡ decimal (n / 10) ++ decimal (n % 10)
decimal_is_steps n more small = decimal_step n more small ∙ ap (λ ds. decimal (n / 10) ++ ds) (sym (decimal_digit (n % 10) (omega arith)))

-- ---- what isn't escaped
byte_is_plain : (x : ℕ) → 48 ≤ x → x < 92 → escape_byte x ≡ x ∷ []
byte_is_plain x low high = escape_byte_plain x (λ e. omega arith) (λ e. omega arith) (omega arith)

letter_is_plain : (x : ℕ) → 93 ≤ x → escape_byte x ≡ x ∷ []
letter_is_plain x low = escape_byte_plain x (λ e. omega arith) (λ e. omega arith) (omega arith)

digit_is_plain : (d : ℕ) → d < 16 → escape_byte (digit_char d) ≡ digit_char d ∷ []
digit_is_plain d small = by (nat_lt d 10) refl
  where
    by : (b : Bool) → nat_lt d 10 ≡ b → escape_byte (cond b (48 + d) (87 + d)) ≡ cond b (48 + d) (87 + d) ∷ []
    by true e = byte_is_plain (48 + d) (omega arith) (omega (arith, ltb-true d 10 e))
    by false e = letter_is_plain (87 + d) (omega (arith, ltb-false d 10 e))

pub hex_is_plain : (bytes : List ℕ) → escape (hex bytes) ≡ hex bytes
hex_is_plain [] = refl
hex_is_plain (b ∷ bytes) =
    ap₂ (λ (a c : List ℕ). a ++ c) (digit_is_plain (b / 16 % 16) (omega arith))
    (ap₂ (λ (a c : List ℕ). a ++ c) (digit_is_plain (b % 16) (omega arith)) (hex_is_plain bytes))

pub decimal_is_plain : (n : ℕ) → n < 2 ^ 64 → escape (decimal n) ≡ decimal n
decimal_is_plain = decimal_by_steps (λ m ds. escape ds ≡ ds) (λ m l. ap (λ x. x ++ []) (byte_is_plain (48 + m) (omega arith) (omega arith)))
    (λ m ds l h. flat_map-append escape_byte ds ((48 + m % 10) ∷ []) ∙ ap₂ (λ (a c : List ℕ). a ++ c) h (ap (λ x. x ++ []) (byte_is_plain (48 + m % 10) (omega arith) (omega arith))))

low_line_is_plain : escape (95 ∷ []) ≡ 95 ∷ []
unfolding escape_byte
low_line_is_plain = refl

pub task_is_plain : (t : TaskId) → t.sub < 256 → t.part < 256 → escape (task_text t) ≡ task_text t
task_is_plain t sub part =
    flat_map-append escape_byte (decimal t.sub) (95 ∷ decimal t.part)
    ∙ ap₂ (λ (a c : List ℕ). a ++ c) (decimal_is_plain t.sub (omega arith)) (flat_map-append escape_byte (95 ∷ []) (decimal t.part)
    ∙ ap₂ (λ (a c : List ℕ). a ++ c) low_line_is_plain (decimal_is_plain t.part (omega arith)))

pub word_is_plain : (r : Request) → escape (call_of r).0 ≡ (call_of r).0
unfolding escape_byte
word_is_plain (Produce p rec) = refl
word_is_plain (Init w) = refl
word_is_plain (Add w e p) = refl
word_is_plain (Append w e n t p recs) = refl
word_is_plain (SendOffsets w e g t offsets order late) = refl
word_is_plain (Decide w e commit) = refl
word_is_plain (MarkNext w) = refl
word_is_plain (Join w) = refl
word_is_plain (Expire w) = refl
word_is_plain (Hold w held) = refl
word_is_plain (Probe w g) = refl
word_is_plain (Assign w g a) = refl
word_is_plain (Park i t) = refl
word_is_plain (Unpark i t) = refl
