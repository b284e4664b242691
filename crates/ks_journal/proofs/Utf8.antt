-- The texts of a line are UTF-8.
use Rattle.std.proofs.Common.{ℕ, suc, zero, ◌+◌, ◌/◌, ◌%◌, ◌<◌, nat_lt, Bool, true, false, cond, List, [], ◌∷◌, decimal, refl, arith}
use Rattle.std.specs.Char.{digit_char}
use Rattle.std.specs.Str.{IsUtf8, IsAscii}
use Rattle.std.proofs.lemmas.Str.{IsUtf8-append, IsUtf8-from_ascii}
use Rattle.std.proofs.lemmas.Fmt.{IsAscii-decimal}
use Rattle.json.proofs.Printed.Utf8.{IsUtf8-are_ascii}
use Rattle.ks_record.specs.declared.record.TaskId.{TaskId}
use Rattle.ks_history.specs.declared.journal.Request.{Request}
use Rattle.ks_history.specs.declared.journal.Request.TheVariants.{Produce, Init, Add, Append, SendOffsets, Decide, MarkNext, Join, Expire, Hold, Probe, Assign, Park, Unpark}
use Rattle.ks_journal.specs.Lines.{hex, task_text, call_of}
use Rattle.ks_journal.specs.Fits.{FitsTask}

small_digit : (d : ℕ) → d < 16 → digit_char d < 128
small_digit d small = by (nat_lt d 10)
  where
    by : (b : Bool) → cond b (48 + d) (87 + d) < 128
    by true = omega arith
    by false = omega arith

hex_ascii : (bytes : List ℕ) → IsAscii (hex bytes)
hex_ascii [] i = omega arith
hex_ascii (b ∷ bytes) zero = small_digit (b / 16 % 16) (omega arith)
hex_ascii (b ∷ bytes) (suc zero) = small_digit (b % 16) (omega arith)
hex_ascii (b ∷ bytes) (suc (suc i)) = hex_ascii bytes i

pub hex_utf8 : (bytes : List ℕ) → IsUtf8 (hex bytes)
hex_utf8 bytes = IsUtf8-from_ascii (hex bytes) (hex_ascii bytes)

decimal_utf8 : (n : ℕ) → n < 256 → IsUtf8 (decimal n)
decimal_utf8 n h = IsUtf8-from_ascii (decimal n) (IsAscii-decimal n (omega arith))

pub task_utf8 : (t : TaskId) → FitsTask t → IsUtf8 (task_text t)
task_utf8 t h = IsUtf8-append (decimal t.sub) (95 ∷ decimal t.part) (decimal_utf8 t.sub h.0) (IsUtf8-append (95 ∷ []) (decimal t.part) (IsUtf8-are_ascii (95 ∷ []) refl) (decimal_utf8 t.part h.1))

pub word_utf8 : (r : Request) → IsUtf8 (call_of r).0
word_utf8 (Produce p rec) = IsUtf8-are_ascii _ refl
word_utf8 (Init w) = IsUtf8-are_ascii _ refl
word_utf8 (Add w e p) = IsUtf8-are_ascii _ refl
word_utf8 (Append w e n t p recs) = IsUtf8-are_ascii _ refl
word_utf8 (SendOffsets w e g t offsets order late) = IsUtf8-are_ascii _ refl
word_utf8 (Decide w e commit) = IsUtf8-are_ascii _ refl
word_utf8 (MarkNext w) = IsUtf8-are_ascii _ refl
word_utf8 (Join w) = IsUtf8-are_ascii _ refl
word_utf8 (Expire w) = IsUtf8-are_ascii _ refl
word_utf8 (Hold w held) = IsUtf8-are_ascii _ refl
word_utf8 (Probe w g) = IsUtf8-are_ascii _ refl
word_utf8 (Assign w g a) = IsUtf8-are_ascii _ refl
word_utf8 (Park i t) = IsUtf8-are_ascii _ refl
word_utf8 (Unpark i t) = IsUtf8-are_ascii _ refl
