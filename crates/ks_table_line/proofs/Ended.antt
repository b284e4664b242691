-- A head, and a line with its end.
use Rattle.std.proofs.Common.{◌≡◌, ℕ, ◌+◌, ◌-◌, ◌^◌, ◌<◌, ◌≤◌, List, [], ◌∷◌, ◌++◌, length, take, drop, Option, Some, None, codes, decimal, refl, sym, ap, ◌∙◌, arith, length-append, IsUtf8}
use Rattle.std.specs.Prelude.{Result, Ok, Err}
use Rattle.std.proofs.Math.Seq.{take-append_seam, drop-append_seam}
use Rattle.std.proofs.lemmas.List.{take_rest}
use Rattle.std.proofs.lemmas.Fmt.{IsAscii-decimal}
use Rattle.std.proofs.lemmas.Str.{IsUtf8-from_ascii}
use Rattle.ks_query.specs.Printed.{head_line, row_line, row_data}
use Rattle.ks_query.specs.declared.table.TableRow.{TableRow}
use Rattle.serde_json.specs.Written.{compact_text}
use Rattle.ks_table_line.proofs.RowAgain.{same_front}

pub decimal_utf8 : (n : ℕ) → n < 2 ^ 64 → IsUtf8 (decimal n)
decimal_utf8 n h = IsUtf8-from_ascii (decimal n) (IsAscii-decimal n h)

-- ---- a line and its end
pub front_is : (line text front : List ℕ) → length text ≡ length line + 1 → take (length line) text ≡ line → text ≡ front ++ 10 ∷ [] → line ++ 10 ∷ [] ≡ text
front_is line text front long same is =
    let size : length line ≡ length front = omega (arith, long, ap (λ (l : List ℕ). length l) is, length-append front (10 ∷ [])) in
    ap (λ l. l ++ 10 ∷ []) (sym same ∙ ap (λ n. take n text) size ∙ ap (take (length front)) is ∙ take-append_seam front (10 ∷ [])) ∙ sym is

pub with_end : (line text : List ℕ) → line ++ 10 ∷ [] ≡ text → take (length line) text ≡ line
with_end line text e = ap (take (length line)) (sym e) ∙ take-append_seam line (10 ∷ [])

pub as_long : (line text : List ℕ) → line ++ 10 ∷ [] ≡ text → length text ≡ length line + 1
as_long line text e = omega (arith, ap (λ (l : List ℕ). length l) e, length-append line (10 ∷ []))

pub row_ends : (r : TableRow) → row_line r ≡ compact_text (row_data r) ++ 10 ∷ []
unfolding row_line
row_ends r = refl

-- ---- a head
abbrev pub front_of : List ℕ → List ℕ
front_of name = codes "table " ++ name ++ codes " "

abbrev pub head_of : List ℕ → ℕ → List ℕ
head_of name n = front_of name ++ decimal n

pub head_ends : (name : List ℕ) (n : ℕ) → head_line name n ≡ head_of name n ++ 10 ∷ []
unfolding head_line
head_ends name n = refl

head_is : (name line : List ℕ) (n : ℕ) → line ++ 10 ∷ [] ≡ head_line name n → line ≡ head_of name n
head_is name line n e = same_front line (head_of name n) 10 (e ∙ head_ends name n)

front_long : (name : List ℕ) → length (front_of name) ≡ length name + 7
front_long name = omega (arith, length-append (codes "table " ++ name) (codes " "), length-append (codes "table ") name)

pub digits_are : (name line : List ℕ) (n : ℕ) → line ++ 10 ∷ [] ≡ head_line name n → take (length line - (length name + 7)) (drop (length name + 7) line) ≡ decimal n
digits_are name line n e =
    take_rest line (length name + 7)
    ∙ ap (λ k. drop k line) (sym (front_long name)) ∙ ap (drop (length (front_of name))) (head_is name line n e) ∙ drop-append_seam (front_of name) (decimal n)

pub long_enough : (name line : List ℕ) (n : ℕ) → n < 2 ^ 64 → line ++ 10 ∷ [] ≡ head_line name n → length name + 7 ≤ length line
long_enough name line n h e = omega (arith, ap (λ (l : List ℕ). length l) (head_is name line n e), length-append (front_of name) (decimal n), front_long name)

-- ---- a number that was read
pub same_count : {E : Type 0} (r : Result ℕ E) (a b : ℕ) → r ≡ Ok a → r ≡ Ok b → Some a ≡ Some b
same_count {E} r a b e f = ap told (sym e ∙ f)
  where
    told : Result ℕ E → Option ℕ
    told (Ok x) = Some x
    told (Err x) = None

pub no_count : {E : Type 0} (r : Result ℕ E) (e : E) (b : ℕ) → r ≡ Err e → r ≡ Ok b → None ≡ Some b
no_count {E} r e b f g = ap told (sym f ∙ g)
  where
    told : Result ℕ E → Option ℕ
    told (Ok x) = Some x
    told (Err x) = None
