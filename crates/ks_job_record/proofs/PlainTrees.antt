-- A plain line is what JSON prints for a value, so it is read as that value.
use Rattle.std.proofs.Common.{◌≡◌, ℕ, ◌≤◌, Bool, true, false, List, [], ◌∷◌, ◌++◌, Option, Some, None, option_and_then, decimal, codes, refl, sym, ap, ap₂, ◌∙◌, append_assoc, append-nil}
use Rattle.std.specs.Fmt.{signed_decimal}
use Rattle.std.specs.List.{AllByRecursion}
use Rattle.std.proofs.lemmas.Bool.{and_parts, not-true, eqb-false, leb-true}
use Rattle.json.specs.Token.{Token}
use Rattle.json.specs.Lex.{tokens}
use Rattle.json.specs.Json as json
use Rattle.json.specs.Tree as tree
use Rattle.json.specs.Print.{print, print_from, escape, escape_byte}
use Rattle.json.proofs.Printed.Strings.{escape_byte_plain}
use Rattle.json.proofs.Printed.Tokens.{tokens-print}
use Rattle.json.proofs.Printed.Trees.{ArePrintable-json_tokens, value-json_tokens}
use Rattle.serde_json.specs.Data.{unsigned, Data, null, number, string, object, Members, no_members, member}
use Rattle.serde_json.specs.Read.{read, of_json, max_depth}
use Rattle.serde_json.specs.Find.{of_integer}
use Rattle.ks_row.specs.Rows.{Member}
use Rattle.ks_row.specs.declared.row.Field.{Field}
use Rattle.ks_row.specs.declared.row.Field.TheVariants.{Int, Text}
use Rattle.ks_job_record.specs.Plain.{is_plain_byte, is_plain, member_text}
use Rattle.ks_job_record.specs.PlainRows.{IsWhole}

-- what is printed for a value is read as what it says
pub read_printed : (j : json.Json) (d : Data) → tree.HasNumbers j → tree.depth j ≤ max_depth → of_json j ≡ Some d → read (print (tree.json_tokens j)) ≡ Some d
read_printed j d numbers shallow e =
    let ts = tree.json_tokens j in
    let lexed : json.value max_depth (tokens (print ts)) ≡ Some (j, []) =
    ap (json.value max_depth) (tokens-print ts (ArePrintable-json_tokens j numbers) ∙ sym (append-nil ts)) ∙ value-json_tokens j max_depth [] shallow in
    ap (λ o. option_and_then of_json (option_and_then (λ p. json.if_last p.0 p.1) o)) lexed ∙ e

-- ---- plain texts have no escapes
byte_escape : (c : ℕ) → is_plain_byte c ≡ true → escape_byte c ≡ c ∷ []
unfolding is_plain_byte
byte_escape c h =
    let a = and_parts _ _ h in
    let b = and_parts _ _ a.0 in
    let d = and_parts _ _ b.0 in
    escape_byte_plain c (eqb-false _ _ (not-true _ b.1)) (eqb-false _ _ (not-true _ a.1)) (leb-true _ _ d.0)

pub plain_escape : (s : List ℕ) → is_plain s ≡ true → escape s ≡ s
plain_escape [] h = refl
plain_escape (c ∷ s) h = let p = and_parts (is_plain_byte c) (is_plain s) h in ap₂ (λ (a b : List ℕ). a ++ b) (byte_escape c p.0) (plain_escape s p.1)

-- ---- trees and values
abbrev pub field_json : Field → json.Json
field_json (Int z) = json.number (signed_decimal z)
field_json (Text s) = json.string s

abbrev pub members_json : List Member → json.Members
members_json [] = json.no_members
members_json (m ∷ ms) = json.member m.0 (field_json m.1) (members_json ms)

abbrev pub field_data : Field → Data
field_data (Int z) = number (of_integer z)
field_data (Text s) = string s

abbrev pub members_data : List Member → Members
members_data [] = no_members
members_data (m ∷ ms) = member m.0 (field_data m.1) (members_data ms)

-- no value is null
abbrev pub value_json : Option (List Member) → json.Json
value_json None = json.null
value_json (Some ms) = json.object (members_json ms)

abbrev pub value_data : Option (List Member) → Data
value_data None = null
value_data (Some ms) = object (members_data ms)

abbrev pub time_json : Option ℕ → json.Members
time_json None = json.no_members
time_json (Some n) = json.member (codes "ts") (json.number (decimal n)) json.no_members

abbrev pub line_json : List ℕ → List ℕ → json.Json → Option ℕ → json.Json
line_json topic key value time =
    json.object (json.member (codes "topic") (json.string topic) (json.member (codes "key") (json.string key) (json.member (codes "value") value (time_json time))))

-- the members in order of names
abbrev pub line_data : List ℕ → List ℕ → Data → Option ℕ → Data
line_data topic key value None = object (member (codes "key") (string key) (member (codes "topic") (string topic) (member (codes "value") value no_members)))
line_data topic key value (Some n) =
    object (member (codes "key") (string key) (member (codes "topic") (string topic) (member (codes "ts") (number (unsigned n)) (member (codes "value") value no_members))))

-- ---- what is printed
abbrev comma_if : Bool → List ℕ
comma_if true = 44 ∷ []
comma_if false = []

-- members with commas between, and the closing brace
abbrev pub listed : Bool → List Member → List ℕ
listed later [] = 125 ∷ []
listed later (m ∷ ms) = comma_if later ++ (member_text m ++ listed true ms)

numbered : (c k s q p l : List ℕ) → q ≡ l ++ p → c ++ ((34 ∷ (k ++ 34 ∷ []) ++ 58 ∷ []) ++ (s ++ q)) ≡ (c ++ ((34 ∷ (k ++ 34 ∷ 58 ∷ s)) ++ l)) ++ p
numbered c k s q p l e = ap (λ r. c ++ ((34 ∷ (k ++ 34 ∷ []) ++ 58 ∷ []) ++ (s ++ r))) e ∙ simp append_assoc

texted : (c k s q p l : List ℕ) → q ≡ l ++ p → c ++ ((34 ∷ (k ++ 34 ∷ []) ++ 58 ∷ []) ++ ((34 ∷ (s ++ 34 ∷ [])) ++ q)) ≡ (c ++ ((34 ∷ (k ++ 34 ∷ 58 ∷ 34 ∷ (s ++ 34 ∷ []))) ++ l)) ++ p
texted c k s q p l e = ap (λ r. c ++ ((34 ∷ (k ++ 34 ∷ []) ++ 58 ∷ []) ++ ((34 ∷ (s ++ 34 ∷ [])) ++ r))) e ∙ simp append_assoc

number_printed : (c k s q p l : List ℕ) → is_plain k ≡ true → q ≡ l ++ p → c ++ ((34 ∷ (escape k ++ 34 ∷ []) ++ 58 ∷ []) ++ (s ++ q)) ≡ (c ++ ((34 ∷ (k ++ 34 ∷ 58 ∷ s)) ++ l)) ++ p
number_printed c k s q p l h e = ap (λ t. c ++ ((34 ∷ (t ++ 34 ∷ []) ++ 58 ∷ []) ++ (s ++ q))) (plain_escape k h) ∙ numbered c k s q p l e

text_printed : (c k s q p l : List ℕ) → is_plain k ≡ true → is_plain s ≡ true → q ≡ l ++ p → c ++ ((34 ∷ (escape k ++ 34 ∷ []) ++ 58 ∷ []) ++ ((34 ∷ (escape s ++ 34 ∷ [])) ++ q)) ≡ (c ++ ((34 ∷ (k ++ 34 ∷ 58 ∷ 34 ∷ (s ++ 34 ∷ []))) ++ l)) ++ p
text_printed c k s q p l h i e = ap₂ (λ (t u : List ℕ). c ++ ((34 ∷ (t ++ 34 ∷ []) ++ 58 ∷ []) ++ ((34 ∷ (u ++ 34 ∷ [])) ++ q))) (plain_escape k h) (plain_escape s i) ∙ texted c k s q p l e

pub print_members : (later : Bool) (ms : List Member) (more : List Token) → AllByRecursion IsWhole ms → print_from later (tree.members_tokens (members_json ms) ++ more) ≡ listed later ms ++ print_from true more
unfolding print_from
print_members true [] more h = refl
print_members false [] more h = refl
print_members true ((k, Int z) ∷ ms) more h = number_printed (44 ∷ []) k (signed_decimal z) _ (print_from true more) (listed true ms) h.0.name (print_members true ms more h.1)
print_members false ((k, Int z) ∷ ms) more h = number_printed [] k (signed_decimal z) _ (print_from true more) (listed true ms) h.0.name (print_members true ms more h.1)
print_members true ((k, Text s) ∷ ms) more h = text_printed (44 ∷ []) k s _ (print_from true more) (listed true ms) h.0.name h.0.field (print_members true ms more h.1)
print_members false ((k, Text s) ∷ ms) more h = text_printed [] k s _ (print_from true more) (listed true ms) h.0.name h.0.field (print_members true ms more h.1)
