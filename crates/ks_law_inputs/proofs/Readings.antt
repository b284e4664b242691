-- What is read from a text of UTF-8 has texts of UTF-8, and its negative numbers have 64 bits.
use Rattle.std.proofs.Common.{◌≡◌, ℕ, zero, suc, ◌-◌, ◌≤◌, ◌^◌, Bool, true, false, cond, ◌&&◌, ◌==◌, nat_lt, nat_le, List, [], ◌∷◌, ◌++◌, length, take, drop, Option, Some, None, option_map, option_and_then, Ordering, Less, Equal, Greater, refl, sym, subst, arith, append_assoc}
use Rattle.std.specs.Prelude.{slice_index, nat_eq}
use Rattle.std.specs.Int.{w64}
use Rattle.std.specs.Int.RustNames.{FitsSigned}
use Rattle.std.specs.Str.{IsUtf8}
use Rattle.std.specs.Ordering.{nat_cmp, match_ordering}
use Rattle.std.specs.Cmp.Lexicographic.{slice_cmp}
use Rattle.std.proofs.lemmas.Bool.{leb-true}
use Rattle.std.proofs.lemmas.Bool.Decides.{Decides-eqb}
use Rattle.std.specs.List.{starts_with}
use Rattle.json.specs.Ascii as ascii
use Rattle.json.specs.Token.{Token}
use Rattle.json.specs.Token as tok
use Rattle.json.specs.Text.{content, plain}
use Rattle.json.specs.Word.{head, ends_word, word, literal, number_before, after_number}
use Rattle.json.specs.Lex.{Lexeme, token, comma, colon, Class, quote, backslash, operator, space, other, class, operator_lexeme, string_token, Mode, between, in_word, in_string, in_escape, lex_byte, lex, Place, fresh, after_value, after_comma, after_key, may_begin, may_close, if_allowed, place_token, punctuate, tokens}
use Rattle.json.specs.Json as json
use Rattle.fast_float.specs.Text.{minus, Parts, scan, digits_of, with_sign}
use Rattle.serde_json.specs.Data.{Num, unsigned, negative, Data, number, array, object, item, Members, no_members, member, put}
use Rattle.serde_json.specs.Read.{is_integer, float_of, number_from, number_of, of_json, of_items, of_members, max_depth, read}
use Rattle.ks_law_inputs.specs.Values.{FitsNum, FitsData, FitsItems, FitsMembers}
use Rattle.ks_law_inputs.proofs.Contents.{after_front, text_utf8}

-- ---- lexemes
abbrev pub FitsToken : Token → Type 0
FitsToken tok.begin_object = Unit {0}
FitsToken tok.end_object = Unit {0}
FitsToken tok.begin_array = Unit {0}
FitsToken tok.end_array = Unit {0}
FitsToken (tok.key s) = IsUtf8 s
FitsToken (tok.string s) = IsUtf8 s
FitsToken (tok.number s) = Unit {0}
FitsToken (tok.boolean b) = Unit {0}
FitsToken tok.null = Unit {0}
FitsToken tok.bad = Unit {0}

abbrev pub FitsLexeme : Lexeme → Type 0
FitsLexeme (token t) = FitsToken t
FitsLexeme comma = Unit {0}
FitsLexeme colon = Unit {0}

abbrev pub AllLexemes : List Lexeme → Type 0
AllLexemes [] = Unit {0}
AllLexemes (l ∷ ls) = FitsLexeme l × AllLexemes ls

abbrev pub AllTokens : List Token → Type 0
AllTokens [] = Unit {0}
AllTokens (t ∷ ts) = FitsToken t × AllTokens ts

string_fits : (xs : List ℕ) (o : Option (List ℕ)) → content plain xs ≡ o → IsUtf8 xs → FitsToken (string_token o)
string_fits xs None e u = tt
string_fits xs (Some s) e u = text_utf8 xs s u e

operator_at : (a b c d f : Bool) → FitsLexeme (cond a (token tok.begin_object) (cond b (token tok.end_object) (cond c (token tok.begin_array) (cond d (token tok.end_array) (cond f comma colon)))))
operator_at true b c d f = tt
operator_at false true c d f = tt
operator_at false false true d f = tt
operator_at false false false true f = tt
operator_at false false false false true = tt
operator_at false false false false false = tt

operator_fits : (x : ℕ) → FitsLexeme (operator_lexeme x)
operator_fits x = operator_at _ _ _ _ _

literal_at : (b : Bool) (t : Token) → FitsToken t → FitsToken (cond b t tok.bad)
literal_at true t f = f
literal_at false t f = tt

literal_fits : (name : List ℕ) (k : Token) (t : List ℕ) → FitsToken k → FitsToken (literal name k t)
literal_fits name k t f = literal_at (starts_with nat_eq t name && ends_word (drop (length name) t)) k f

number_at : (t : List ℕ) (o : Option (List ℕ)) → FitsToken (number_before t o)
number_at t None = tt
number_at t (Some rest) = literal_at (ends_word rest) (tok.number (take (length t - length rest) t)) tt

word_at : (a b c : Bool) (p q r s : Token) → FitsToken p → FitsToken q → FitsToken r → FitsToken s → FitsToken (cond a p (cond b q (cond c r s)))
word_at true b c p q r s fp fq fr fs = fp
word_at false true c p q r s fp fq fr fs = fq
word_at false false true p q r s fp fq fr fs = fr
word_at false false false p q r s fp fq fr fs = fs

word_fits : (t : List ℕ) → FitsToken (word t)
unfolding word
word_fits t =
    word_at (head t == ascii.lower_t) (head t == ascii.lower_f) (head t == ascii.lower_n)
    (literal ascii.true_text (tok.boolean true) t) (literal ascii.false_text (tok.boolean false) t) (literal ascii.null_text tok.null t) (number_before t (after_number t))
    (literal_fits ascii.true_text (tok.boolean true) t tt) (literal_fits ascii.false_text (tok.boolean false) t tt) (literal_fits ascii.null_text tok.null t tt) (number_at t (after_number t))

class_at : (x : ℕ) (a b c d : Bool) → (x == 34) ≡ a → cond a quote (cond b backslash (cond c operator (cond d space other))) ≡ quote → x ≡ 34
class_at x true b c d e h = (Decides-eqb x 34).0 e
class_at x false true c d e h = absurd (cc)
class_at x false false true d e h = absurd (cc)
class_at x false false false true e h = absurd (cc)
class_at x false false false false e h = absurd (cc)

quote_is : (x : ℕ) → class x ≡ quote → x ≡ 34
quote_is x h = class_at x _ _ _ _ refl h

byte_fits : (m : Mode) (c : Class) (x : ℕ) (xs : List ℕ) (k : Mode → List Lexeme) → (c ≡ quote → IsUtf8 xs) → ((n : Mode) → AllLexemes (k n)) → AllLexemes (lex_byte m c x xs k)
byte_fits between quote x xs k u h = (string_fits xs _ refl (u refl), h in_string)
byte_fits between backslash x xs k u h = (tt, h in_word)
byte_fits between operator x xs k u h = (operator_fits x, h between)
byte_fits between space x xs k u h = h between
byte_fits between other x xs k u h = (word_fits (x ∷ xs), h in_word)
byte_fits in_word quote x xs k u h = h in_word
byte_fits in_word backslash x xs k u h = h in_word
byte_fits in_word operator x xs k u h = (operator_fits x, h between)
byte_fits in_word space x xs k u h = h between
byte_fits in_word other x xs k u h = h in_word
byte_fits in_string quote x xs k u h = h between
byte_fits in_string backslash x xs k u h = h in_escape
byte_fits in_string operator x xs k u h = h in_string
byte_fits in_string space x xs k u h = h in_string
byte_fits in_string other x xs k u h = h in_string
byte_fits in_escape c x xs k u h = h in_string

lex_fits : (m : Mode) (front xs : List ℕ) → IsUtf8 (front ++ xs) → AllLexemes (lex m xs)
unfolding lex
lex_fits m front [] u = tt
lex_fits m front (x ∷ xs) u =
    byte_fits m (class x) x xs _ (λ c. let e = quote_is x c in after_front front x xs (omega arith) u) (λ n. lex_fits n (front ++ x ∷ []) xs (subst IsUtf8 (sym (append_assoc front (x ∷ []) xs)) u))

-- ---- tokens
allowed_fits : (b : Bool) (t : Token) (k : Place → List Token) (next : Place) → FitsToken t → AllTokens (k next) → AllTokens (if_allowed b t k next)
allowed_fits true t k next f h = (f, h)
allowed_fits false t k next f h = (tt, tt)

placed_fits : (p : Place) (t : Token) (b : Bool) (k : Place → List Token) → FitsToken t → ((n : Place) → AllTokens (k n)) → AllTokens (place_token p t b k)
placed_fits p tok.begin_object b k f h = allowed_fits (may_begin p) tok.begin_object k fresh tt (h fresh)
placed_fits p tok.end_object b k f h = allowed_fits (may_close p) tok.end_object k after_value tt (h after_value)
placed_fits p tok.begin_array b k f h = allowed_fits (may_begin p) tok.begin_array k fresh tt (h fresh)
placed_fits p tok.end_array b k f h = allowed_fits (may_close p) tok.end_array k after_value tt (h after_value)
placed_fits p (tok.key s) b k f h = (tt, tt)
placed_fits p (tok.string s) true k f h = allowed_fits (may_begin p) (tok.key s) k after_key f (h after_key)
placed_fits p (tok.string s) false k f h = allowed_fits (may_begin p) (tok.string s) k after_value f (h after_value)
placed_fits p (tok.number s) b k f h = allowed_fits (may_begin p) (tok.number s) k after_value tt (h after_value)
placed_fits p (tok.boolean v) b k f h = allowed_fits (may_begin p) (tok.boolean v) k after_value tt (h after_value)
placed_fits p tok.null b k f h = allowed_fits (may_begin p) tok.null k after_value tt (h after_value)
placed_fits p tok.bad b k f h = (tt, tt)

punctuated_fits : (p : Place) (ls : List Lexeme) → AllLexemes ls → AllTokens (punctuate p ls)
unfolding punctuate
punctuated_fits fresh [] h = tt
punctuated_fits after_value [] h = tt
punctuated_fits after_comma [] h = (tt, tt)
punctuated_fits after_key [] h = (tt, tt)
punctuated_fits fresh (token t ∷ ls) h = placed_fits fresh t _ _ h.0 (λ n. punctuated_fits n ls h.1)
punctuated_fits after_value (token t ∷ ls) h = placed_fits after_value t _ _ h.0 (λ n. punctuated_fits n ls h.1)
punctuated_fits after_comma (token t ∷ ls) h = placed_fits after_comma t _ _ h.0 (λ n. punctuated_fits n ls h.1)
punctuated_fits after_key (token t ∷ ls) h = placed_fits after_key t _ _ h.0 (λ n. punctuated_fits n ls h.1)
punctuated_fits fresh (comma ∷ ls) h = (tt, tt)
punctuated_fits after_value (comma ∷ ls) h = punctuated_fits after_comma ls h.1
punctuated_fits after_comma (comma ∷ ls) h = (tt, tt)
punctuated_fits after_key (comma ∷ ls) h = (tt, tt)
punctuated_fits fresh (colon ∷ ls) h = (tt, tt)
punctuated_fits after_value (colon ∷ ls) h = (tt, tt)
punctuated_fits after_comma (colon ∷ ls) h = (tt, tt)
punctuated_fits after_key (colon ∷ ls) h = punctuated_fits fresh ls h.1

tokens_fit : (text : List ℕ) → IsUtf8 text → AllTokens (tokens text)
tokens_fit text u = punctuated_fits fresh (lex between text) (lex_fits between [] text u)

-- ---- values of the grammar
abbrev mutual
  pub FitsJson : json.Json → Type 0
  FitsJson json.null = Unit {0}
  FitsJson (json.boolean b) = Unit {0}
  FitsJson (json.number s) = Unit {0}
  FitsJson (json.string s) = IsUtf8 s
  FitsJson (json.array js) = JsonItems js
  FitsJson (json.object ms) = JsonMembers ms

  pub JsonItems : json.Items → Type 0
  JsonItems json.no_items = Unit {0}
  JsonItems (json.item j js) = FitsJson j × JsonItems js

  pub JsonMembers : json.Members → Type 0
  JsonMembers json.no_members = Unit {0}
  JsonMembers (json.member k j ms) = IsUtf8 k × FitsJson j × JsonMembers ms

abbrev pub Holds : {A : Type 0} → (A → Type 0) → Option A → Type 0
Holds P None = Unit {0}
Holds P (Some a) = P a

holds_map : {A B : Type 0} (P : A → Type 0) (Q : B → Type 0) (h : A → B) → ((a : A) → P a → Q (h a)) → (o : Option A) → Holds P o → Holds Q (option_map h o)
holds_map P Q h k None x = tt
holds_map P Q h k (Some a) x = k a x

holds_and_then : {A B : Type 0} (P : A → Type 0) (Q : B → Type 0) (h : A → Option B) → ((a : A) → P a → Holds Q (h a)) → (o : Option A) → Holds P o → Holds Q (option_and_then h o)
holds_and_then P Q h k None x = tt
holds_and_then P Q h k (Some a) x = k a x

-- what a parser gives fits, and so do the tokens after it
abbrev pub Parsed : {A : Type 0} → (A → Type 0) → (A × List Token) → Type 0
Parsed P p = P p.0 × AllTokens p.1

abbrev pub Parses : {A : Type 0} → (A → Type 0) → json.Parse A → Type 0
Parses P f = (ts : List Token) → AllTokens ts → Holds (Parsed P) (f ts)

closed_fits : (ts : List Token) → AllTokens ts → Holds AllTokens (json.after_end_array ts)
closed_fits [] h = tt
closed_fits (tok.begin_object ∷ ts) h = tt
closed_fits (tok.end_object ∷ ts) h = tt
closed_fits (tok.begin_array ∷ ts) h = tt
closed_fits (tok.end_array ∷ ts) h = h.1
closed_fits (tok.key s ∷ ts) h = tt
closed_fits (tok.string s ∷ ts) h = tt
closed_fits (tok.number s ∷ ts) h = tt
closed_fits (tok.boolean b ∷ ts) h = tt
closed_fits (tok.null ∷ ts) h = tt
closed_fits (tok.bad ∷ ts) h = tt

key_fits : Parses (Holds IsUtf8) json.read_key
key_fits [] h = tt
key_fits (tok.begin_object ∷ ts) h = tt
key_fits (tok.end_object ∷ ts) h = (tt, h.1)
key_fits (tok.begin_array ∷ ts) h = tt
key_fits (tok.end_array ∷ ts) h = tt
key_fits (tok.key s ∷ ts) h = (h.0, h.1)
key_fits (tok.string s ∷ ts) h = tt
key_fits (tok.number s ∷ ts) h = tt
key_fits (tok.boolean b ∷ ts) h = tt
key_fits (tok.null ∷ ts) h = tt
key_fits (tok.bad ∷ ts) h = tt

items_step_fits : (value : json.Parse json.Json) (more : json.Parse json.Items) (ts : List Token) (o : Option (List Token)) → Parses FitsJson value → Parses JsonItems more → AllTokens ts → Holds AllTokens o →
    Holds (Parsed JsonItems) (json.items_step value more ts o)
items_step_fits value more ts (Some rest) v m h o = (tt, o)
items_step_fits value more ts None v m h o =
    holds_and_then (Parsed FitsJson) (Parsed JsonItems) (λ p. json.parse_map (json.item p.0) (more p.1)) (λ p k. holds_map (Parsed JsonItems) (Parsed JsonItems) (λ q. (json.item p.0 q.0, q.1)) (λ q l. ((k.0, l.0), l.1)) (more p.1) (m p.1 k.1)) (value ts) (v ts h)

items_fit : (value : json.Parse json.Json) (n : ℕ) → Parses FitsJson value → Parses JsonItems (json.items value n)
unfolding json.items
items_fit value zero v ts h = tt
items_fit value (suc n) v ts h = items_step_fits value (json.items value n) ts (json.after_end_array ts) v (items_fit value n v) h (closed_fits ts h)

members_step_fits : (value : json.Parse json.Json) (more : json.Parse json.Members) (o : Option (List ℕ)) (ts : List Token) → Parses FitsJson value → Parses JsonMembers more → Holds IsUtf8 o → AllTokens ts →
    Holds (Parsed JsonMembers) (json.members_step value more o ts)
members_step_fits value more None ts v m o h = (tt, h)
members_step_fits value more (Some key) ts v m o h =
    holds_and_then (Parsed FitsJson) (Parsed JsonMembers) (λ p. json.parse_map (json.member key p.0) (more p.1)) (λ p k. holds_map (Parsed JsonMembers) (Parsed JsonMembers) (λ q. (json.member key p.0 q.0, q.1)) (λ q l. ((o, k.0, l.0), l.1)) (more p.1) (m p.1 k.1)) (value ts) (v ts h)

members_fit : (value : json.Parse json.Json) (n : ℕ) → Parses FitsJson value → Parses JsonMembers (json.members value n)
unfolding json.members
members_fit value zero v ts h = tt
members_fit value (suc n) v ts h =
    holds_and_then (Parsed (Holds IsUtf8)) (Parsed JsonMembers) (λ p. json.members_step value (json.members value n) p.0 p.1) (λ p k. members_step_fits value (json.members value n) p.0 p.1 v (members_fit value n v) k.0 k.1) (json.read_key ts) (key_fits ts h)

with_fits : (a : json.Parse json.Items) (o : json.Parse json.Members) → Parses JsonItems a → Parses JsonMembers o → Parses FitsJson (json.value_with a o)
with_fits a o ha ho [] h = tt
with_fits a o ha ho (tok.begin_object ∷ ts) h = holds_map (Parsed JsonMembers) (Parsed FitsJson) (λ q. (json.object q.0, q.1)) (λ q l. l) (o ts) (ho ts h.1)
with_fits a o ha ho (tok.end_object ∷ ts) h = tt
with_fits a o ha ho (tok.begin_array ∷ ts) h = holds_map (Parsed JsonItems) (Parsed FitsJson) (λ q. (json.array q.0, q.1)) (λ q l. l) (a ts) (ha ts h.1)
with_fits a o ha ho (tok.end_array ∷ ts) h = tt
with_fits a o ha ho (tok.key s ∷ ts) h = tt
with_fits a o ha ho (tok.string s ∷ ts) h = h
with_fits a o ha ho (tok.number s ∷ ts) h = (tt, h.1)
with_fits a o ha ho (tok.boolean b ∷ ts) h = (tt, h.1)
with_fits a o ha ho (tok.null ∷ ts) h = (tt, h.1)
with_fits a o ha ho (tok.bad ∷ ts) h = tt

value_fits : (depth : ℕ) → Parses FitsJson (json.value depth)
unfolding json.value
value_fits zero = with_fits (λ ts. None) (λ ts. None) (λ ts h. tt) (λ ts h. tt)
value_fits (suc depth) = with_fits _ _ (λ ts h. items_fit (json.value depth) (length ts) (value_fits depth) ts h) (λ ts h. members_fit (json.value depth) (length ts) (value_fits depth) ts h)

-- ---- values
float_fits : (b : Bool) (n : Num) → FitsNum n → Holds FitsNum (cond b (Some n) None)
float_fits true n h = h
float_fits false n h = tt

sign_fits : (n : ℕ) → n ≤ 2 ^ 63 → FitsSigned w64 (with_sign true n)
sign_fits zero h = omega arith
sign_fits (suc m) h = omega arith

parts_fit_at : (a b c : Bool) (p : Parts) → nat_le (digits_of p) (2 ^ 63) ≡ c → Holds FitsNum (cond (a && b && c) (Some (negative (with_sign true (digits_of p)))) (float_of true p))
parts_fit_at true true true p e = sign_fits (digits_of p) (leb-true (digits_of p) (2 ^ 63) e)
parts_fit_at true true false p e = float_fits _ _ tt
parts_fit_at true false c p e = float_fits _ _ tt
parts_fit_at false b c p e = float_fits _ _ tt

plain_fit_at : (b : Bool) (p : Parts) → Holds FitsNum (cond b (Some (unsigned (digits_of p))) (float_of false p))
plain_fit_at true p = tt
plain_fit_at false p = float_fits _ _ tt

number_fits_at : (b : Bool) (p q : Parts) → Holds FitsNum (cond b (number_from true p) (number_from false q))
number_fits_at true p q = parts_fit_at (is_integer p) (nat_lt 0 (digits_of p)) (nat_le (digits_of p) (2 ^ 63)) p refl
number_fits_at false p q = plain_fit_at _ q

number_fits : (s : List ℕ) → Holds FitsNum (number_of s)
unfolding number_of
number_fits s = number_fits_at (slice_index s 0 == minus) (scan (drop 1 s)) (scan s)

put_fits_at : (o : Ordering) (k l : List ℕ) (d e : Data) (ms : Members) → IsUtf8 k → FitsData d → IsUtf8 l → FitsData e → FitsMembers ms → FitsMembers (put k d ms) →
    FitsMembers (match_ordering o (member k d (member l e ms)) (member l d ms) (member l e (put k d ms)))
put_fits_at Less k l d e ms uk fd ul fe m p = (uk, fd, (ul, fe, m))
put_fits_at Equal k l d e ms uk fd ul fe m p = (ul, fd, m)
put_fits_at Greater k l d e ms uk fd ul fe m p = (ul, fe, p)

put_fits : (k : List ℕ) (d : Data) (ms : Members) → IsUtf8 k → FitsData d → FitsMembers ms → FitsMembers (put k d ms)
put_fits k d no_members uk fd m = (uk, fd, tt)
put_fits k d (member l e ms) uk fd m = put_fits_at (slice_cmp nat_cmp k l) k l d e ms uk fd m.0 m.1 m.2 (put_fits k d ms uk fd m.2)

mutual
  json_fits : (j : json.Json) → FitsJson j → Holds FitsData (of_json j)
  json_fits json.null h = tt
  json_fits (json.boolean b) h = tt
  json_fits (json.number s) h = holds_map FitsNum FitsData number (λ a x. x) (number_of s) (number_fits s)
  json_fits (json.string s) h = h
  json_fits (json.array js) h = holds_map FitsItems FitsData array (λ a x. x) _ (json_items_fit js h)
  json_fits (json.object ms) h = holds_map FitsMembers FitsData object (λ a x. x) _ (json_members_fit ms no_members h tt)

  json_items_fit : (js : json.Items) → JsonItems js → Holds FitsItems (of_items js)
  json_items_fit json.no_items h = tt
  json_items_fit (json.item j js) h = holds_and_then FitsData FitsItems _ (λ d x. holds_map FitsItems FitsItems (item d) (λ ds y. (x, y)) _ (json_items_fit js h.1)) _ (json_fits j h.0)

  json_members_fit : (ms : json.Members) (found : Members) → JsonMembers ms → FitsMembers found → Holds FitsMembers (of_members ms found)
  json_members_fit json.no_members found h k = k
  json_members_fit (json.member name j ms) found h k = holds_and_then FitsData FitsMembers _ (λ d x. json_members_fit ms (put name d found) h.2 (put_fits name d found h.0 x k)) _ (json_fits j h.1)

last_fits : (j : json.Json) (ts : List Token) → FitsJson j → Holds FitsJson (json.if_last j ts)
last_fits j [] h = h
last_fits j (t ∷ ts) h = tt

pub read_fits : (text : List ℕ) (d : Data) → IsUtf8 text → read text ≡ Some d → FitsData d
read_fits text d u e =
    subst (Holds FitsData) e (holds_and_then FitsJson FitsData of_json json_fits (option_and_then (λ p. json.if_last p.0 p.1) (json.value max_depth (tokens text)))
    (holds_and_then (Parsed FitsJson) FitsJson (λ p. json.if_last p.0 p.1) (λ p h. last_fits p.0 p.1 h.0) (json.value max_depth (tokens text)) (value_fits max_depth (tokens text) (tokens_fit text u))))
