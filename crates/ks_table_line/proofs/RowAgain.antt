-- A row is read again from its line.
use Rattle.std.proofs.Common.{◌≡◌, ℕ, pos, negsuc, suc, ◌-◌, ◌^◌, ◌<◌, ◌≤◌, max, nat_le, ◌==◌, cond, Bool, true, false, List, [], ◌∷◌, ◌++◌, length, take, Option, Some, None, option_map, option_and_then, Ordering, Less, Equal, Greater, decimal, refl, sym, ap, ap₂, subst, ◌∙◌, arith, append-nil, append_assoc, length-append, IsUtf8}
use Rattle.std.specs.Ordering.{nat_cmp, ordering_reverse, is_lt}
use Rattle.std.specs.Cmp.Lexicographic.{slice_cmp}
use Rattle.std.specs.Fmt.{signed_decimal}
use Rattle.std.specs.List.{AllByRecursion}
use Rattle.std.proofs.Math.Seq.{take-append_seam}
use Rattle.std.proofs.lemmas.Bool.{and_parts, lt-ltb, le-leb, ne_eqb}
use Rattle.std.proofs.lemmas.Cmp.{nat_list_cmp_total}
use Rattle.std.proofs.lemmas.Fmt.{IsAscii-decimal, IsAscii-signed}
use Rattle.std.proofs.lemmas.Str.{IsUtf8-append, IsUtf8-from_ascii}
use Rattle.json.specs.Lex.{tokens}
use Rattle.json.specs.Print.{quoted}
use Rattle.json.specs.Json as json
use Rattle.json.specs.Tree as tree
use Rattle.json.proofs.Printed.Decimals.{IsNumber-decimal, IsNumber-signed_decimal}
use Rattle.json.proofs.Printed.Tokens.{tokens-print}
use Rattle.json.proofs.Printed.Trees.{ArePrintable-json_tokens, value-json_tokens}
use Rattle.json.proofs.Printed.Utf8.{IsUtf8-are_ascii, IsUtf8-quoted}
use Rattle.serde_json.specs.Data.{unsigned, Data, number, string, array, object, Items, no_items, item, Members, no_members, member, put}
use Rattle.serde_json.specs.Read.{read, of_json, of_items, of_members, max_depth}
use Rattle.serde_json.specs.Written.{outline, items_outline, members_outline, compact_text, items_text, members_text, comma_if}
use Rattle.serde_json.proofs.Numbers.{number_of-decimal, number_of-negative}
use Rattle.serde_json.proofs.Texts.{print-outline}
use Rattle.ks_row.specs.Rows.{Member, names_of, rises, is_row, row_of}
use Rattle.ks_record.specs.Texts.{IsKey, IsName, key_of, name_of}
use Rattle.ks_row.specs.Spelling.{FitsField, FitsMember, FitsRow}
use Rattle.ks_row.specs.declared.row.Field.{Field}
use Rattle.ks_row.specs.declared.row.Field.TheVariants.{Int, Text}
use Rattle.ks_query.specs.declared.table.TableRow.{TableRow}
use Rattle.ks_query.specs.Printed.{field_data, put_all, row_object, start_onto, row_data, row_line}
use Rattle.ks_table_line.specs.Fitting.{HasStart, FitsTableRow}
use Rattle.ks_table_line.specs.Reading.{field_in, member_in, members_from, row_in, row_at, table_row_in}

abbrev Name : Type 0
Name = List ℕ

-- ---- members in order of their names are put one behind another
abbrev pub members_of : List Member → Members
members_of [] = no_members
members_of (m ∷ ms) = member m.0 (field_data m.1) (members_of ms)

abbrev IsAbove : Name → List Member → Type 0
IsAbove name ms = AllByRecursion (λ (m : Member). slice_cmp nat_cmp name m.0 ≡ Greater) ms

abbrev AreAbove : List Member → List Member → Type 0
AreAbove found ms = AllByRecursion (λ (m : Member). IsAbove m.0 found) ms

put_last : (m : Member) (found : List Member) → IsAbove m.0 found → put m.0 (field_data m.1) (members_of found) ≡ members_of (found ++ m ∷ [])
put_last m [] h = refl
put_last m (x ∷ xs) h = rw h.0 (ap (member x.0 (field_data x.1)) (put_last m xs h.1))

less_is : (a b : Name) → is_lt (slice_cmp nat_cmp a b) ≡ true → slice_cmp nat_cmp a b ≡ Less
less_is a b h = by (slice_cmp nat_cmp a b) h
  where
    by : (o : Ordering) → is_lt o ≡ true → o ≡ Less
    by Less e = refl
    by Equal e = absurd (cc)
    by Greater e = absurd (cc)

above : (a b : Name) → slice_cmp nat_cmp a b ≡ Less → slice_cmp nat_cmp b a ≡ Greater
above a b h = nat_list_cmp_total.antisymm b a ∙ ap ordering_reverse h

-- the names of these members are above this one
all_above : (name : Name) (ms : List Member) → rises (name ∷ names_of ms) ≡ true → AllByRecursion (λ (m : Member). slice_cmp nat_cmp m.0 name ≡ Greater) ms
all_above name [] h = tt
all_above name (m ∷ ms) h =
    let both = and_parts (is_lt (slice_cmp nat_cmp name m.0)) (rises (m.0 ∷ names_of ms)) h in
    let first = less_is name m.0 both.0 in (
      above name m.0 first,
      later name m first ms (all_above m.0 ms both.1),
    )
  where
    later : (n : Name) (x : Member) → slice_cmp nat_cmp n x.0 ≡ Less → (xs : List Member) → AllByRecursion (λ (y : Member). slice_cmp nat_cmp y.0 x.0 ≡ Greater) xs → AllByRecursion (λ (y : Member). slice_cmp nat_cmp y.0 n ≡ Greater) xs
    later n x l [] k = tt
    later n x l (y ∷ ys) k =
        (above n y.0 (nat_list_cmp_total.trans n x.0 y.0 l (nat_list_cmp_total.antisymm x.0 y.0 ∙ ap ordering_reverse k.0)), later n x l ys k.1)

rises_on : (m : Member) (ms : List Member) → rises (names_of (m ∷ ms)) ≡ true → rises (names_of ms) ≡ true
rises_on m [] h = refl
rises_on m (x ∷ xs) h = (and_parts (is_lt (slice_cmp nat_cmp m.0 x.0)) (rises (names_of (x ∷ xs))) h).1

above_more : (found : List Member) (m : Member) (ms : List Member) → AreAbove found ms → AllByRecursion (λ (x : Member). slice_cmp nat_cmp x.0 m.0 ≡ Greater) ms → AreAbove (found ++ m ∷ []) ms
above_more found m [] a b = tt
above_more found m (x ∷ xs) a b = (one found a.0, above_more found m xs a.1 b.1)
  where
    one : (ys : List Member) → IsAbove x.0 ys → IsAbove x.0 (ys ++ m ∷ [])
    one [] h = (b.0, tt)
    one (y ∷ ys) h = (h.0, one ys h.1)

put_from : (found ms : List Member) → AreAbove found ms → rises (names_of ms) ≡ true → put_all ms (members_of found) ≡ members_of (found ++ ms)
put_from found [] a r = ap members_of (sym (append-nil found))
put_from found (m ∷ ms) a r =
    ap (put_all ms) (put_last m found a.0)
    ∙ put_from (found ++ m ∷ []) ms (above_more found m ms a.1 (all_above m.0 ms r)) (rises_on m ms r)
    ∙ ap members_of (append_assoc found (m ∷ []) ms)

none_below : (ms : List Member) → AreAbove [] ms
none_below [] = tt
none_below (m ∷ ms) = (tt, none_below ms)

object_is : (ms : List Member) → rises (names_of ms) ≡ true → row_object ms ≡ object (members_of ms)
object_is ms r = ap object (put_from [] ms (none_below ms) r)

-- ---- what is read
field_read : (f : Field) → FitsField f → of_json (outline (field_data f)) ≡ Some (field_data f)
field_read (Int (pos n)) h = ap (option_map number) (number_of-decimal n (omega arith))
field_read (Int (negsuc n)) h = ap (option_map number) (number_of-negative n (omega arith))
field_read (Text s) h = refl

members_read : (ms : List Member) (found : Members) → AllByRecursion FitsMember ms → of_members (members_outline (members_of ms)) found ≡ Some (put_all ms found)
members_read [] found h = refl
members_read (m ∷ ms) found h =
    ap (option_and_then (λ d. of_members (members_outline (members_of ms)) (put m.0 d found))) (field_read m.1 h.0.field)
    ∙ members_read ms (put m.0 (field_data m.1) found) h.1

object_read : (ms : List Member) → rises (names_of ms) ≡ true → AllByRecursion FitsMember ms → of_json (outline (object (members_of ms))) ≡ Some (object (members_of ms))
object_read ms r h = ap (option_map object) (members_read ms no_members h ∙ ap Some (put_from [] ms (none_below ms) r))

-- ---- numbers and nesting
field_numbers : (f : Field) → FitsField f → tree.HasNumbers (outline (field_data f))
field_numbers (Int (pos n)) h = IsNumber-decimal n (omega arith)
field_numbers (Int (negsuc n)) h = IsNumber-signed_decimal (negsuc n) (omega arith)
field_numbers (Text s) h = tt

members_numbers : (ms : List Member) → AllByRecursion FitsMember ms → tree.MembersHaveNumbers (members_outline (members_of ms))
members_numbers [] h = tt
members_numbers (m ∷ ms) h = (field_numbers m.1 h.0.field, members_numbers ms h.1)

field_flat : (f : Field) → tree.depth (outline (field_data f)) ≡ 0
field_flat (Int (pos n)) = refl
field_flat (Int (negsuc n)) = refl
field_flat (Text s) = refl

members_flat : (ms : List Member) → tree.members_depth (members_outline (members_of ms)) ≡ 0
members_flat [] = refl
members_flat (m ∷ ms) = ap₂ max (field_flat m.1) (members_flat ms)

-- ---- UTF-8
field_utf8 : (f : Field) → FitsField f → IsUtf8 (compact_text (field_data f))
field_utf8 (Int (pos n)) h = IsUtf8-from_ascii (decimal n) (IsAscii-decimal n (omega arith))
field_utf8 (Int (negsuc n)) h = IsUtf8-from_ascii (signed_decimal (negsuc n)) (IsAscii-signed (negsuc n) (omega arith))
field_utf8 (Text s) h = IsUtf8-quoted s h.utf8

comma_utf8 : (later : Bool) → IsUtf8 (comma_if later)
comma_utf8 true = IsUtf8-are_ascii (44 ∷ []) refl
comma_utf8 false = IsUtf8-are_ascii [] refl

members_utf8 : (later : Bool) (ms : List Member) → AllByRecursion FitsMember ms → IsUtf8 (members_text later (members_of ms))
members_utf8 later [] h = IsUtf8-are_ascii (125 ∷ []) refl
members_utf8 later (m ∷ ms) h =
    let rest = IsUtf8-append (compact_text (field_data m.1)) (members_text true (members_of ms)) (field_utf8 m.1 h.0.field) (members_utf8 true ms h.1) in
    let colon = IsUtf8-append (58 ∷ []) _ (IsUtf8-are_ascii (58 ∷ []) refl) rest in
    IsUtf8-append (comma_if later) _ (comma_utf8 later) (IsUtf8-append (quoted m.0) _ (IsUtf8-quoted m.0 h.0.name.utf8) colon)

-- ---- a row's value, with its members as they stand
abbrev value_of : TableRow → Data
value_of r = array (item (string r.key) (start_onto r.start (item (object (members_of r.row)) no_items)))

IsRising : List Member → Type 0
IsRising ms = rises (names_of ms) ≡ true

row_rises : (ms : List Member) → is_row ms ≡ true → rises (names_of ms) ≡ true
row_rises ms h = by (length ms == 0) (nat_le (length ms) 64) h
  where
    by : (a b : Bool) → cond a false (cond b (rises (names_of ms)) false) ≡ true → rises (names_of ms) ≡ true
    by true b e = absurd (cc)
    by false true e = e
    by false false e = absurd (cc)

value_is : (windowed : Bool) (r : TableRow) → FitsTableRow windowed r → row_data r ≡ value_of r
value_is windowed r h = ap (λ o. array (item (string r.key) (start_onto r.start (item o no_items)))) (object_is r.row (row_rises r.row h.row.row))

module _ (key : Name) (ms : List Member) (rising : rises (names_of ms) ≡ true) (fits : AllByRecursion FitsMember ms) where
  abbrev last : Items
  last = item (object (members_of ms)) no_items

  last_read : of_items (items_outline last) ≡ Some last
  last_read = ap (option_and_then (λ d. option_map (item d) (Some no_items))) (object_read ms rising fits)

  start_read : (start : Option ℕ) (windowed : Bool) → HasStart windowed start → of_items (items_outline (start_onto start last)) ≡ Some (start_onto start last)
  start_read None windowed h = last_read
  start_read (Some n) true h =
      ap (option_and_then (λ d. option_map (item d) (of_items (items_outline last)))) (ap (option_map number) (number_of-decimal n h))
      ∙ ap (option_map (item (number (unsigned n)))) last_read
  start_read (Some n) false h = absurd h

  start_numbers : (start : Option ℕ) (windowed : Bool) → HasStart windowed start → tree.ItemsHaveNumbers (items_outline (start_onto start last))
  start_numbers None windowed h = (members_numbers ms fits, tt)
  start_numbers (Some n) true h = (IsNumber-decimal n h, (members_numbers ms fits, tt))
  start_numbers (Some n) false h = absurd h

  start_depth : (start : Option ℕ) → tree.items_depth (items_outline (start_onto start last)) ≡ 1
  start_depth None = ap (λ n. max (suc n) 0) (members_flat ms)
  start_depth (Some n) = ap (λ n. max 0 (max (suc n) 0)) (members_flat ms)

  last_utf8 : (later : Bool) → IsUtf8 (items_text later last)
  last_utf8 later =
      let inner = IsUtf8-append (123 ∷ []) _ (IsUtf8-are_ascii (123 ∷ []) refl) (members_utf8 false ms fits) in
      IsUtf8-append (comma_if later) _ (comma_utf8 later) (IsUtf8-append (compact_text (object (members_of ms))) (93 ∷ []) inner (IsUtf8-are_ascii (93 ∷ []) refl))

  start_utf8 : (start : Option ℕ) (windowed : Bool) → HasStart windowed start → IsUtf8 (items_text true (start_onto start last))
  start_utf8 None windowed h = last_utf8 true
  start_utf8 (Some n) true h =
      IsUtf8-append (comma_if true) _ (comma_utf8 true) (IsUtf8-append (decimal n) (items_text true last) (IsUtf8-from_ascii (decimal n) (IsAscii-decimal n h)) (last_utf8 true))
  start_utf8 (Some n) false h = absurd h

-- ---- the line
read_data : (d : Data) → tree.HasNumbers (outline d) → tree.depth (outline d) ≤ max_depth → of_json (outline d) ≡ Some d → read (compact_text d) ≡ Some d
read_data d numbers shallow is =
    let ts = tree.json_tokens (outline d) in
    let same : tokens (compact_text d) ≡ ts = ap tokens (sym (print-outline d)) ∙ tokens-print ts (ArePrintable-json_tokens (outline d) numbers) in
    let lexed : json.value max_depth (tokens (compact_text d)) ≡ Some (outline d, []) =
    ap (json.value max_depth) (same ∙ sym (append-nil ts)) ∙ value-json_tokens (outline d) max_depth [] shallow in
    ap (λ o. option_and_then of_json (option_and_then (λ p. json.if_last p.0 p.1) o)) lexed ∙ is

value_read : (windowed : Bool) (r : TableRow) → FitsTableRow windowed r → read (compact_text (value_of r)) ≡ Some (value_of r)
value_read windowed r h =
    let rising = row_rises r.row h.row.row in
    let deep : tree.depth (outline (value_of r)) ≡ 2 = ap (λ n. suc (max 0 n)) (start_depth r.key r.row rising h.row.members r.start) in
    read_data (value_of r) (tt, start_numbers r.key r.row rising h.row.members r.start windowed h.start) (omega (arith, deep))
    (ap (option_map array) (ap (option_map (item (string r.key))) (start_read r.key r.row rising h.row.members r.start windowed h.start)))

value_utf8 : (windowed : Bool) (r : TableRow) → FitsTableRow windowed r → IsUtf8 (compact_text (value_of r))
value_utf8 windowed r h =
    IsUtf8-append (91 ∷ []) _ (IsUtf8-are_ascii (91 ∷ []) refl)
    (IsUtf8-append (quoted r.key) _ (IsUtf8-quoted r.key h.key.utf8) (start_utf8 r.key r.row (row_rises r.row h.row.row) h.row.members r.start windowed h.start))

but_last : (xs : List ℕ) (b : ℕ) → take (length (xs ++ b ∷ []) - 1) (xs ++ b ∷ []) ≡ xs
but_last xs b = ap (λ n. take n (xs ++ b ∷ [])) (one_less xs b) ∙ take-append_seam xs (b ∷ [])
  where
    one_less : (ys : List ℕ) (c : ℕ) → length (ys ++ c ∷ []) - 1 ≡ length ys
    one_less ys c = omega (arith, length-append ys (c ∷ []))

pub same_front : (xs ys : List ℕ) (b : ℕ) → xs ++ b ∷ [] ≡ ys ++ b ∷ [] → xs ≡ ys
same_front xs ys b e = sym (but_last xs b) ∙ ap (λ (l : List ℕ). take (length l - 1) l) e ∙ but_last ys b

line_is : (windowed : Bool) (line : List ℕ) (r : TableRow) → FitsTableRow windowed r → line ++ 10 ∷ [] ≡ row_line r → line ≡ compact_text (value_of r)
unfolding row_line
line_is windowed line r h e = same_front line (compact_text (row_data r)) 10 e ∙ ap compact_text (value_is windowed r h)

pub line_utf8 : (windowed : Bool) (line : List ℕ) (r : TableRow) → FitsTableRow windowed r → line ++ 10 ∷ [] ≡ row_line r → IsUtf8 line
line_utf8 windowed line r h e = subst IsUtf8 (sym (line_is windowed line r h e)) (value_utf8 windowed r h)

pub line_read : (windowed : Bool) (line : List ℕ) (r : TableRow) → FitsTableRow windowed r → line ++ 10 ∷ [] ≡ row_line r → read line ≡ Some (value_of r)
line_read windowed line r h e = ap read (line_is windowed line r h e) ∙ value_read windowed r h

-- ---- the row that the value tells
key_again : (k : Name) → IsKey k → key_of k ≡ Some k
key_again k h = rw (ne_eqb (length k) 0 (λ e. omega (arith, h.some, e)), le-leb (length k) 1024 h.most) refl

name_again : (n : Name) → IsName n → name_of n ≡ Some n
name_again n h = rw (ne_eqb (length n) 0 (λ e. omega (arith, h.some, e)), le-leb (length n) 64 h.most) refl

field_again : (f : Field) → FitsField f → field_in (field_data f) ≡ Some f
field_again (Int (pos n)) h = let l : n < 2 ^ 63 = omega arith in rw (lt-ltb n (2 ^ 63) l) refl
field_again (Int (negsuc n)) h = refl
field_again (Text s) h = rw (le-leb (length s) 65536 h.most) refl

member_again : (m : Member) → FitsMember m → member_in m.0 (field_data m.1) ≡ Some m
member_again m h = ap (option_and_then (λ n. option_map (λ f. (n, f)) (field_in (field_data m.1)))) (name_again m.0 h.name) ∙ ap (option_map (λ f. (m.0, f))) (field_again m.1 h.field)

members_again : (found ms : List Member) → AllByRecursion FitsMember ms → members_from found (members_of ms) ≡ Some (found ++ ms)
members_again found [] h = ap Some (sym (append-nil found))
members_again found (m ∷ ms) h =
    ap (option_and_then (λ x. members_from (found ++ x ∷ []) (members_of ms))) (member_again m h.0)
    ∙ members_again (found ++ m ∷ []) ms h.1
    ∙ ap Some (append_assoc found (m ∷ []) ms)

row_again : (ms : List Member) → FitsRow ms → row_in (object (members_of ms)) ≡ Some ms
row_again ms h = ap (option_and_then row_of) (members_again [] ms h.members) ∙ rw h.row refl

at_again : (r : TableRow) (key : IsKey r.key) (row : FitsRow r.row) → row_at (string r.key) r.start (object (members_of r.row)) ≡ Some r
at_again r key row =
    ap (option_and_then (λ k. option_map (λ x. record { key = k; start = r.start; row = x }) (row_in (object (members_of r.row))))) (key_again r.key key)
    ∙ ap (option_map (λ x. record { key = r.key; start = r.start; row = x })) (row_again r.row row)

pub value_again : (windowed : Bool) (r : TableRow) → FitsTableRow windowed r → table_row_in windowed (value_of r) ≡ Some r
value_again windowed r h = by windowed r.start refl h.start
  where
    by : (b : Bool) (start : Option ℕ) → r.start ≡ start → HasStart b start → table_row_in b (value_of r) ≡ Some r
    by true (Some n) e s = rw e (at_again (record { key = r.key; start = Some n; row = r.row }) h.key h.row) ∙ ap (λ o. Some (record { key = r.key; start = o; row = r.row })) (sym e)
    by true None e s = absurd s
    by false (Some n) e s = absurd s
    by false None e s = rw e (at_again (record { key = r.key; start = None; row = r.row }) h.key h.row) ∙ ap (λ o. Some (record { key = r.key; start = o; row = r.row })) (sym e)

-- ---- what a line was read as
-- what was found in the value of a row's line is that row
pub found_is : (windowed : Bool) (line : List ℕ) (d : Data) (o : Option TableRow) (r : TableRow) → FitsTableRow windowed r → line ++ 10 ∷ [] ≡ row_line r → read line ≡ Some d → o ≡ table_row_in windowed d → o ≡ Some r
found_is windowed line d o r fits same is found =
    found ∙ ap (option_and_then (table_row_in windowed)) (sym is ∙ line_read windowed line r fits same) ∙ value_again windowed r fits

-- the line of a row isn't refused
pub refused_is : (windowed : Bool) (line : List ℕ) (r : TableRow) → FitsTableRow windowed r → line ++ 10 ∷ [] ≡ row_line r → (IsUtf8 line → read line ≡ None) → None ≡ Some r
refused_is windowed line r fits same refused = ap told (sym (refused (line_utf8 windowed line r fits same)) ∙ line_read windowed line r fits same)
  where
    told : Option Data → Option TableRow
    told None = None
    told (Some d) = Some r
