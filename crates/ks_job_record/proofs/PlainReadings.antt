-- What a plain line is read as.
use Rattle.std.proofs.Common.{◌≡◌, ℕ, ℤ, pos, negsuc, suc, ◌^◌, ◌<◌, ◌≤◌, max, Bool, true, false, List, [], ◌∷◌, ◌++◌, Option, Some, None, option_map, option_and_then, Ordering, Less, Equal, Greater, decimal, codes, refl, sym, ap, ap₂, ◌∙◌, arith, append_assoc, IsUtf8, ◌&&◌, nat_lt}
use Rattle.std.specs.Ordering.{nat_cmp, match_ordering}
use Rattle.std.specs.Cmp.Lexicographic.{slice_cmp}
use Rattle.std.specs.Fmt.{signed_decimal}
use Rattle.std.specs.List.{AllByRecursion}
use Rattle.std.proofs.lemmas.Bool.{and_parts, ltb-true, lt-ltb}
use Rattle.std.proofs.lemmas.Fmt.{IsAscii-decimal, IsAscii-signed}
use Rattle.std.proofs.lemmas.Str.{IsUtf8-append, IsUtf8-from_ascii}
use Rattle.json.specs.Json as json
use Rattle.json.specs.Tree as tree
use Rattle.json.specs.Print.{print, print_from, escape, escape_byte}
use Rattle.json.proofs.Printed.Decimals.{IsNumber-decimal, IsNumber-signed_decimal}
use Rattle.json.proofs.Printed.Utf8.{are_ascii, IsUtf8-are_ascii}
use Rattle.serde_json.specs.Data.{Data, number, string, object, Members, no_members, member, put}
use Rattle.serde_json.specs.Read.{read, of_json, of_members, max_depth}
use Rattle.serde_json.specs.Find.{of_integer}
use Rattle.serde_json.proofs.Numbers.{number_of-decimal, number_of-negative}
use Rattle.ks_row.specs.Rows.{Member}
use Rattle.ks_row.specs.declared.row.Field.{Field}
use Rattle.ks_row.specs.declared.row.Field.TheVariants.{Int, Text}
use Rattle.ks_job_record.specs.Plain.{is_plain_byte, is_plain, IsSmall, IsPlainField, field_text, member_text, end_text}
use Rattle.ks_job_record.specs.PlainRows.{with_field, with_fields, IsWhole}
use Rattle.ks_job_record.proofs.PlainTrees.{read_printed, plain_escape, field_json, members_json, field_data, members_data, value_json, value_data, time_json, line_json, line_data, listed, print_members}

-- a row is there with its members as they stand in the line
abbrev pub AreWhole : Option (List Member) → Type 0
AreWhole None = Unit {0}
AreWhole (Some ms) = AllByRecursion IsWhole ms

abbrev pub IsEarly : Option ℕ → Type 0
IsEarly None = Unit {0}
IsEarly (Some n) = n < 2 ^ 64

-- ---- the text
abbrev pub value_text : Option (List Member) → List ℕ
value_text None = codes "null"
value_text (Some ms) = 123 ∷ listed false ms

abbrev pub line_text : List ℕ → List ℕ → Option (List Member) → Option ℕ → List ℕ
line_text topic key value time = codes "{\"topic\":\"" ++ (topic ++ (codes "\",\"key\":\"" ++ (key ++ (codes "\",\"value\":" ++ (value_text value ++ end_text time)))))

end_printed : (time : Option ℕ) → print_from true (tree.members_tokens (time_json time)) ≡ end_text time
unfolding print_from escape_byte
end_printed None = refl
end_printed (Some n) = refl

value_printed : (value : Option (List Member)) (time : Option ℕ) → AreWhole value → print_from false (tree.json_tokens (value_json value) ++ tree.members_tokens (time_json time)) ≡ value_text value ++ end_text time
unfolding print_from
value_printed None time h = ap (λ l. codes "null" ++ l) (end_printed time)
value_printed (Some ms) time h = ap (λ l. 123 ∷ l) (print_members false ms (tree.members_tokens (time_json time)) h ∙ ap (λ l. listed false ms ++ l) (end_printed time))

abbrev pieces : List ℕ → List ℕ → List ℕ → List ℕ
pieces topic key rest = codes "{\"topic\":\"" ++ ((topic ++ 34 ∷ []) ++ (codes ",\"key\":\"" ++ ((key ++ 34 ∷ []) ++ (codes ",\"value\":" ++ rest))))

front_printed : (topic key : List ℕ) (value : json.Json) (time : Option ℕ) →
    print (tree.json_tokens (line_json topic key value time)) ≡ pieces (escape topic) (escape key) (print_from false (tree.json_tokens value ++ tree.members_tokens (time_json time)))
unfolding print_from escape_byte
front_printed topic key value time = refl

regrouped : (a t b k c r : List ℕ) → a ++ ((t ++ 34 ∷ []) ++ (b ++ ((k ++ 34 ∷ []) ++ (c ++ r)))) ≡ a ++ (t ++ ((34 ∷ b) ++ (k ++ ((34 ∷ c) ++ r))))
regrouped a t b k c r = simp append_assoc

line_printed : (topic key : List ℕ) (value : Option (List Member)) (time : Option ℕ) → is_plain topic ≡ true → is_plain key ≡ true → AreWhole value →
    print (tree.json_tokens (line_json topic key (value_json value) time)) ≡ line_text topic key value time
line_printed topic key value time t k w =
    front_printed topic key (value_json value) time
    ∙ ap₂ (λ (a b : List ℕ). pieces a b (print_from false (tree.json_tokens (value_json value) ++ tree.members_tokens (time_json time)))) (plain_escape topic t) (plain_escape key k)
    ∙ ap (λ r. pieces topic key r) (value_printed value time w)
    ∙ regrouped (codes "{\"topic\":\"") topic (codes ",\"key\":\"") key (codes ",\"value\":") (value_text value ++ end_text time)

-- ---- the value
integer_read : (z : ℤ) → IsSmall z → of_json (json.number (signed_decimal z)) ≡ Some (number (of_integer z))
integer_read (pos n) h = ap (option_map number) (number_of-decimal n (omega arith))
integer_read (negsuc n) h = ap (option_map number) (number_of-negative n (omega arith))

field_read : (f : Field) → IsPlainField f → of_json (field_json f) ≡ Some (field_data f)
field_read (Int z) h = integer_read z h
field_read (Text s) h = refl

put_at : (o : Ordering) (m n : Member) (ns : List Member) (more : Members) → more ≡ members_data (with_field m ns) →
    match_ordering o (member m.0 (field_data m.1) (member n.0 (field_data n.1) (members_data ns))) (member n.0 (field_data m.1) (members_data ns)) (member n.0 (field_data n.1) more)
    ≡ members_data (match_ordering o (m ∷ n ∷ ns) ((n.0, m.1) ∷ ns) (n ∷ with_field m ns))
put_at Less m n ns more e = refl
put_at Equal m n ns more e = refl
put_at Greater m n ns more e = ap (λ l. member n.0 (field_data n.1) l) e

put_is : (m : Member) (found : List Member) → put m.0 (field_data m.1) (members_data found) ≡ members_data (with_field m found)
put_is m [] = refl
put_is m (n ∷ ns) = put_at (slice_cmp nat_cmp m.0 n.0) m n ns (put m.0 (field_data m.1) (members_data ns)) (put_is m ns)

members_read : (ms found : List Member) → AllByRecursion IsWhole ms → of_members (members_json ms) (members_data found) ≡ Some (members_data (with_fields found ms))
members_read [] found h = refl
members_read (m ∷ ms) found h =
    ap (λ o. option_and_then (λ d. of_members (members_json ms) (put m.0 d (members_data found))) o) (field_read m.1 h.0.field)
    ∙ ap (λ l. of_members (members_json ms) l) (put_is m found)
    ∙ members_read ms (with_field m found) h.1

-- with its members in order of names
abbrev pub in_order : Option (List Member) → Option (List Member)
in_order None = None
in_order (Some ms) = Some (with_fields [] ms)

value_read : (value : Option (List Member)) → AreWhole value → of_json (value_json value) ≡ Some (value_data (in_order value))
value_read None h = refl
value_read (Some ms) h = ap (option_map object) (members_read ms [] h)

line_read : (topic key : List ℕ) (value : json.Json) (d : Data) (time : Option ℕ) → of_json value ≡ Some d → IsEarly time → of_json (line_json topic key value time) ≡ Some (line_data topic key d time)
line_read topic key value d None e h =
    ap (λ o. option_map object (option_and_then (λ (x : Data). Some (put (codes "value") x (put (codes "key") (string key) (put (codes "topic") (string topic) no_members)))) o)) e
line_read topic key value d (Some n) e h =
    ap₂ (λ o p. option_map object (option_and_then (λ (x : Data). option_and_then (λ (y : Data). Some (put (codes "ts") y (put (codes "value") x (put (codes "key") (string key) (put (codes "topic") (string topic) no_members))))) (option_map number p)) o)) e (number_of-decimal n h)

-- ---- its numbers and its depth
field_number : (f : Field) → IsPlainField f → tree.HasNumbers (field_json f)
field_number (Int (pos n)) h = IsNumber-decimal n (omega arith)
field_number (Int (negsuc n)) h = IsNumber-signed_decimal (negsuc n) (omega arith)
field_number (Text s) h = tt

members_numbers : (ms : List Member) → AllByRecursion IsWhole ms → tree.MembersHaveNumbers (members_json ms)
members_numbers [] h = tt
members_numbers (m ∷ ms) h = (field_number m.1 h.0.field, members_numbers ms h.1)

value_numbers : (value : Option (List Member)) → AreWhole value → tree.HasNumbers (value_json value)
value_numbers None h = tt
value_numbers (Some ms) h = members_numbers ms h

time_numbers : (time : Option ℕ) → IsEarly time → tree.MembersHaveNumbers (time_json time)
time_numbers None h = tt
time_numbers (Some n) h = (IsNumber-decimal n h, tt)

field_depth : (f : Field) → tree.depth (field_json f) ≡ 0
field_depth (Int z) = refl
field_depth (Text s) = refl

members_depth : (ms : List Member) → tree.members_depth (members_json ms) ≡ 0
members_depth [] = refl
members_depth (m ∷ ms) = ap₂ max (field_depth m.1) (members_depth ms)

value_depth : (value : Option (List Member)) → tree.depth (value_json value) ≤ 1
value_depth None = omega arith
value_depth (Some ms) = let e = members_depth ms in omega arith

time_depth : (time : Option ℕ) → tree.members_depth (time_json time) ≡ 0
time_depth None = refl
time_depth (Some n) = refl

line_depth : (v t : ℕ) → v ≤ 1 → t ≡ 0 → suc (max 0 (max 0 (max v t))) ≤ max_depth
line_depth v t h k = omega arith

pub line_is_read : (topic key : List ℕ) (value : Option (List Member)) (time : Option ℕ) → is_plain topic ≡ true → is_plain key ≡ true → AreWhole value → IsEarly time →
    read (line_text topic key value time) ≡ Some (line_data topic key (value_data (in_order value)) time)
line_is_read topic key value time t k w e =
    ap read (sym (line_printed topic key value time t k w))
    ∙ read_printed (line_json topic key (value_json value) time) _ (tt, (tt, (value_numbers value w, time_numbers time e))) (line_depth _ _ (value_depth value) (time_depth time))
    (line_read topic key (value_json value) (value_data (in_order value)) time (value_read value w) e)

-- ---- it is UTF-8
both : (a b : Bool) → a ≡ true → b ≡ true → a && b ≡ true
both a b e f = rw (e, f) refl

below : (c : ℕ) → c < 127 → c < 128
below c h = omega arith

plain_small : (c : ℕ) → is_plain_byte c ≡ true → nat_lt c 128 ≡ true
unfolding is_plain_byte
plain_small c h =
    lt-ltb c 128 (below c (ltb-true c 127 (and_parts _ _ (and_parts _ _ (and_parts _ _ h).0).0).1))

plain_ascii : (s : List ℕ) → is_plain s ≡ true → are_ascii s ≡ true
plain_ascii [] h = refl
plain_ascii (c ∷ s) h = let p = and_parts (is_plain_byte c) (is_plain s) h in both (nat_lt c 128) (are_ascii s) (plain_small c p.0) (plain_ascii s p.1)

pub plain_utf8 : (s : List ℕ) → is_plain s ≡ true → IsUtf8 s
plain_utf8 s h = IsUtf8-are_ascii s (plain_ascii s h)

integer_utf8 : (z : ℤ) → IsSmall z → IsUtf8 (signed_decimal z)
integer_utf8 (pos n) h = IsUtf8-from_ascii (decimal n) (IsAscii-decimal n (omega arith))
integer_utf8 (negsuc n) h = IsUtf8-from_ascii (signed_decimal (negsuc n)) (IsAscii-signed (negsuc n) (omega arith))

field_utf8 : (f : Field) → IsPlainField f → IsUtf8 (field_text f)
field_utf8 (Int z) h = integer_utf8 z h
field_utf8 (Text s) h = IsUtf8-append (34 ∷ []) (s ++ 34 ∷ []) (IsUtf8-are_ascii (34 ∷ []) refl) (IsUtf8-append s (34 ∷ []) (plain_utf8 s h) (IsUtf8-are_ascii (34 ∷ []) refl))

member_utf8 : (m : Member) → IsWhole m → IsUtf8 (member_text m)
member_utf8 m h =
    IsUtf8-append (34 ∷ []) (m.0 ++ 34 ∷ 58 ∷ field_text m.1) (IsUtf8-are_ascii (34 ∷ []) refl)
    (IsUtf8-append m.0 (34 ∷ 58 ∷ field_text m.1) (plain_utf8 m.0 h.name) (IsUtf8-append (34 ∷ 58 ∷ []) (field_text m.1) (IsUtf8-are_ascii (34 ∷ 58 ∷ []) refl) (field_utf8 m.1 h.field)))

listed_utf8 : (later : Bool) (ms : List Member) → AllByRecursion IsWhole ms → IsUtf8 (listed later ms)
listed_utf8 later [] h = IsUtf8-are_ascii (125 ∷ []) refl
listed_utf8 true (m ∷ ms) h = IsUtf8-append (44 ∷ []) (member_text m ++ listed true ms) (IsUtf8-are_ascii (44 ∷ []) refl) (IsUtf8-append (member_text m) (listed true ms) (member_utf8 m h.0) (listed_utf8 true ms h.1))
listed_utf8 false (m ∷ ms) h = IsUtf8-append (member_text m) (listed true ms) (member_utf8 m h.0) (listed_utf8 true ms h.1)

value_utf8 : (value : Option (List Member)) → AreWhole value → IsUtf8 (value_text value)
value_utf8 None h = IsUtf8-are_ascii (codes "null") refl
value_utf8 (Some ms) h = IsUtf8-append (123 ∷ []) (listed false ms) (IsUtf8-are_ascii (123 ∷ []) refl) (listed_utf8 false ms h)

end_utf8 : (time : Option ℕ) → IsEarly time → IsUtf8 (end_text time)
end_utf8 None h = IsUtf8-are_ascii (codes "}") refl
end_utf8 (Some n) h =
    IsUtf8-append (codes ",\"ts\":") (decimal n ++ codes "}") (IsUtf8-are_ascii (codes ",\"ts\":") refl) (IsUtf8-append (decimal n) (codes "}") (IsUtf8-from_ascii (decimal n) (IsAscii-decimal n h)) (IsUtf8-are_ascii (codes "}") refl))

pub line_is_utf8 : (topic key : List ℕ) (value : Option (List Member)) (time : Option ℕ) → is_plain topic ≡ true → is_plain key ≡ true → AreWhole value → IsEarly time → IsUtf8 (line_text topic key value time)
line_is_utf8 topic key value time t k w e =
    let behind_key = IsUtf8-append (codes "\",\"value\":") _ (IsUtf8-are_ascii (codes "\",\"value\":") refl) (IsUtf8-append (value_text value) (end_text time) (value_utf8 value w) (end_utf8 time e)) in
    let behind_topic = IsUtf8-append (codes "\",\"key\":\"") _ (IsUtf8-are_ascii (codes "\",\"key\":\"") refl) (IsUtf8-append key _ (plain_utf8 key k) behind_key) in
    IsUtf8-append (codes "{\"topic\":\"") _ (IsUtf8-are_ascii (codes "{\"topic\":\"") refl) (IsUtf8-append topic _ (plain_utf8 topic t) behind_topic)
