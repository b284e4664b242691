-- The record that a plain line says.
use Rattle.std.proofs.Common.{◌≡◌, ℕ, ℤ, pos, negsuc, ◌+◌, ◌^◌, ◌<◌, ◌≤◌, ◌==◌, nat_le, cond, Bool, true, false, List, [], ◌∷◌, ◌++◌, length, Option, Some, None, option_map, Result, Ok, Err, Ordering, Less, Equal, Greater, codes, refl, sym, ap, ap₂, subst, ◌∙◌, arith, append_assoc, append-nil, lt-ltb, le-leb, IsUtf8}
use Rattle.std.proofs.lemmas.Bool.{leb-true}
use Rattle.std.proofs.lemmas.List.{length-append}
use Rattle.std.specs.Ordering.{nat_cmp, match_ordering}
use Rattle.std.specs.Cmp.Lexicographic.{slice_cmp}
use Rattle.std.specs.List.{All, AllByRecursion}
use Rattle.std.proofs.lemmas.List.Elements.{All-from_recursion}
use Rattle.std.proofs.lemmas.Str.{is_utf8-from_IsUtf8}
use Rattle.ks_row.proofs.Spelled.{name_takes, text_takes}
use Rattle.serde_json.specs.Data.{unsigned, Data, number, string, object}
use Rattle.serde_json.specs.Read.{read}
use Rattle.serde_json.specs.Find.{of_integer}
use Rattle.ks_row.specs.Rows.{Member, row_of, rises, names_of}
use Rattle.ks_record.specs.Texts.{key_of, name_of, text_of as text_within}
use Rattle.ks_row.specs.Spelling.{spelling, FitsField, FitsMember}
use Rattle.ks_row.specs.declared.row.Field.{Field}
use Rattle.ks_row.specs.declared.row.Field.TheVariants.{Int, Text}
use Rattle.ks_job_record.specs.declared.fault.JobKind.{JobKind}
use Rattle.ks_job_record.specs.declared.fault.JobKind.TheVariants.{TooMany, BadShape, BadNumber, UnknownTopic}
use Rattle.ks_job_record.specs.declared.record.Input.{Input}
use Rattle.ks_job_record.specs.Gives.{◌>>=◌, some_or}
use Rattle.ks_job_record.specs.Members.{is_member, object_of, member_of, text_of, integer_from}
use Rattle.ks_job_record.specs.Record.{number_of, topic_from, key_from, field_from, member_from, with_member, and_member, fields_from, row_from, value_from, time_within, time_from, input_from}
use Rattle.ks_job_record.specs.Plain.{IsSmall, IsPlainField, member_text, members_text}
use Rattle.ks_job_record.specs.PlainRows.{IsFitField, with_field, with_fields, IsWhole, ClosesRow}
use Rattle.ks_job_record.specs.PlainLines.{IsFront, EndsLine, time_or_0}
use Rattle.ks_job_record.specs.Says.{Says}
use Rattle.ks_job_record.proofs.PlainRows.{whole_both, one_more_put}
use Rattle.ks_job_record.proofs.PlainTrees.{field_data, members_data, value_data, line_data, listed}
use Rattle.ks_job_record.proofs.PlainReadings.{AreWhole, IsEarly, value_text, line_text, in_order, line_is_read, line_is_utf8, plain_utf8}

-- ---- members in order are whole
whole_at : (o : Ordering) (m n : Member) (ns more : List Member) → IsWhole m → IsWhole n → AllByRecursion IsWhole ns → AllByRecursion IsWhole more → AllByRecursion IsWhole (match_ordering o (m ∷ n ∷ ns) ((n.0, m.1) ∷ ns) (n ∷ more))
whole_at Less m n ns more h k all rest = (h, (k, all))
whole_at Equal m n ns more h k all rest = (record { fit = record { name = k.fit.name; field = h.fit.field }; name = k.name; field = h.field }, all)
whole_at Greater m n ns more h k all rest = (k, rest)

whole_put : (m : Member) (ns : List Member) → IsWhole m → AllByRecursion IsWhole ns → AllByRecursion IsWhole (with_field m ns)
whole_put m [] h all = (h, tt)
whole_put m (n ∷ ns) h all = whole_at (slice_cmp nat_cmp m.0 n.0) m n ns (with_field m ns) h all.0 all.1 (whole_put m ns h all.1)

whole_puts : (found ms : List Member) → AllByRecursion IsWhole found → AllByRecursion IsWhole ms → AllByRecursion IsWhole (with_fields found ms)
whole_puts found [] h all = h
whole_puts found (m ∷ ms) h all = whole_puts (with_field m found) ms (whole_put m found all.0 h) all.1

-- ---- a row, member by member
integer_is : (name : List ℕ) (z : ℤ) → IsSmall z → integer_from name (number (of_integer z)) ≡ Ok z
unfolding integer_from
integer_is name (pos n) h = ap (λ b. some_or (BadNumber name) (cond b (Some (pos n)) None)) (lt-ltb n (2 ^ 63) (omega arith))
integer_is name (negsuc n) h = refl

field_is : (name : List ℕ) (f : Field) → IsPlainField f → IsFitField f → field_from name (field_data f) ≡ Ok f
field_is name (Int z) h k = ap (λ r. r >>= λ y. Ok (Int y)) (integer_is name z h)
field_is name (Text s) h k = ap (λ o. some_or (BadShape name) (option_map Text o)) k

member_is : (m : Member) → IsWhole m → member_from m.0 (field_data m.1) ≡ Ok m
unfolding member_from
member_is m w =
    ap (λ o. some_or (BadShape m.0) o >>= λ k. field_from m.0 (field_data m.1) >>= λ (g : Field). Ok (k, g)) w.fit.name
    ∙ ap (λ r. r >>= λ (g : Field). Ok (m.0, g)) (field_is m.0 m.1 w.field w.fit.field)

one_more : (found : List Member) (m : Member) → length found < 64 → IsWhole m → with_member found m.0 (field_data m.1) ≡ Ok (found ++ m ∷ [])
unfolding with_member
one_more found m room w =
    ap (λ b. cond b (member_from m.0 (field_data m.1) >>= λ n. Ok (found ++ n ∷ [])) (Err (TooMany (codes "fields") 64))) (lt-ltb (length found) 64 room)
    ∙ ap (λ r. r >>= λ n. Ok (found ++ n ∷ [])) (member_is m w)

not_null : (found : List Member) (k : List ℕ) (f : Field) → and_member found k (field_data f) ≡ with_member found k (field_data f)
not_null found k (Int z) = refl
not_null found k (Text s) = refl

fields_are : (ms found : List Member) → AllByRecursion IsWhole ms → length found + length ms ≤ 64 → fields_from found (members_data ms) ≡ Ok (found ++ ms)
fields_are [] found h room = ap Ok (sym (append-nil found))
fields_are (m ∷ ms) found h room =
    let grown : length (found ++ m ∷ []) + length ms ≤ 64 = omega (arith, length-append found (m ∷ [])) in
    ap (λ r. r >>= λ more. fields_from more (members_data ms)) (not_null found m.0 m.1 ∙ one_more found m (omega arith) h.0)
    ∙ fields_are ms (found ++ m ∷ []) h.1 grown
    ∙ ap Ok (append_assoc found (m ∷ []) ms)

row_at : (b c : Bool) (ms row : List Member) → Some row ≡ cond (cond b false (cond c (rises (names_of ms)) false)) (Some ms) None → c ≡ true
row_at true c ms row e = absurd (cc)
row_at false true ms row e = refl
row_at false false ms row e = absurd (cc)

row_within : (ms row : List Member) → Some row ≡ row_of ms → length ms ≤ 64
row_within ms row e = leb-true (length ms) 64 (row_at (length ms == 0) (nat_le (length ms) 64) ms row e)

row_is : (ms row : List Member) → AllByRecursion IsWhole ms → Some row ≡ row_of ms → value_from (object (members_data ms)) ≡ Ok (Some (spelling row))
unfolding row_from
row_is ms row h e =
    let within : 0 + length ms ≤ 64 = omega (arith, row_within ms row e) in
    ap (λ r. (r >>= λ found. some_or (BadShape (codes "value")) (row_of found)) >>= λ row. Ok (Some (spelling row))) (fields_are ms [] h within)
    ∙ ap (λ o. some_or (BadShape (codes "value")) o >>= λ row. Ok (Some (spelling row))) (sym e)

-- ---- a line
time_is : (n : ℕ) → n ≤ 9007199254740992 → time_from (Some (number (unsigned n))) ≡ Ok n
time_is n h = ap (λ r. r >>= time_within) (integer_is (codes "ts") (pos n) (omega arith)) ∙ ap (λ b. cond b (Ok n) (Err (BadNumber (codes "ts")))) (le-leb n 9007199254740992 h)

abbrev record_of : Result ℕ JobKind → Result (Option (List ℕ)) JobKind → Result (Option (List ℕ)) JobKind → Result ℕ JobKind → Result Input JobKind
record_of topic key value ts = topic >>= λ t. key >>= λ k. value >>= λ v. ts >>= λ n. Ok (record { topic = t; rec = record { key = k; value = v; ts = n } })

abbrev time_data : Option ℕ → Option Data
time_data None = None
time_data (Some n) = Some (number (unsigned n))

members_judged : (topics : List (List ℕ)) (topic key : List ℕ) (d : Data) (time : Option ℕ) →
    input_from topics (line_data topic key d time) ≡ record_of (some_or (UnknownTopic topic) (number_of topic topics)) (key_from (Some (string key))) (value_from d) (time_from (time_data time))
unfolding input_from object_of is_member topic_from text_of member_of
members_judged topics topic key d None = refl
members_judged topics topic key d (Some n) = refl

time_data_is : (time : Option ℕ) → time_or_0 time ≤ 9007199254740992 → time_from (time_data time) ≡ Ok (time_or_0 time)
time_data_is None h = refl
time_data_is (Some n) h = time_is n h

early : (time : Option ℕ) → time_or_0 time ≤ 9007199254740992 → IsEarly time
early None h = tt
early (Some n) h = omega arith

input_is : (topics : List (List ℕ)) (topic key : List ℕ) (d : Data) (time : Option ℕ) (n : ℕ) (v : Option (List ℕ)) → number_of topic topics ≡ Some n → key_of key ≡ Some key → value_from d ≡ Ok v →
    time_or_0 time ≤ 9007199254740992 → input_from topics (line_data topic key d time) ≡ Ok (record { topic = n; rec = record { key = Some key; value = v; ts = time_or_0 time } })
input_is topics topic key d time n v known fit value small =
    members_judged topics topic key d time
    ∙ ap (λ o. record_of (some_or (UnknownTopic topic) o) (key_from (Some (string key))) (value_from d) (time_from (time_data time))) known
    ∙ ap (λ o. record_of (Ok n) (some_or (BadShape (codes "key")) (option_map Some o)) (value_from d) (time_from (time_data time))) fit
    ∙ ap₂ (λ a b. record_of (Ok n) (Ok (Some key)) a b) value (time_data_is time small)

line_says : (topics : List (List ℕ)) (line : List ℕ) (n : ℕ) (key rest : List ℕ) (value : Option (List Member)) (v : Option (List ℕ)) (tail : List ℕ) (i : Input) →
    IsFront topics line n key rest → AreWhole value → rest ≡ value_text value ++ tail → value_from (value_data (in_order value)) ≡ Ok v → EndsLine n key v tail i → Says topics line i
line_says topics line n key rest value v tail i f whole e said ends =
    let time = ends.end.time in
    let small : time_or_0 time ≤ 9007199254740992 = subst (λ k. k ≤ 9007199254740992) ends.end.is ends.end.small in
    let text : line ≡ line_text f.topic key value time =
    f.spelled ∙ ap (λ l. codes "{\"topic\":\"" ++ (f.topic ++ (codes "\",\"key\":\"" ++ (key ++ (codes "\",\"value\":" ++ l))))) (e ∙ ap (λ l. value_text value ++ l) ends.end.spelled) in
    record {
      value = line_data f.topic key (value_data (in_order value)) time;
      utf8 = subst IsUtf8 (sym text) (line_is_utf8 f.topic key value time f.topic_plain f.key_plain whole (early time small));
      reads = ap read text ∙ line_is_read f.topic key value time f.topic_plain f.key_plain whole (early time small);
      record_is = input_is topics f.topic key (value_data (in_order value)) time n v f.known f.key_fit said small
          ∙ ap (λ k. Ok (record { topic = n; rec = record { key = Some key; value = v; ts = k } })) (sym ends.end.is)
          ∙ ap Ok (sym ends.is);
    }

pub deletion_says : (topics : List (List ℕ)) (line : List ℕ) (n : ℕ) (key rest tail : List ℕ) (i : Input) → IsFront topics line n key rest → rest ≡ codes "null" ++ tail → EndsLine n key None tail i → Says topics line i
deletion_says topics line n key rest tail i f e ends = line_says topics line n key rest None None tail i f tt e refl ends

-- members with a comma behind each, and the last with the brace
comma_front : (ms : List Member) (last : Member) → 44 ∷ listed false (ms ++ last ∷ []) ≡ listed true (ms ++ last ∷ [])
comma_front [] last = refl
comma_front (m ∷ ms) last = refl

comma_moved : (t r l m p : List ℕ) → r ≡ l ++ p → 44 ∷ l ≡ m → (t ++ 44 ∷ []) ++ r ≡ (t ++ m) ++ p
comma_moved t r l m p e h =
    let left : (t ++ 44 ∷ []) ++ (l ++ p) ≡ (t ++ 44 ∷ l) ++ p = simp append_assoc in
    ap (λ x. (t ++ 44 ∷ []) ++ x) e ∙ left ∙ ap (λ x. (t ++ x) ++ p) h

closed : (ms : List Member) (last : Member) (tail : List ℕ) → members_text ms ++ (member_text last ++ 125 ∷ tail) ≡ listed false (ms ++ last ∷ []) ++ tail
closed [] last tail = sym (append_assoc (member_text last) (125 ∷ []) tail)
closed (m ∷ ms) last tail =
    append_assoc (member_text m ++ 44 ∷ []) (members_text ms) (member_text last ++ 125 ∷ tail)
    ∙ comma_moved (member_text m) (members_text ms ++ (member_text last ++ 125 ∷ tail)) (listed false (ms ++ last ∷ [])) (listed true (ms ++ last ∷ [])) tail (closed ms last tail) (comma_front ms last)

pub row_says : (topics : List (List ℕ)) (line : List ℕ) (n : ℕ) (key rest members : List ℕ) (fields row : List Member) (bytes tail : List ℕ) (i : Input) → IsFront topics line n key rest → rest ≡ 123 ∷ members →
    ClosesRow [] members fields tail → Some row ≡ row_of fields → bytes ≡ spelling row → EndsLine n key (Some bytes) tail i → Says topics line i
row_says topics line n key rest members fields row bytes tail i f e closes is spelled ends =
    let ms = closes.ones ++ closes.last ∷ [] in
    let whole = whole_both closes.ones closes.last closes.whole closes.whole_last in
    let sorted : fields ≡ with_fields [] ms = closes.put ∙ one_more_put [] closes.ones closes.last in
    let said : value_from (object (members_data (with_fields [] ms))) ≡ Ok (Some bytes) =
    row_is (with_fields [] ms) row (whole_puts [] ms tt whole) (is ∙ ap row_of sorted) ∙ ap (λ b. Ok (Some b)) (sym spelled) in
    line_says topics line n key rest (Some ms) (Some bytes) tail i f whole (e ∙ ap (λ l. 123 ∷ l) (closes.text ∙ closed closes.ones closes.last tail)) said ends

-- ---- the members of a plain row have a spelling
field_fits : (f : Field) → IsPlainField f → IsFitField f → FitsField f
field_fits (Int (pos n)) h k = omega arith
field_fits (Int (negsuc n)) h k = omega arith
field_fits (Text s) h k = (text_takes s s (ap (λ b. cond b (text_within s) None) (is_utf8-from_IsUtf8 s (plain_utf8 s h)) ∙ k)).1

member_fits : (m : Member) → IsWhole m → FitsMember m
member_fits m w = record {
  name = (name_takes m.0 m.0 (ap (λ b. cond b (name_of m.0) None) (is_utf8-from_IsUtf8 m.0 (plain_utf8 m.0 w.name)) ∙ w.fit.name)).1;
  field = field_fits m.1 w.field w.fit.field;
}

members_fit : (ms : List Member) → AllByRecursion IsWhole ms → AllByRecursion FitsMember ms
members_fit [] h = tt
members_fit (m ∷ ms) h = (member_fits m h.0, members_fit ms h.1)

pub row_fits : (bytes : List ℕ) (fields : List Member) (rest : List ℕ) → ClosesRow [] bytes fields rest → All FitsMember fields
row_fits bytes fields rest closes =
    let front = whole_puts [] closes.ones tt closes.whole in
    let all = whole_put closes.last (with_fields [] closes.ones) closes.whole_last front in
    rw closes.put (All-from_recursion FitsMember (with_field closes.last (with_fields [] closes.ones)) (members_fit (with_field closes.last (with_fields [] closes.ones)) all))
