-- What a record line of the load job says.
use Rattle.std.proofs.Common.{◌≡◌, ℕ, suc, ◌+◌, ◌^◌, ◌<◌, ◌≤◌, nat_lt, nat_le, cond, true, List, [], ◌∷◌, ◌++◌, length, Option, Some, None, option_map, decimal, codes, pos, Ok, Err, Result, refl, ap, ap₂, ◌∙◌, arith, lt-ltb, le-leb, ne_eqb}
use Rattle.std.proofs.lemmas.Fmt.{length-decimal-le}
use Rattle.serde_json.specs.Data.{unsigned, Data, null, number, string, no_members, member}
use Rattle.ks_row.specs.Rows.{Member, row_of}
use Rattle.ks_record.specs.Texts.{name_of}
use Rattle.ks_row.specs.Spelling.{spelling}
use Rattle.ks_row.specs.declared.row.Field.{Field}
use Rattle.ks_row.specs.declared.row.Field.TheVariants.{Int, Text}
use Rattle.ks_job_record.specs.declared.fault.JobKind.{JobKind}
use Rattle.ks_job_record.specs.declared.fault.JobKind.TheVariants.{TooMany, BadShape, BadNumber}
use Rattle.ks_job_record.specs.declared.record.Input.{Input}
use Rattle.ks_job_record.specs.Gives.{◌>>=◌, some_or}
use Rattle.ks_job_record.specs.Members.{is_member, object_of, member_of, text_of, integer_from}
use Rattle.ks_job_record.specs.Record.{topic_from, key_from, field_from, member_from, with_member, fields_from, row_from, value_from, input_from}
use Rattle.ks_law_load_job.proofs.Trees.{line_data, order_data, customer_data, orders_name}

-- ---- texts and numbers
pub short_decimal : (n : ℕ) → n < 10 ^ 6 → length (decimal n) ≤ 6
short_decimal n h = length-decimal-le 6 n (omega arith) h (omega arith)

key_is : (c : ℕ) (s : List ℕ) → length s ≤ 6 → key_from (Some (string (c ∷ s))) ≡ Ok (Some (c ∷ s))
key_is c s h =
    ap (λ b. some_or (BadShape (codes "key")) (option_map Some (cond b None (cond (nat_le (suc (length s)) 1024) (Some (c ∷ s)) None)))) (ne_eqb (suc (length s)) 0 (λ e. omega arith))
    ∙ ap (λ b. some_or (BadShape (codes "key")) (option_map Some (cond b (Some (c ∷ s)) None))) (le-leb (suc (length s)) 1024 (omega arith))

text_is : (name : List ℕ) (c : ℕ) (s : List ℕ) → length s ≤ 6 → field_from name (string (c ∷ s)) ≡ Ok (Text (c ∷ s))
text_is name c s h = ap (λ b. some_or (BadShape name) (option_map Text (cond b (Some (c ∷ s)) None))) (le-leb (suc (length s)) 65536 (omega arith))

number_is : (name : List ℕ) (n : ℕ) → n < 10 ^ 6 → field_from name (number (unsigned n)) ≡ Ok (Int (pos n))
unfolding integer_from
number_is name n h = ap (λ b. some_or (BadNumber name) (cond b (Some (pos n)) None) >>= λ z. Ok (Int z)) (lt-ltb n (2 ^ 63) (omega arith))

-- ---- a row, member by member
member_is : (name : List ℕ) (d : Data) (f : Field) → name_of name ≡ Some name → field_from name d ≡ Ok f → member_from name d ≡ Ok (name, f)
unfolding member_from
member_is name d f known e =
    ap (λ o. some_or (BadShape name) o >>= λ k. field_from name d >>= λ (g : Field). Ok (k, g)) known
    ∙ ap (λ r. r >>= λ (g : Field). Ok (name, g)) e

one_more : (found : List Member) (name : List ℕ) (d : Data) (f : Field) → nat_lt (length found) 64 ≡ true → name_of name ≡ Some name → field_from name d ≡ Ok f →
    with_member found name d ≡ Ok (found ++ (name, f) ∷ [])
unfolding with_member
one_more found name d f room known e =
    ap (λ b. cond b (member_from name d >>= λ m. Ok (found ++ m ∷ [])) (Err (TooMany (codes "fields") 64))) room
    ∙ ap (λ r. r >>= λ m. Ok (found ++ m ∷ [])) (member_is name d f known e)

order_row_is : (customer : ℕ) (s : List ℕ) (amount : ℕ) → length s ≤ 6 → amount < 10 ^ 6 →
    value_from (order_data (customer ∷ s) amount) ≡ Ok (Some (spelling ((codes "amt", Int (pos amount)) ∷ (codes "cust", Text (customer ∷ s)) ∷ [])))
unfolding row_from
order_row_is customer s amount h k =
    let fields : fields_from [] (member (codes "amt") (number (unsigned amount)) (member (codes "cust") (string (customer ∷ s)) no_members)) ≡ Ok ((codes "amt", Int (pos amount)) ∷ (codes "cust", Text (customer ∷ s)) ∷ []) =
    ap (λ r. r >>= λ more. fields_from more (member (codes "cust") (string (customer ∷ s)) no_members)) (one_more [] (codes "amt") (number (unsigned amount)) (Int (pos amount)) refl refl (number_is (codes "amt") amount k))
    ∙ ap (λ r. r >>= λ more. fields_from more no_members) (one_more ((codes "amt", Int (pos amount)) ∷ []) (codes "cust") (string (customer ∷ s)) (Text (customer ∷ s)) refl refl (text_is (codes "cust") customer s h)) in
    ap (λ r. (r >>= λ found. some_or (BadShape (codes "value")) (row_of found)) >>= λ row. Ok (Some (spelling row))) fields

customer_row_is : (region : ℕ) (s : List ℕ) → length s ≤ 6 → value_from (customer_data (region ∷ s)) ≡ Ok (Some (spelling ((codes "region", Text (region ∷ s)) ∷ [])))
unfolding row_from
customer_row_is region s h =
    ap (λ r. ((r >>= λ more. fields_from more no_members) >>= λ found. some_or (BadShape (codes "value")) (row_of found)) >>= λ row. Ok (Some (spelling row)))
    (one_more [] (codes "region") (string (region ∷ s)) (Text (region ∷ s)) refl refl (text_is (codes "region") region s h))

-- ---- a line
abbrev names : List (List ℕ)
names = codes "customers" ∷ codes "orders" ∷ []

-- of a topic, with the key and the value as they are read
abbrev record_with : ℕ → Result (Option (List ℕ)) JobKind → Result (Option (List ℕ)) JobKind → Result Input JobKind
record_with topic key value = key >>= λ k. value >>= λ v. Ok (record { topic = topic; rec = record { key = k; value = v; ts = 0 } })

both_read : (topic : ℕ) (key value : Result (Option (List ℕ)) JobKind) (k v : Option (List ℕ)) → key ≡ Ok k → value ≡ Ok v → record_with topic key value ≡ Ok (record { topic = topic; rec = record { key = k; value = v; ts = 0 } })
both_read topic key value k v e f = ap₂ (record_with topic) e f

order_line_is : (key : List ℕ) (value : Data) → input_from names (line_data orders_name key value) ≡ record_with 1 (key_from (Some (string key))) (value_from value)
unfolding input_from object_of is_member topic_from text_of member_of
order_line_is key value = refl

customer_line_is : (key : List ℕ) (value : Data) → input_from names (line_data (codes "customers") key value) ≡ record_with 0 (key_from (Some (string key))) (value_from value)
unfolding input_from object_of is_member topic_from text_of member_of
customer_line_is key value = refl

pub order_said : (order customer amount : ℕ) → order < 10 ^ 6 → customer < 10 ^ 6 → amount < 10 ^ 6 →
    input_from names (line_data orders_name (codes "o" ++ decimal order) (order_data (codes "c" ++ decimal customer) amount))
    ≡ Ok (record { topic = 1; rec = record { key = Some (codes "o" ++ decimal order); value = Some (spelling ((codes "amt", Int (pos amount)) ∷ (codes "cust", Text (codes "c" ++ decimal customer)) ∷ [])); ts = 0 } })
order_said order customer amount ho hc ha =
    order_line_is (codes "o" ++ decimal order) (order_data (codes "c" ++ decimal customer) amount)
    ∙ both_read 1 _ _ _ _ (key_is 111 (decimal order) (short_decimal order ho)) (order_row_is 99 (decimal customer) amount (short_decimal customer hc) ha)

pub deletion_said : (order : ℕ) → order < 10 ^ 6 →
    input_from names (line_data orders_name (codes "o" ++ decimal order) null) ≡ Ok (record { topic = 1; rec = record { key = Some (codes "o" ++ decimal order); value = None; ts = 0 } })
deletion_said order ho = order_line_is (codes "o" ++ decimal order) null ∙ both_read 1 _ _ _ _ (key_is 111 (decimal order) (short_decimal order ho)) refl

pub customer_said : (customer region : ℕ) → customer < 10 ^ 6 → region < 10 ^ 6 →
    input_from names (line_data (codes "customers") (codes "c" ++ decimal customer) (customer_data (codes "r" ++ decimal region)))
    ≡ Ok (record { topic = 0; rec = record { key = Some (codes "c" ++ decimal customer); value = Some (spelling ((codes "region", Text (codes "r" ++ decimal region)) ∷ [])); ts = 0 } })
customer_said customer region hc hr =
    customer_line_is (codes "c" ++ decimal customer) (customer_data (codes "r" ++ decimal region))
    ∙ both_read 0 _ _ _ _ (key_is 99 (decimal customer) (short_decimal customer hc)) (customer_row_is 114 (decimal region) (short_decimal region hr))
