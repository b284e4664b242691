-- What a plain line is: its pieces from left to right, each with the bytes behind it, and none where no such piece stands in front.
-- Of single bytes 34 is the quotation mark, 44 the comma, 45 the minus, 48 the digit 0, 58 the colon, 123 and 125 are the braces.
use Rattle.std.specs.Prelude.{ℕ, zero, suc, ◌-◌, ◌==◌, ◌&&◌, ◌||◌, not, nat_lt, nat_le, ℤ, pos, neg_ℤ, List, [], ◌∷◌, length, take, drop, insert, Bool, false, Option, Some, None, option_map, codes, if◌then◌else◌}
use Rattle.std.specs.Option.{option_or}
use Rattle.std.specs.Char.{is_ascii_digit}
use Rattle.std.specs.List.{prefix_len, take_while}
use Rattle.std.specs.Str.Parse.{digits_value}
use Rattle.ks_record.specs.Texts.{key_of, name_from, text_from}
use Rattle.ks_row.specs.Reading.{◌>>=◌}
use Rattle.ks_row.specs.Rows.{Member, row_of}
use Rattle.ks_row.specs.Spelling.{spelling}
use Rattle.ks_row.specs.declared.row.Field.{Field}
use Rattle.ks_row.specs.declared.row.Field.TheVariants.{Int, Text}
use Rattle.ks_job_record.specs.declared.record.Input.{Input}
use Rattle.ks_job_record.specs.Members.{same}
use Rattle.ks_job_record.specs.Record.{number_of}
use Rattle.ks_job_record.specs.Plain.{is_plain_byte}
use Rattle.ks_job_record.specs.PlainRows.{place_among}

-- this byte
abbrev pub without_first : ℕ → List ℕ → Option (List ℕ)
without_first byte [] = None
without_first byte (x ∷ rest) = if x == byte then Some rest else None

-- these bytes
unfoldable pub without_front : List ℕ → List ℕ → Option (List ℕ)
without_front front bytes = if same (take (length front) bytes) front then Some (drop (length front) bytes) else None

-- a text without escapes, and its quotation mark
unfoldable pub quoted_at : List ℕ → Option (List ℕ × List ℕ)
quoted_at bytes = do
  rest ← without_first 34 (drop (prefix_len is_plain_byte bytes) bytes)
  Some (take_while is_plain_byte bytes, rest)

-- ---- numbers
abbrev pub digit_at : List ℕ → Option (ℕ × List ℕ)
digit_at [] = None
digit_at (x ∷ rest) = if is_ascii_digit x then Some (x - 48, rest) else None

-- a digit and more, with no 0 before another, of a number below 10 ^ 18
unfoldable pub is_number : List ℕ → Bool
is_number [] = false
is_number (x ∷ more) = (not (x == 48) || length more == 0) && nat_lt (digits_value 10 (x ∷ more)) 1000000000000000000

-- all the digits that stand there
unfoldable pub number_at : List ℕ → Option (ℕ × List ℕ)
number_at bytes =
    let digits = take_while is_ascii_digit bytes in
    if is_number digits then Some (digits_value 10 digits, drop (length digits) bytes) else None

-- ---- pieces of a row
unfoldable pub natural_at : List ℕ → Option (ℤ × List ℕ)
natural_at bytes = do
  number ← number_at bytes
  Some (pos number.0, number.1)

-- the negative of a number that isn't 0
unfoldable pub negative_at : List ℕ → Option (ℤ × List ℕ)
negative_at digits = do
  number ← number_at digits
  if number.0 == 0 then None else Some (neg_ℤ (pos number.0), number.1)

unfoldable pub integer_at : List ℕ → Option (ℤ × List ℕ)
integer_at bytes = option_or (without_first 45 bytes >>= negative_at) (natural_at bytes)

unfoldable pub text_at : List ℕ → Option (Field × List ℕ)
text_at bytes = do
  text ← quoted_at bytes
  Some (Text text.0, text.1)

unfoldable pub whole_at : List ℕ → Option (Field × List ℕ)
whole_at bytes = do
  number ← integer_at bytes
  Some (Int number.0, number.1)

unfoldable pub field_at : List ℕ → Option (Field × List ℕ)
field_at bytes = option_or (without_first 34 bytes >>= text_at) (whole_at bytes)

unfoldable pub member_at : List ℕ → Option (Member × List ℕ)
member_at bytes = do
  text ← without_first 34 bytes
  name ← quoted_at text
  behind ← without_first 58 name.1
  field ← field_at behind
  Some ((name.0, field.0), field.1)

-- a number, or a text that isn't too long
abbrev pub fit_field : Field → Option Field
fit_field (Int z) = Some (Int z)
fit_field (Text s) = option_map Text (text_from s)

-- the members with one more at its place; none where it doesn't fit, or its name is there
unfoldable pub with_one : Member → List Member → Option (List Member)
with_one m found = do
  name ← name_from m.0
  field ← fit_field m.1
  place ← place_among 0 name found
  Some (insert found place (name, field))

-- one member, beside those that were there
unfoldable pub one_at : List Member → List ℕ → Option (List Member × List ℕ)
one_at found bytes = do
  m ← member_at bytes
  more ← with_one m.0 found
  Some (more, m.1)

-- the closing brace behind the last member
abbrev pub last_at : List Member → List ℕ → Option (List Member × List ℕ)
last_at found bytes = option_map (λ rest. (found, rest)) (without_first 125 bytes)

-- one member or more, but no more than so many, a comma between them and the closing brace behind the last
unfoldable pub members_at : ℕ → List Member → List ℕ → Option (List Member × List ℕ)
members_at zero found bytes = None
members_at (suc n) found bytes = do
  one ← one_at found bytes
  option_or (last_at one.0 one.1) (without_first 44 one.1 >>= members_at n one.0)

-- ---- a line
-- the topic's number and the key
unfoldable pub front_at : List (List ℕ) → List ℕ → Option ((ℕ × List ℕ) × List ℕ)
front_at topics line = do
  first ← without_front (codes "{\"topic\":\"") line
  topic ← quoted_at first
  second ← without_front (codes ",\"key\":\"") topic.1
  key ← quoted_at second
  rest ← without_front (codes ",\"value\":") key.1
  number ← number_of topic.0 topics
  fit ← key_of key.0
  Some ((number, fit), rest)

unfoldable pub null_at : List ℕ → Option (Option (List ℕ) × List ℕ)
null_at bytes = option_map (λ rest. (None, rest)) (without_front (codes "null") bytes)

-- the bytes of a row of up to 16 members
unfoldable pub row_at : List ℕ → Option (Option (List ℕ) × List ℕ)
row_at bytes = do
  first ← without_first 123 bytes
  members ← members_at 16 [] first
  row ← row_of members.0
  Some (Some (spelling row), members.1)

unfoldable pub time_at : List ℕ → Option ℕ
time_at bytes = do
  digits ← without_front (codes ",\"ts\":") bytes
  time ← number_at digits
  if nat_le time.0 9007199254740992 && same time.1 (codes "}") then Some time.0 else None

-- the closing brace and nothing behind it, with a time before it or none, which is 0
unfoldable pub end_at : List ℕ → Option ℕ
end_at bytes = option_or (if same bytes (codes "}") then Some 0 else None) (time_at bytes)

-- the record, where its line ends so
unfoldable pub record_at : ℕ × List ℕ → Option (List ℕ) → List ℕ → Option Input
record_at front value rest = option_map (λ ts. record { topic = front.0; rec = record { key = Some front.1; value = value; ts = ts } }) (end_at rest)

-- the record, by what stands for its value
unfoldable pub value_record : ℕ × List ℕ → Option (Option (List ℕ) × List ℕ) → Option Input
value_record front found = do
  value ← found
  record_at front value.0 value.1

-- the record of a plain line, by the names of the topics
unfoldable pub plain_record : List (List ℕ) → List ℕ → Option Input
plain_record topics line = do
  front ← front_at topics line
  value_record front.0 (option_or (null_at front.1) (row_at front.1))
