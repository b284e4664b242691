-- A record line.
use Rattle.std.specs.Prelude.{ℕ, ◌+◌, ℤ, pos, negsuc, List, [], ◌∷◌, ◌++◌, length, Option, Some, None, option_map, option_and_then, Result, Ok, Err, codes, nat_lt, nat_le, if◌then◌else◌}
use Rattle.serde_json.specs.Data.{Data, null, boolean, number, string, array, object, Members, no_members, member}
use Rattle.serde_json.specs.Find.{get}
use Rattle.ks_row.specs.Rows.{Member, row_of}
use Rattle.ks_record.specs.Texts.{key_of, name_of, text_of as text_within}
use Rattle.ks_row.specs.Spelling.{spelling}
use Rattle.ks_row.specs.declared.row.Field.{Field}
use Rattle.ks_row.specs.declared.row.Field.TheVariants.{Int, Text}
use Rattle.ks_job_record.specs.declared.fault.JobKind.{JobKind}
use Rattle.ks_job_record.specs.declared.fault.JobKind.TheVariants.{TooMany, BadShape, BadNumber, UnknownTopic}
use Rattle.ks_job_record.specs.declared.record.Input.{Input}
use Rattle.ks_job_record.specs.declared.members.Form.TheVariants as form
use Rattle.ks_job_record.specs.Gives.{◌>>=◌, some_or}
use Rattle.ks_job_record.specs.Members.{same, object_of, member_of, text_of, integer_from}

-- the number of a topic: its place among the names
abbrev pub place_of : ℕ → List ℕ → List (List ℕ) → Option ℕ
place_of i topic [] = None
place_of i topic (t ∷ ts) = if same t topic then Some i else place_of (i + 1) topic ts

-- a topic's number has 16 bits, and a line of 65,536 bytes names fewer topics than that
abbrev pub number_of : List ℕ → List (List ℕ) → Option ℕ
number_of topic topics = option_and_then (λ n. if nat_lt n 65536 then Some n else None) (place_of 0 topic topics)

unfoldable pub topic_from : List (List ℕ) → Data → Result ℕ JobKind
topic_from topics d = do
  topic ← text_of (codes "topic") d
  some_or (UnknownTopic topic) (number_of topic topics)

-- a text of 1 to 1,024 bytes, or null
abbrev pub key_from : Option Data → Result (Option (List ℕ)) JobKind
key_from None = Ok None
key_from (Some null) = Ok None
key_from (Some (boolean b)) = Err (BadShape (codes "key"))
key_from (Some (number n)) = Err (BadShape (codes "key"))
key_from (Some (string s)) = some_or (BadShape (codes "key")) (option_map Some (key_of s))
key_from (Some (array ds)) = Err (BadShape (codes "key"))
key_from (Some (object ms)) = Err (BadShape (codes "key"))

abbrev pub field_from : List ℕ → Data → Result Field JobKind
field_from name null = Err (BadShape name)
field_from name (boolean b) = Err (BadShape name)
field_from name (number n) = integer_from name (number n) >>= λ z. Ok (Int z)
field_from name (string s) = some_or (BadShape name) (option_map Text (text_within s))
field_from name (array ds) = Err (BadShape name)
field_from name (object ms) = Err (BadShape name)

-- the name is judged before the value
unfoldable pub member_from : List ℕ → Data → Result Member JobKind
member_from name d = do
  known ← some_or (BadShape name) (name_of name)
  field ← field_from name d
  Ok (known, field)

-- one further member that is not null
unfoldable pub with_member : List Member → List ℕ → Data → Result (List Member) JobKind
with_member found name d = if nat_lt (length found) 64 then (member_from name d >>= λ m. Ok (found ++ m ∷ [])) else Err (TooMany (codes "fields") 64)

-- a member that is null is left out
abbrev pub and_member : List Member → List ℕ → Data → Result (List Member) JobKind
and_member found name null = Ok found
and_member found name (boolean b) = with_member found name (boolean b)
and_member found name (number n) = with_member found name (number n)
and_member found name (string s) = with_member found name (string s)
and_member found name (array ds) = with_member found name (array ds)
and_member found name (object ms) = with_member found name (object ms)

-- the members found so far, and then the others from left to right
abbrev pub fields_from : List Member → Members → Result (List Member) JobKind
fields_from found no_members = Ok found
fields_from found (member k d ms) = and_member found k d >>= λ more. fields_from more ms

-- a row is an object with a field
unfoldable pub row_from : Members → Result (List Member) JobKind
row_from ms = do
  found ← fields_from [] ms
  some_or (BadShape (codes "value")) (row_of found)

-- a row's bytes, or none for null
abbrev pub value_from : Data → Result (Option (List ℕ)) JobKind
value_from null = Ok None
value_from (boolean b) = Err (BadShape (codes "value"))
value_from (number n) = Err (BadShape (codes "value"))
value_from (string s) = Err (BadShape (codes "value"))
value_from (array ds) = Err (BadShape (codes "value"))
value_from (object ms) = row_from ms >>= λ row. Ok (Some (spelling row))

-- 0 to 9,007,199,254,740,992
abbrev pub time_within : ℤ → Result ℕ JobKind
time_within (pos n) = if nat_le n 9007199254740992 then Ok n else Err (BadNumber (codes "ts"))
time_within (negsuc n) = Err (BadNumber (codes "ts"))

abbrev pub time_from : Option Data → Result ℕ JobKind
time_from None = Ok 0
time_from (Some d) = integer_from (codes "ts") d >>= time_within

-- a record, its members judged in this order
unfoldable pub input_from : List (List ℕ) → Data → Result Input JobKind
input_from topics d = do
  known ← object_of (codes "line") form.Record d
  topic ← topic_from topics d
  key ← key_from (get (codes "key") d)
  inner ← member_of (codes "value") d
  value ← value_from inner
  ts ← time_from (get (codes "ts") d)
  Ok record { topic = topic; rec = record { key = key; value = value; ts = ts } }
