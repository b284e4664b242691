-- The row that the value of a line tells.
use Rattle.std.specs.Prelude.{ℕ, ℤ, Bool, cond, List, [], ◌∷◌, ◌++◌, Option, Some, None, option_map, option_and_then}
use Rattle.serde_json.specs.Data.{Data, Items, no_items, item, Members, no_members, member}
use Rattle.serde_json.specs.Find.{as_str, as_number, as_array, as_object, as_i64, as_u64}
use Rattle.ks_row.specs.Rows.{Member, row_of}
use Rattle.ks_record.specs.Texts.{key_of, name_of, text_of}
use Rattle.ks_row.specs.declared.row.Field.{Field}
use Rattle.ks_row.specs.declared.row.Field.TheVariants.{Int, Text}
use Rattle.ks_query.specs.declared.table.TableRow.{TableRow}

-- a text, or else an integer
abbrev pub field_by : Option (List ℕ) → Option ℤ → Option Field
field_by (Some s) number = option_map Text (text_of s)
field_by None number = option_map Int number

abbrev pub field_in : Data → Option Field
field_in d = field_by (as_str d) (option_and_then as_i64 (as_number d))

abbrev pub member_in : List ℕ → Data → Option Member
member_in name d = option_and_then (λ n. option_map (λ f. (n, f)) (field_in d)) (name_of name)

-- the members found so far, and then the others from left to right
abbrev pub members_from : List Member → Members → Option (List Member)
members_from found no_members = Some found
members_from found (member k d ms) = option_and_then (λ m. members_from (found ++ m ∷ []) ms) (member_in k d)

abbrev pub row_in : Data → Option (List Member)
row_in d = option_and_then (λ ms. option_and_then row_of (members_from [] ms)) (as_object d)

abbrev pub key_in : Data → Option (List ℕ)
key_in d = option_and_then key_of (as_str d)

abbrev pub row_at : Data → Option ℕ → Data → Option TableRow
row_at key start fields = option_and_then (λ k. option_map (λ r. record { key = k; start = start; row = r }) (row_in fields)) (key_in key)

abbrev pub row_last : Data → Option ℕ → Items → Option TableRow
row_last key start no_items = None
row_last key start (item fields no_items) = row_at key start fields
row_last key start (item fields (item d ds)) = None

abbrev pub row_from_start : Data → Items → Option TableRow
row_from_start key no_items = None
row_from_start key (item start ds) = option_and_then (λ s. row_last key (Some s) ds) (option_and_then as_u64 (as_number start))

abbrev pub row_of_items : Bool → Items → Option TableRow
row_of_items windowed no_items = None
row_of_items windowed (item key ds) = cond windowed (row_from_start key ds) (row_last key None ds)

abbrev pub table_row_in : Bool → Data → Option TableRow
table_row_in windowed d = option_and_then (row_of_items windowed) (as_array d)
