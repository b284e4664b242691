-- The key that a field of a row gives, as a grouping or a foreign-key join takes it.
use Rattle.std.specs.Prelude.{ℕ, List, Option, Some, option_and_then}
use Rattle.std.specs.Fmt.{signed_decimal}
use Rattle.ks_record.specs.Texts.{key_of}
use Rattle.ks_row.specs.Rows.{Member, field_of}
use Rattle.ks_row.specs.declared.row.Field.{Field}
use Rattle.ks_row.specs.declared.row.Field.TheVariants.{Int, Text}

-- a number as its decimal text, a text of 1 to 1,024 bytes as it is
abbrev pub key_from_field : Field → Option (List ℕ)
key_from_field (Int z) = Some (signed_decimal z)
key_from_field (Text s) = key_of s

-- of the field with this name
abbrev pub field_key : List ℕ → List Member → Option (List ℕ)
field_key name ms = option_and_then key_from_field (field_of name ms)
