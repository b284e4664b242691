-- The bytes of a payload, of a text and of a payload that is put together.
use Rattle.std.specs.Prelude.{ℕ, List, Option, Some, None, string_bytes}
use Rattle.std.specs.Global.{Vec}
use Rattle.ks_record.specs.declared.lists.Payload.{Payload}
use Rattle.ks_record.specs.declared.lists.Payload.TheVariants.{Short, Shared}
use Rattle.ks_record.specs.declared.chars.Letters.{Letters}
use Rattle.ks_record.specs.declared.chars.Letters.TheVariants.{Short as Few, Long as Many}

abbrev pub bytes_of : Payload → List ℕ
bytes_of (Short kept) = kept.items
bytes_of (Shared kept) = kept

abbrev pub letters_of : Letters → List ℕ
letters_of (Few kept) = kept.bytes
letters_of (Many kept) = string_bytes kept

abbrev pub built_of : List ℕ → Option (Vec ℕ) → List ℕ
built_of short None = short
built_of short (Some long) = long.items
