-- What every value is that is read from a text of UTF-8: its texts are UTF-8, and its negative numbers have 64 bits.
use Rattle.std.specs.Str.{IsUtf8}
use Rattle.std.specs.Int.{w64}
use Rattle.std.specs.Int.RustNames.{FitsSigned}
use Rattle.serde_json.specs.Data.{Num, unsigned, negative, float, Data, null, boolean, number, string, array, object, Items, no_items, item, Members, no_members, member}

abbrev pub FitsNum : Num → Type 0
FitsNum (unsigned n) = Unit {0}
FitsNum (negative z) = FitsSigned w64 z
FitsNum (float x) = Unit {0}

abbrev mutual
  pub FitsData : Data → Type 0
  FitsData null = Unit {0}
  FitsData (boolean b) = Unit {0}
  FitsData (number n) = FitsNum n
  FitsData (string s) = IsUtf8 s
  FitsData (array ds) = FitsItems ds
  FitsData (object ms) = FitsMembers ms

  pub FitsItems : Items → Type 0
  FitsItems no_items = Unit {0}
  FitsItems (item d ds) = FitsData d × FitsItems ds

  pub FitsMembers : Members → Type 0
  FitsMembers no_members = Unit {0}
  FitsMembers (member k d ms) = IsUtf8 k × FitsData d × FitsMembers ms
