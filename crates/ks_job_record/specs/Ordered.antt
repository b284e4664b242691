-- The members of a reading stand in order of bytes, so the first unknown one is the least.
use Rattle.std.specs.Prelude.{◌≡◌, ℕ, List, [], ◌∷◌, ⊤, true, Result, Ok, Err, if◌then◌else◌}
use Rattle.std.specs.Ordering.{nat_cmp, is_lt}
use Rattle.std.specs.Cmp.Lexicographic.{slice_cmp}
use Rattle.serde_json.specs.Data.{Data, null, boolean, number, string, array, object, Members, no_members, member, Items, no_items, item}
use Rattle.ks_job_record.specs.declared.fault.JobKind.{JobKind}
use Rattle.ks_job_record.specs.declared.fault.JobKind.TheVariants.{BadShape}
use Rattle.ks_job_record.specs.declared.members.Form.{Form}
use Rattle.ks_job_record.specs.Members.{is_member}

abbrev pub IsBefore : List ℕ → List ℕ → Type 0
IsBefore k l = is_lt (slice_cmp nat_cmp k l) ≡ true

-- a name comes before those of all these members, which are in order
abbrev pub Starts : List ℕ → Members → Type 0
Starts k no_members = Unit {0}
Starts k (member l d ms) = IsBefore k l

-- each object in it has its members in strictly rising order of bytes
abbrev mutual
  pub IsOrdered : Data → Type 0
  IsOrdered null = Unit {0}
  IsOrdered (boolean b) = Unit {0}
  IsOrdered (number n) = Unit {0}
  IsOrdered (string s) = Unit {0}
  IsOrdered (array ds) = ItemsOrdered ds
  IsOrdered (object ms) = MembersOrdered ms

  pub ItemsOrdered : Items → Type 0
  ItemsOrdered no_items = Unit {0}
  ItemsOrdered (item d ds) = IsOrdered d × ItemsOrdered ds

  pub MembersOrdered : Members → Type 0
  MembersOrdered no_members = Unit {0}
  MembersOrdered (member k d ms) = Starts k ms × IsOrdered d × MembersOrdered ms

-- the members that an object of this form may not have
abbrev pub unknown_names : Form → Members → List (List ℕ)
unknown_names form no_members = []
unknown_names form (member k d ms) = if is_member form k then unknown_names form ms else k ∷ unknown_names form ms

-- the first of these is named
abbrev pub first_named : List (List ℕ) → Result ⊤ JobKind
first_named [] = Ok tt
first_named (k ∷ ks) = Err (BadShape k)
