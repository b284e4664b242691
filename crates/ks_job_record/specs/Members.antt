-- The members of a line's objects.
use Rattle.std.specs.Prelude.{ℕ, ◌||◌, ◌==◌, ℤ, List, [], ◌∷◌, Bool, false, ⊤, Result, Ok, Err, codes, if◌then◌else◌}
use Rattle.std.specs.Cmp.Lexicographic.{pointwise}
use Rattle.serde_json.specs.Data.{Data, Members, no_members, member}
use Rattle.serde_json.specs.Find.{get, as_str, as_number, as_i64, as_object}
use Rattle.ks_job_record.specs.declared.fault.JobKind.{JobKind}
use Rattle.ks_job_record.specs.declared.fault.JobKind.TheVariants.{BadShape, BadNumber}
use Rattle.ks_job_record.specs.declared.members.Kind.{Kind}
use Rattle.ks_job_record.specs.declared.members.Kind.TheVariants.{Stream, Table, Filter, MapValues, SelectKey, Count, Sum, WindowedCount, Join, FkJoin}
use Rattle.ks_job_record.specs.declared.members.Form.{Form}
use Rattle.ks_job_record.specs.declared.members.Form.TheVariants.{Topology, Record, Node}
use Rattle.ks_job_record.specs.Gives.{◌>>=◌, some_or}

abbrev pub same : List ℕ → List ℕ → Bool
same a b = pointwise ◌==◌ a b

-- the members of a node beside its name and its operation
abbrev pub own_members : Kind → List (List ℕ)
own_members Stream = codes "topic" ∷ []
own_members Table = codes "topic" ∷ []
own_members Filter = codes "from" ∷ codes "where" ∷ []
own_members MapValues = codes "from" ∷ codes "set" ∷ []
own_members SelectKey = codes "from" ∷ codes "key" ∷ []
own_members Count = codes "from" ∷ codes "by" ∷ []
own_members Sum = codes "from" ∷ codes "by" ∷ codes "field" ∷ []
own_members WindowedCount = codes "from" ∷ codes "by" ∷ codes "size" ∷ codes "advance" ∷ codes "grace" ∷ []
own_members Join = codes "left" ∷ codes "right" ∷ codes "kind" ∷ codes "set" ∷ []
own_members FkJoin = codes "left" ∷ codes "right" ∷ codes "fk" ∷ codes "kind" ∷ codes "set" ∷ []

-- the members that an object of this form may have
abbrev pub members_of : Form → List (List ℕ)
members_of Topology = codes "app" ∷ codes "topics" ∷ codes "nodes" ∷ codes "print" ∷ []
members_of Record = codes "topic" ∷ codes "key" ∷ codes "value" ∷ codes "ts" ∷ []
members_of (Node kind) = codes "name" ∷ codes "op" ∷ own_members kind

-- one of the names is this
abbrev pub has_name : List (List ℕ) → List ℕ → Bool
has_name [] k = false
has_name (name ∷ names) k = same name k || has_name names k

unfoldable pub is_member : Form → List ℕ → Bool
is_member form k = has_name (members_of form) k

-- the first unknown member is named; the members of a reading stand in order of bytes
abbrev pub all_known : Form → Members → Result ⊤ JobKind
all_known form no_members = Ok tt
all_known form (member k d ms) = if is_member form k then all_known form ms else Err (BadShape k)

-- an object with known members alone; what is no object is named so
unfoldable pub object_of : List ℕ → Form → Data → Result ⊤ JobKind
object_of name form d = do
  ms ← some_or (BadShape name) (as_object d)
  all_known form ms

unfoldable pub member_of : List ℕ → Data → Result Data JobKind
member_of name d = some_or (BadShape name) (get name d)

unfoldable pub text_of : List ℕ → Data → Result (List ℕ) JobKind
text_of name d = do
  text ← member_of name d
  some_or (BadShape name) (as_str text)

-- a number that is an i64
unfoldable pub integer_from : List ℕ → Data → Result ℤ JobKind
integer_from name d = do
  n ← some_or (BadShape name) (as_number d)
  some_or (BadNumber name) (as_i64 n)

-- a member that is a number
unfoldable pub integer_of : List ℕ → Data → Result ℤ JobKind
integer_of name d = do
  inner ← member_of name d
  integer_from name inner
