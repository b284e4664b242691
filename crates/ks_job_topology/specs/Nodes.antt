-- Nodes of a topology line.
use Rattle.std.specs.Prelude.{ℕ, ◌==◌, ℤ, List, [], ◌∷◌, ◌++◌, length, map, Bool, true, false, Option, Some, None, option_map, Result, Ok, Err, codes, if◌then◌else◌}
use Rattle.std.specs.List.{list_all}
use Rattle.serde_json.specs.Data.{Data, Members, no_members, member, Items, no_items, item}
use Rattle.serde_json.specs.Find.{get, as_str, as_array, as_object}
use Rattle.ks_record.specs.Texts.{name_of}
use Rattle.ks_expr.specs.declared.terms.JoinKind.{JoinKind}
use Rattle.ks_expr.specs.declared.terms.JoinKind.TheVariants.{Inner, Left, Outer}
use Rattle.ks_expr.specs.declared.terms.Expr.{Expr}
use Rattle.ks_expr.specs.Terms.{Term, Set, term_of}
use Rattle.ks_plan.specs.Drafts.{OpView, StreamOf, TableOf, FilterOf, MapOf, KeyOf, CountOf, SumOf, WindowedOf, JoinOf, FkJoinOf, NodeView}
use Rattle.ks_job_record.specs.declared.fault.JobKind.{JobKind}
use Rattle.ks_job_record.specs.declared.fault.JobKind.TheVariants.{BadShape}
use Rattle.ks_job_record.specs.declared.members.Form.{Form}
use Rattle.ks_job_record.specs.declared.members.Form.TheVariants.{Node}
use Rattle.ks_job_record.specs.declared.members.Kind.{Kind}
use Rattle.ks_job_record.specs.declared.members.Kind.TheVariants.{Stream, Table, Filter, MapValues, SelectKey, Count, Sum, WindowedCount, Join, FkJoin}
use Rattle.ks_job_record.specs.Gives.{◌>>=◌, some_or}
use Rattle.ks_job_record.specs.Members.{same, object_of, member_of, text_of, integer_of, integer_from}
use Rattle.ks_job_topology.specs.Exprs.{limited}
use Rattle.ks_job_topology.specs.Foreign.{fk_from}
use Rattle.ks_job_topology.specs.Tests.{where_of}
use Rattle.ks_job_topology.specs.Labels.{is_word_byte}

-- the operations, by their words
abbrev pub operations : List (List ℕ × Kind)
operations =
    (codes "stream", Stream)
    ∷ (codes "table", Table)
    ∷ (codes "filter", Filter)
    ∷ (codes "map_values", MapValues)
    ∷ (codes "select_key", SelectKey)
    ∷ (codes "count", Count)
    ∷ (codes "sum", Sum)
    ∷ (codes "windowed_count", WindowedCount)
    ∷ (codes "join", Join)
    ∷ (codes "fk_join", FkJoin)
    ∷ []

-- what a table has for this word
abbrev pub look_up : {A : Type 0} → List (List ℕ × A) → List ℕ → Option A
look_up [] s = None
look_up (x ∷ xs) s = if same s x.0 then Some x.1 else look_up xs s

unfoldable pub kind_of : List ℕ → Option Kind
kind_of s = look_up operations s

unfoldable pub op_from : Data → Result Kind JobKind
op_from d = do
  op ← text_of (codes "op") d
  some_or (BadShape (codes "op")) (kind_of op)

-- 1 to 64 letters, digits and underscores
unfoldable pub node_name_from : Data → Result (List ℕ) JobKind
node_name_from d = do
  text ← text_of (codes "name") d
  if list_all is_word_byte text then some_or (BadShape (codes "name")) (name_of text) else Err (BadShape (codes "name"))

-- a text of any length
unfoldable pub blob_from : List ℕ → Data → Result (List ℕ) JobKind
blob_from name d = text_of name d >>= λ s. Ok s

-- a field's name, of 1 to 64 bytes
unfoldable pub name_from : List ℕ → Data → Result (List ℕ) JobKind
name_from name d = do
  text ← text_of name d
  some_or (BadShape name) (name_of text)

-- a member that may be absent
abbrev pub by_text : Option Data → Result (Option (List ℕ)) JobKind
by_text None = Ok None
by_text (Some d) = some_or (BadShape (codes "by")) (as_str d) >>= λ s. some_or (BadShape (codes "by")) (option_map Some (name_of s))

unfoldable pub by_from : Data → Result (Option (List ℕ)) JobKind
by_from d = by_text (get (codes "by") d)

abbrev pub if_there : List ℕ → Option Data → Result (Option ℤ) JobKind
if_there name None = Ok None
if_there name (Some d) = integer_from name d >>= λ z. Ok (Some z)

unfoldable pub integer_if : List ℕ → Data → Result (Option ℤ) JobKind
integer_if name d = if_there name (get name d)

-- what a foreign-key join may be, and what a join by key may be
abbrev pub foreign_kinds : List (List ℕ × JoinKind)
foreign_kinds = (codes "inner", Inner) ∷ (codes "left", Left) ∷ []

abbrev pub key_kinds : List (List ℕ × JoinKind)
key_kinds = (codes "outer", Outer) ∷ foreign_kinds

abbrev pub join_kind_of : Bool → List ℕ → Option JoinKind
join_kind_of true s = look_up foreign_kinds s
join_kind_of false s = look_up key_kinds s

unfoldable pub join_kind_from : Bool → Data → Result JoinKind JobKind
join_kind_from foreign d = do
  text ← text_of (codes "kind") d
  some_or (BadShape (codes "kind")) (join_kind_of foreign text)

-- a field's name is judged before its expression
unfoldable pub entry_from : Bool → List ℕ → Data → Result (List ℕ × Term) JobKind
entry_from sides name d = do
  known ← some_or (BadShape name) (name_of name)
  term ← limited name sides d
  Ok (known, term)

abbrev pub set_from : Bool → Set → Members → Result Set JobKind
set_from sides found no_members = Ok found
set_from sides found (member k d ms) = entry_from sides k d >>= λ e. set_from sides (found ++ e ∷ []) ms

-- at least one field
unfoldable pub set_of : Bool → Data → Result Set JobKind
set_of sides d = do
  inner ← member_of (codes "set") d
  ms ← some_or (BadShape (codes "set")) (as_object inner)
  set ← set_from sides [] ms
  if length set == 0 then Err (BadShape (codes "set")) else Ok set

unfoldable pub filter_from : Data → Result OpView JobKind
filter_from d = do
  from ← blob_from (codes "from") d
  test ← where_of d
  Ok (FilterOf from test)

unfoldable pub map_from : Data → Result OpView JobKind
map_from d = do
  from ← blob_from (codes "from") d
  set ← set_of false d
  Ok (MapOf from set)

unfoldable pub key_op_from : Data → Result OpView JobKind
key_op_from d = do
  from ← blob_from (codes "from") d
  key ← name_from (codes "key") d
  Ok (KeyOf from key)

unfoldable pub count_from : Data → Result OpView JobKind
count_from d = do
  from ← blob_from (codes "from") d
  by ← by_from d
  Ok (CountOf from by)

unfoldable pub sum_from : Data → Result OpView JobKind
sum_from d = do
  from ← blob_from (codes "from") d
  by ← by_from d
  field ← name_from (codes "field") d
  Ok (SumOf from by field)

unfoldable pub windowed_from : Data → Result OpView JobKind
windowed_from d = do
  from ← blob_from (codes "from") d
  by ← by_from d
  size ← integer_of (codes "size") d
  advance ← integer_if (codes "advance") d
  grace ← integer_if (codes "grace") d
  Ok (WindowedOf from by size advance grace)

unfoldable pub join_from : Data → Result OpView JobKind
join_from d = do
  left ← blob_from (codes "left") d
  right ← blob_from (codes "right") d
  kind ← join_kind_from false d
  set ← set_of true d
  Ok (JoinOf left right kind set)

unfoldable pub fk_join_from : Data → Result OpView JobKind
fk_join_from d = do
  left ← blob_from (codes "left") d
  right ← blob_from (codes "right") d
  fk ← fk_from d
  kind ← join_kind_from true d
  set ← set_of true d
  Ok (FkJoinOf left right fk kind set)

-- the members of a node that its operation has, in order
unfoldable pub body_from : Kind → Data → Result OpView JobKind
body_from Stream d = blob_from (codes "topic") d >>= λ topic. Ok (StreamOf topic)
body_from Table d = blob_from (codes "topic") d >>= λ topic. Ok (TableOf topic)
body_from Filter d = filter_from d
body_from MapValues d = map_from d
body_from SelectKey d = key_op_from d
body_from Count d = count_from d
body_from Sum d = sum_from d
body_from WindowedCount d = windowed_from d
body_from Join d = join_from d
body_from FkJoin d = fk_join_from d

-- an object, its operation, its unknown members, and then its members in order
unfoldable pub node_from : Data → Result NodeView JobKind
node_from d = do
  ms ← some_or (BadShape (codes "nodes")) (as_object d)
  kind ← op_from d
  known ← object_of (codes "nodes") (Node kind) d
  name ← node_name_from d
  op ← body_from kind d
  Ok record { name = name; op = op }

abbrev pub nodes_from : List NodeView → Items → Result (List NodeView) JobKind
nodes_from found no_items = Ok found
nodes_from found (item d ds) = node_from d >>= λ n. nodes_from (found ++ n ∷ []) ds

unfoldable pub nodes_of : Data → Result (List NodeView) JobKind
nodes_of d = do
  inner ← member_of (codes "nodes") d
  ds ← some_or (BadShape (codes "nodes")) (as_array inner)
  nodes_from [] ds
