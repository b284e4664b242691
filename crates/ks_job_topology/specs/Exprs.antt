-- Expressions, as JSON says them.
use Rattle.std.specs.Prelude.{ℕ, zero, suc, ◌||◌, ◌&&◌, ℤ, List, Bool, true, false, Option, Some, None, Result, Ok, Err, codes, if◌then◌else◌, option_and_then}
use Rattle.serde_json.specs.Data.{Data, null, boolean, number, string, array, object, Members, no_members, member, Items, no_items, item}
use Rattle.serde_json.specs.Find.{as_str, as_number, as_i64, as_object, as_array}
use Rattle.ks_record.specs.Texts.{name_of, text_of}
use Rattle.ks_job_record.specs.declared.fault.JobKind.{JobKind}
use Rattle.ks_job_record.specs.declared.fault.JobKind.TheVariants.{TooMany, BadShape, BadNumber}
use Rattle.ks_job_topology.specs.declared.expr.Judged.{Judged}
use Rattle.ks_job_topology.specs.declared.expr.Judged.TheVariants.{Wrong, NoInteger, Read}
use Rattle.ks_job_record.specs.Members.{same}
use Rattle.ks_job_record.specs.Gives.{◌>>=◌}
use Rattle.ks_expr.specs.Terms.{Term, FieldOf, LeftOf, RightOf, Number, Words, Plus, Minus, Times}

-- a verdict, with what was read seen so
abbrev pub seen_by : {A B : Type 0} → (A → B) → Judged A → Judged B
seen_by f Wrong = Wrong
seen_by f NoInteger = NoInteger
seen_by f (Read x) = Read (f x)

-- two verdicts as one: a wrong shape anywhere comes before a wrong number
abbrev pub both_of : {A B C : Type 0} → (A → B → C) → Judged A → Judged B → Judged C
both_of f Wrong y = Wrong
both_of f NoInteger Wrong = Wrong
both_of f NoInteger NoInteger = NoInteger
both_of f NoInteger (Read b) = NoInteger
both_of f (Read a) Wrong = Wrong
both_of f (Read a) NoInteger = NoInteger
both_of f (Read a) (Read b) = Read (f a b)

abbrev pub one_member : Members → Option (List ℕ × Data)
one_member no_members = None
one_member (member k d no_members) = Some (k, d)
one_member (member k d (member l e ms)) = None

abbrev pub only_member_of : Data → Option (List ℕ × Data)
only_member_of d = option_and_then one_member (as_object d)

abbrev pub two_items : Items → Option (Data × Data)
two_items no_items = None
two_items (item a no_items) = None
two_items (item a (item b no_items)) = Some (a, b)
two_items (item a (item b (item c ds))) = None

abbrev pub only_pair_of : Data → Option (Data × Data)
only_pair_of d = option_and_then two_items (as_array d)

abbrev pub is_arithmetic : List ℕ → Bool
is_arithmetic k = same k (codes "add") || same k (codes "sub") || same k (codes "mul")

abbrev pub joined : List ℕ → Term → Term → Term
joined k a b = if same k (codes "add") then Plus a b else (if same k (codes "sub") then Minus a b else Times a b)

abbrev pub integer_seen : Option ℤ → Judged Term
integer_seen None = NoInteger
integer_seen (Some z) = Read (Number z)

abbrev pub seen_or : {A : Type 0} → Option A → (A → Judged Term) → Judged Term
seen_or None f = Wrong
seen_or (Some x) f = f x

abbrev pub field_seen : Bool → List ℕ → List ℕ → Judged Term
field_seen true k f =
    if same k (codes "left") then Read (LeftOf f)
    else if same k (codes "right") then Read (RightOf f)
    else Wrong
field_seen false k f =
    if same k (codes "field") then Read (FieldOf f)
    else Wrong

-- a text or a field
abbrev pub word_seen : Bool → List ℕ → List ℕ → Judged Term
word_seen sides k s =
    if same k (codes "text") then seen_or (text_of s) (λ t. Read (Words t))
    else seen_or (name_of s) (λ f. field_seen sides k f)

-- an integer, a text or a field
unfoldable pub leaf_from : Bool → List ℕ → Data → Judged Term
leaf_from sides k d =
    if same k (codes "int") then seen_or (as_number d) (λ n. integer_seen (as_i64 n))
    else seen_or (as_str d) (λ s. word_seen sides k s)

abbrev mutual
  pub expr_from : Bool → Data → Judged Term
  expr_from sides null = Wrong
  expr_from sides (boolean b) = Wrong
  expr_from sides (number n) = Wrong
  expr_from sides (string s) = Wrong
  expr_from sides (array ds) = Wrong
  expr_from sides (object ms) = one_from sides ms

  pub one_from : Bool → Members → Judged Term
  one_from sides no_members = Wrong
  one_from sides (member k d no_members) = if is_arithmetic k then pair_from sides k d else leaf_from sides k d
  one_from sides (member k d (member l e ms)) = Wrong

  pub pair_from : Bool → List ℕ → Data → Judged Term
  pair_from sides k null = Wrong
  pair_from sides k (boolean b) = Wrong
  pair_from sides k (number n) = Wrong
  pair_from sides k (string s) = Wrong
  pair_from sides k (array ds) = two_from sides k ds
  pair_from sides k (object ms) = Wrong

  pub two_from : Bool → List ℕ → Items → Judged Term
  two_from sides k no_items = Wrong
  two_from sides k (item a no_items) = Wrong
  two_from sides k (item a (item b no_items)) = both_of (joined k) (expr_from sides a) (expr_from sides b)
  two_from sides k (item a (item b (item c ds))) = Wrong

-- no deeper than this; a leaf has depth 1
abbrev pub within : ℕ → Term → Bool
within zero t = false
within (suc n) (FieldOf f) = true
within (suc n) (LeftOf f) = true
within (suc n) (RightOf f) = true
within (suc n) (Number z) = true
within (suc n) (Words s) = true
within (suc n) (Plus a b) = within n a && within n b
within (suc n) (Minus a b) = within n a && within n b
within (suc n) (Times a b) = within n a && within n b

-- what was read, or the fault of the member that should hold it
abbrev pub read_or : {A : Type 0} → List ℕ → Judged A → Result A JobKind
read_or name Wrong = Err (BadShape name)
read_or name NoInteger = Err (BadNumber name)
read_or name (Read x) = Ok x

-- unless it is deeper than 16 levels
abbrev pub shallow : Term → Result Term JobKind
shallow t = if within 16 t then Ok t else Err (TooMany (codes "depth") 16)

-- its shape first, then its numbers, then its depth
unfoldable pub limited : List ℕ → Bool → Data → Result Term JobKind
limited name sides d = read_or name (expr_from sides d) >>= shallow
