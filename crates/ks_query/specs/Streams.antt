-- Streams as lists of items: what a stream node makes of one item, and the group that an aggregate finds for it.
-- Kafka Streams developer guide, "Stateless transformations": filter, mapValues, selectKey, groupByKey, groupBy.
use Rattle.std.specs.Prelude.{ℕ, List, [], ◌∷◌, Option, Some, None, cond, option_map}
use Rattle.ks_expr.specs.Terms.{Set, Test}
use Rattle.ks_row.specs.FieldKeys.{field_key}
use Rattle.ks_expr.specs.Eval.{Row, holds, project}

abbrev pub Key : Type 0
Key = List ℕ

-- a record of a job: its topic by number
pub record Input : Type 0 where
  pub topic : ℕ
  pub key : Option Key
  pub value : Option Row
  pub time : ℕ

pub record StreamItem : Type 0 where
  pub key : Option Key
  pub row : Row
  pub time : ℕ

-- the parts that are there of a list
abbrev pub with_some : {B : Type 0} → Option B → List B → List B
with_some None ys = ys
with_some (Some y) ys = y ∷ ys

abbrev pub some_of : {A B : Type 0} → (A → Option B) → List A → List B
some_of f [] = []
some_of f (x ∷ xs) = with_some (f x) (some_of f xs)

-- a source passes on what has a value
abbrev pub item_of : Input → Option StreamItem
item_of r = option_map (λ v. record { key = r.key; row = v; time = r.time }) r.value

abbrev pub filter_item : Test → StreamItem → Option StreamItem
filter_item p x = cond (holds p x.row) (Some x) None

-- an item whose new row would have no field is dropped
abbrev pub map_item : Set → StreamItem → Option StreamItem
map_item set x = option_map (λ r. record x { row = r }) (project set (Some x.row) None)

-- an item whose field gives no key is dropped
abbrev pub rekey_item : List ℕ → StreamItem → Option StreamItem
rekey_item name x = option_map (λ k. record x { key = Some k }) (field_key name x.row)

-- the group of an item at an aggregate: its own key, or the key that a field gives
abbrev pub group_key : Option (List ℕ) → StreamItem → Option Key
group_key None x = x.key
group_key (Some by) x = field_key by x.row

-- the items that have a group, with it
abbrev pub grouped : Option (List ℕ) → List StreamItem → List (Key × StreamItem)
grouped by xs = some_of (λ x. option_map (λ g. (g, x)) (group_key by x)) xs
