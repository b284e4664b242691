-- A step's items and values as lists that grow node by node, as code keeps them.
use Rattle.std.specs.Prelude.{◌≡◌, ℕ, List, [], ◌∷◌, ◌++◌, length, get_or, Option, None}
use Rattle.ks_plan.specs.Plan.{Plan, Kind}
use Rattle.ks_query.specs.Streams.{StreamItem}
use Rattle.ks_def_tasks.specs.Messages.{Stored, Rules}
use Rattle.ks_def_tasks.specs.Step.{Arrival, Values, item_at, items_from, value_at, values_from}

-- ---- items: none past the end
abbrev pub item_in : List (Option StreamItem) → ℕ → Option StreamItem
item_in xs n = get_or xs n None

-- after the items of some nodes those of the next ones
abbrev pub all_items : Arrival → List (Option StreamItem) → List Kind → List (Option StreamItem)
all_items a xs [] = xs
all_items a xs (k ∷ ks) = all_items a (xs ++ item_at a (item_in xs) k ∷ []) ks

-- ---- values: those of the nodes that acted, and the old ones
abbrev pub value_in : Values → List (Option Stored) → Values
value_in olds news n = get_or news n (olds n)

abbrev pub all_values : Rules → Arrival → (ℕ → Option StreamItem) → Values → List (Option Stored) → List Kind → List (Option Stored)
all_values rules a items olds news [] = news
all_values rules a items olds news (k ∷ ks) = all_values rules a items olds (news ++ value_at rules a items olds (value_in olds news) (length news) k ∷ []) ks

-- they are the machine's
pub record ListsAre (rules : Rules) (p : Plan) (a : Arrival) (olds : Values) : Type 0 where
  pub items : items_from a (λ n. None) 0 p.kinds ≡ item_in (all_items a [] p.kinds)
  pub values : (items : ℕ → Option StreamItem) → values_from rules a items olds olds 0 p.kinds ≡ value_in olds (all_values rules a items olds [] p.kinds)

abbrev pub NodesActAsLists : Type 0
NodesActAsLists = (rules : Rules) (p : Plan) (a : Arrival) (olds : Values) → ListsAre rules p a olds
