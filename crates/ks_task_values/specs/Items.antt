-- Items of streams, as a step has them node by node.
use Rattle.std.specs.Prelude.{List, map, Option, option_map}
use Rattle.ks_query.specs.Streams.{StreamItem}
use Rattle.ks_task_values.specs.declared.items.Item.{Item}

abbrev pub item_view : Item → StreamItem
item_view i = record { key = i.key; row = i.row; time = i.time }

abbrev pub views : List (Option Item) → List (Option StreamItem)
views is = map (option_map item_view) is
