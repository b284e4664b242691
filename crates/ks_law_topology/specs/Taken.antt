-- What was taken at a partition, and what it tells a table.
use Rattle.std.specs.Prelude.{List, [], ◌∷◌, map, Option, Some, None, cond}
use Rattle.ks_record.specs.declared.record.TaskId.{TaskId}
use Rattle.ks_expr.specs.Eval.{Row}
use Rattle.ks_def_runs.specs.Table.{Change}
use Rattle.ks_def_runs.specs.Run.{Taken}
use Rattle.ks_query.specs.Streams.{Key, some_of}
use Rattle.ks_def_tasks.specs.Messages.{Place, same_place, Message, Item}
use Rattle.ks_def_tasks.specs.Messages.Message.{Given}

-- what records say
abbrev pub messages : List Item → List Message
messages xs = map (λ x. x.message) xs

-- from all senders, in the order in which it was taken
abbrev pub taken_at : Place → List (Taken TaskId Place Item) → List Message
taken_at q [] = []
taken_at q (t ∷ ts) = cond (same_place q t.place) (t.item.message ∷ taken_at q ts) (taken_at q ts)

-- a record of a table's topic changes its key's row; one without a key changes nothing
abbrev pub change_of : Message → Option (Change Key Row)
change_of (Given (Some k) v) = Some (k, v)
change_of m = None

abbrev pub changes_in : List Message → List (Change Key Row)
changes_in ms = some_of change_of ms
