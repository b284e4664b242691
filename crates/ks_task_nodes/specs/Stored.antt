-- Stored values of tables, before a step and after it.
use Rattle.std.specs.Prelude.{Option, Some, None, option_map, option_and_then}
use Rattle.ks_row.specs.Reading.{row_from}
use Rattle.ks_def_tasks.specs.Messages.{Stored}
use Rattle.ks_def_tasks.specs.Messages.Stored.{OfRow, OfAgg}
use Rattle.ks_task_nodes.specs.declared.values.StoredValue.{StoredValue}
use Rattle.ks_task_nodes.specs.declared.values.StoredValue.TheVariants as stored_value
use Rattle.ks_task_nodes.specs.declared.values.NewValue.{NewValue}
use Rattle.ks_task_nodes.specs.declared.values.NewValue.TheVariants as new_value

-- of a node that stores rows, the row that the bytes spell, if they spell one
abbrev pub stored : StoredValue → Option Stored
stored (stored_value.Row bytes) = option_map OfRow (row_from bytes.now)
stored (stored_value.Aggregate count agg) = Some (OfAgg count agg)

abbrev pub stored_in : Option StoredValue → Option Stored
stored_in o = option_and_then stored o

abbrev pub value_view : NewValue → Option Stored
value_view (new_value.Unchanged old) = stored_in old
value_view new_value.Absent = None
value_view (new_value.Encoded row) = Some (OfRow row.now)
value_view (new_value.Row row) = Some (OfRow row)
value_view (new_value.Aggregate count agg) = Some (OfAgg count agg)
