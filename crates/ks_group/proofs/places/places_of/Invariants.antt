use Rattle.std.proofs.Common.{◌≡◌, ◌+◌, ◌<◌, ◌≤◌, drop, length, get_or}
use Rattle.ks_record.specs.declared.record.TaskId.{TaskId}
use Rattle.ks_group.specs.Places.{row_place, task_number}
use Rattle.ks_group.proofs.places.places_of.Given as goal

abbrev pub invariant-loop-i : goal.invariant-loop-i
invariant-loop-i l =
    ((t : TaskId) → t.part < 256 → get_or l.places.items (task_number t) (length l.rows) ≡ l.i + row_place t (drop l.i l.rows))
    × (l.i ≤ length l.rows)

abbrev pub decreases-loop-i : goal.decreases-loop-i
decreases-loop-i l = l.i
