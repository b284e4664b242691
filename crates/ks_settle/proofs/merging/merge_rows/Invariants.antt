use Rattle.std.proofs.Common.{◌≡◌, ◌+◌, ◌++◌}
use Rattle.std.specs.VecDeque.{deque_len}
use Rattle.ks_settle.specs.Rows.{merged_rows}
use Rattle.ks_settle.proofs.merging.merge_rows.Given as goal

-- the rows so far, and those that are left
abbrev pub invariant-loop-row : goal.invariant-loop-row
invariant-loop-row l = l.rows.items ++ merged_rows l.later.items l.earlier.items ≡ merged_rows l.fn.later.items l.fn.earlier.items

abbrev pub decreases-loop-row : goal.decreases-loop-row
decreases-loop-row l = deque_len l.later + deque_len l.earlier
