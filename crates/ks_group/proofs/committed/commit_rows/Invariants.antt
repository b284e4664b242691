use Rattle.std.proofs.Common.{◌≡◌, ◌++◌, map, take, drop}
use Rattle.ks_group.specs.Committed.{row_with}
use Rattle.ks_group.proofs.committed.commit_rows.Given as goal

abbrev pub invariant-loop-i : goal.invariant-loop-i
invariant-loop-i l = l.rows.items ≡ map (row_with l.pending) (take l.i l.fn.rows.items) ++ drop l.i l.fn.rows.items
