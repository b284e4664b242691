use Rattle.std.proofs.Common.{◌≡◌, take}
use Rattle.ks_store.specs.Rows.{rows_for}
use Rattle.ks_store.proofs.rows.rows_at.Given as goal

-- the rows of the first keys are found
abbrev pub invariant-loop-key : goal.invariant-loop-key
invariant-loop-key l = l.found.items ≡ rows_for l.rows.rows (take l.key-index l.fn.keys.items)
