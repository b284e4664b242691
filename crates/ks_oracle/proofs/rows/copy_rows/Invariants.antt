use Rattle.std.proofs.Common.{◌≡◌, ◌++◌}
use Rattle.ks_oracle.proofs.rows.copy_rows.Given as goal

-- what is listed and what is left are all
abbrev pub invariant-loop-key : goal.invariant-loop-key
invariant-loop-key l = l.list.items ++ l.key-iterator ≡ l.tree.entries
