use Rattle.std.proofs.Common.{◌≡◌, ◌++◌}
use Rattle.ks_oracle.proofs.groups.copy_groups.Given as goal

-- what is listed and what is left are all
abbrev pub invariant-loop-group : goal.invariant-loop-group
invariant-loop-group l = l.list.items ++ l.group-iterator ≡ l.tree.entries
