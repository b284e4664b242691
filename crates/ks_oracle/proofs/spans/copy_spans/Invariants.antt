use Rattle.std.proofs.Common.{◌≡◌, ◌++◌}
use Rattle.ks_oracle.proofs.spans.copy_spans.Given as goal

-- what is listed and what is left are all
abbrev pub invariant-loop-window : goal.invariant-loop-window
invariant-loop-window l = l.list.items ++ l.window-iterator ≡ l.tree.entries
