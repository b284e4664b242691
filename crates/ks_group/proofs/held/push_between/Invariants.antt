use Rattle.std.proofs.Common.{◌≡◌, ◌++◌, drop}
use Rattle.ks_group.specs.Held.{held_between}
use Rattle.ks_group.proofs.held.push_between.Given as goal

abbrev pub invariant-loop-row : goal.invariant-loop-row
invariant-loop-row l = l.made.items ++ held_between l.from l.to (drop l.row-index l.held) ≡ l.fn.made.items ++ held_between l.from l.to l.held
