use Rattle.std.proofs.Common.{◌≡◌, ◌++◌, drop}
use Rattle.ks_group.specs.Held.{held_by}
use Rattle.ks_group.proofs.held.push_by.Given as goal

abbrev pub invariant-loop-pair : goal.invariant-loop-pair
invariant-loop-pair l = l.made.items ++ held_by l.w (drop l.pair-index l.held) ≡ l.fn.made.items ++ held_by l.w l.held
