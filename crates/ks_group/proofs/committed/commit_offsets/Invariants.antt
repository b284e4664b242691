use Rattle.std.proofs.Common.{◌≡◌, ◌++◌, map, take, drop}
use Rattle.ks_group.specs.Committed.{pair_with}
use Rattle.ks_group.proofs.committed.commit_offsets.Given as goal

abbrev pub invariant-loop-i : goal.invariant-loop-i
invariant-loop-i l = l.offsets.items ≡ map (pair_with l.named) (take l.i l.fn.offsets.items) ++ drop l.i l.fn.offsets.items
