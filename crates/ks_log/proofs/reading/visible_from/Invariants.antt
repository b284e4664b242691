use Rattle.std.proofs.Common.{◌≡◌, ◌++◌, drop, take}
use Rattle.ks_log.specs.Reading.{visible_pairs}
use Rattle.ks_log.proofs.reading.visible_from.Given as goal

abbrev pub invariant-loop-i : goal.invariant-loop-i
invariant-loop-i l = l.made.items ++ take l.left (visible_pairs l.i (drop l.i l.visible) (drop l.i l.slots)) ≡ take l.limit (visible_pairs l.from (drop l.from l.visible) (drop l.from l.slots))
