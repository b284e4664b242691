use Rattle.std.proofs.Common.{◌≡◌, drop}
use Rattle.ks_log.specs.Index.{mark_among}
use Rattle.ks_log.proofs.marks.mark_in.Given as goal

abbrev pub invariant-loop-mark : goal.invariant-loop-mark
invariant-loop-mark l = mark_among l.w l.epoch (drop l.mark-index l.marks) ≡ mark_among l.w l.epoch l.marks
