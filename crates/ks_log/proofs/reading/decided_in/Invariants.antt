use Rattle.std.proofs.Common.{◌≡◌, ◌≤◌, ◌++◌, drop, length}
use Rattle.ks_log.specs.Index.{marks_in}
use Rattle.ks_log.specs.Reading.{waiting_in, decided_pairs}
use Rattle.ks_log.proofs.reading.decided_in.Given as goal

abbrev pub invariant-loop-i : goal.invariant-loop-i
invariant-loop-i l =
    (l.made.items ++ decided_pairs (waiting_in l.producers l.part) l.i (drop l.i l.slots) ≡ decided_pairs (waiting_in l.producers l.part) 0 l.slots)
    × (drop l.passed l.marks ≡ marks_in (drop l.i l.slots)) × (l.passed ≤ length l.marks)
