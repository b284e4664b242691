use Rattle.std.proofs.Common.{◌≡◌, ◌≤◌, ◌++◌, drop, length}
use Rattle.std.specs.Prelude.{vec_capacity}
use Rattle.ks_log.specs.Index.{visible_in, marks_in}
use Rattle.ks_log.proofs.part.extend_visible.Given as goal

abbrev pub invariant-loop-i : goal.invariant-loop-i
invariant-loop-i l =
    (l.visible.items ++ visible_in (drop l.i l.slots) ≡ l.fn.visible.items ++ visible_in (drop (length l.fn.visible.items) l.slots))
    × (drop l.passed l.marks ≡ marks_in (drop l.i l.slots)) × (l.passed ≤ length l.marks) × (length l.visible.items ≡ l.i) × (length l.slots ≤ vec_capacity l.visible)
