use Rattle.std.proofs.Common.{◌≡◌, ◌≤◌, length, take}
use Rattle.ks_history.specs.Touched.{touched}
use Rattle.ks_shared.proofs.touched.touched_in.Given as goal

abbrev pub invariant-loop-count : goal.invariant-loop-count
invariant-loop-count l = (l.count ≤ length l.entries) × (touched l.w l.entries ≡ touched l.w (take l.count l.entries))

abbrev pub decreases-loop-count : goal.decreases-loop-count
decreases-loop-count l = l.count
