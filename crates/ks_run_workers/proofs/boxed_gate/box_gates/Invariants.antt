use Rattle.std.proofs.Common.{◌≡◌, ◌+◌, length}
use Rattle.std.specs.Vec.Iter.{into_iter_items, into_iter_len}
use Rattle.ks_run_workers.proofs.boxed_gate.box_gates.Given as goal

abbrev pub invariant-loop-gate : goal.invariant-loop-gate
invariant-loop-gate g l = length l.boxed.items + length (into_iter_items l.rest) ≡ length l.fn.gates.items

abbrev pub decreases-loop-gate : goal.decreases-loop-gate
decreases-loop-gate g l = into_iter_len l.rest
