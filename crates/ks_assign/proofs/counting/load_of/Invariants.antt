use Rattle.std.proofs.Common.{◌≡◌, ◌+◌, ◌≤◌, drop}
use Rattle.ks_assign.specs.Placement.{load}
use Rattle.ks_assign.proofs.counting.load_of.Given as goal

abbrev pub invariant-loop-p : goal.invariant-loop-p
invariant-loop-p l = (l.n + load l.worker (drop l.p-index l.places) ≡ load l.worker l.places) × (l.n ≤ l.p-index)
