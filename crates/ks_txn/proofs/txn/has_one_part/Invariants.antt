use Rattle.std.proofs.Common.{◌≡◌, drop}
use Rattle.ks_history.specs.State.{has_part}
use Rattle.ks_txn.proofs.txn.has_one_part.Given as goal

abbrev pub invariant-loop-other : goal.invariant-loop-other
invariant-loop-other l = has_part l.part (drop l.other-index l.parts) ≡ has_part l.part l.parts
