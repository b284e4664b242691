use Rattle.std.proofs.Common.{◌≡◌, ◌++◌, drop}
use Rattle.ks_history.specs.Step.{markers_for}
use Rattle.ks_txn.proofs.txn.markers.Given as goal

abbrev pub invariant-loop-part : goal.invariant-loop-part
invariant-loop-part l = l.made.items ++ markers_for l.epoch l.commit (drop l.part-index l.parts) ≡ markers_for l.epoch l.commit l.parts
