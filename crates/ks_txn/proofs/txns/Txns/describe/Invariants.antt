use Rattle.std.proofs.Common.{◌≡◌, ◌++◌, drop}
use Rattle.ks_txn.proofs.txns.Txns.describe.Given as goal

abbrev pub invariant-loop-p : goal.invariant-loop-p
invariant-loop-p l = l.made.items ++ drop l.p-index l.self ≡ l.self
