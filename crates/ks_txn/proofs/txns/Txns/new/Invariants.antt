use Rattle.std.proofs.Common.{◌≡◌}
use Rattle.std.specs.Prelude.{replicate}
use Rattle.ks_history.specs.State.{new_producer}
use Rattle.ks_txn.proofs.txns.Txns.new.Given as goal

abbrev pub invariant-loop : goal.invariant-loop
invariant-loop l = l.producers.items ≡ replicate l.counter new_producer
