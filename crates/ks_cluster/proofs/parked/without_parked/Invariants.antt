use Rattle.std.proofs.Common.{◌≡◌, ◌++◌, drop}
use Rattle.ks_cluster.specs.ParkedPairs.{unparked_in}
use Rattle.ks_cluster.proofs.parked.without_parked.Given as goal

abbrev pub invariant-loop-pair : goal.invariant-loop-pair
invariant-loop-pair l = l.made.items ++ unparked_in l.instance l.task (drop l.pair-index l.parked) ≡ unparked_in l.instance l.task l.parked
