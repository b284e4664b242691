use Rattle.std.proofs.Common.{◌≡◌, drop}
use Rattle.ks_cluster.specs.ParkedPairs.{is_parked_in}
use Rattle.ks_cluster.proofs.parked.is_parked.Given as goal

abbrev pub invariant-loop-pair : goal.invariant-loop-pair
invariant-loop-pair l = is_parked_in l.instance l.task (drop l.pair-index l.parked) ≡ is_parked_in l.instance l.task l.parked
