use Rattle.ks_store.proofs.Fronts.{Walked}
use Rattle.ks_store.proofs.pairs.pairs_from.Given as goal

abbrev pub invariant-loop-key : goal.invariant-loop-key
invariant-loop-key l = Walked l.front l.pairs.entries l.found.items l.key-iterator
