use Rattle.std.proofs.Common.{◌≡◌, length}
use Rattle.ks_def_runs.specs.Pairs.{ArePairs}
use Rattle.ks_store.specs.Pairs.{pairs_of}
use Rattle.ks_cache.specs.Lists.{overlaid}
use Rattle.ks_cache.proofs.pairs.write_all.Given as goal

abbrev pub invariant-loop : goal.invariant-loop
invariant-loop g l = record {
  same : overlaid (pairs_of l.cache.entries) (g.S.KvStore.contents l.store) ≡ overlaid (pairs_of l.fn.cache.entries) (g.S.KvStore.contents l.fn.store);
  bytes : ArePairs (pairs_of l.fn.cache.entries) → ArePairs (pairs_of l.cache.entries);
  cap : l.cache.cap ≡ l.fn.cache.cap;
}

abbrev pub decreases-loop : goal.decreases-loop
decreases-loop g l = length l.cache.entries
