use Rattle.std.proofs.Common.{◌≡◌, length}
use Rattle.ks_store.specs.Pairs.{pairs_of}
use Rattle.ks_cache.specs.Lists.{overlaid, under}
use Rattle.ks_cache.proofs.overlay.lay_cached.Given as goal

abbrev pub invariant-loop-key : goal.invariant-loop-key
invariant-loop-key l = overlaid (under l.front (pairs_of l.rest)) l.store ≡ overlaid (under l.front (pairs_of l.fn.cache.entries)) l.fn.store

abbrev pub decreases-loop-key : goal.decreases-loop-key
decreases-loop-key l = length l.rest
