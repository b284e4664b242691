use Rattle.std.proofs.Common.{ap, subst}
use Rattle.ks_def_runs.specs.FinMap as fin
use Rattle.ks_def_runs.specs.Pairs.{ArePairs}
use Rattle.ks_store.specs.Pairs.{pairs_of}
use Rattle.ks_cache.specs.Cached.{map_of}
use Rattle.ks_cache.proofs.Overlaid.{bytes_over}
use Rattle.ks_cache.proofs.cached_store.CachedStore+RestoringStore.holds_bytes.Goals as goal

pub returns : goal.returns
returns c = subst ArePairs (ap (λ s. fin.entries (map_of (λ m. m) s)) c.self.view_is)
    (bytes_over (pairs_of c.self.inside.cache.entries) c.self.inside.inner c.self.invariant.bytes c.holds_bytes.ensures)
