use Rattle.std.proofs.Common.{◌≡◌, ◌++◌, length}
use Rattle.ks_store.specs.Calls.{replies_to, after_calls}
use Rattle.ks_cache.specs.Cached.{map_of}
use Rattle.ks_cache.specs.Calls.{cached_by_all, below_by_all}
use Rattle.ks_cache.proofs.calls.run_cached.Given as goal

-- what the calls that are left make of it is what all of them make of what it was
abbrev pub invariant-loop-rest : goal.invariant-loop-rest
invariant-loop-rest g l =
    let s = g.S.KvStore.contents in
    (l.replies.items ++ replies_to (map_of s l.store) l.rest ≡ replies_to (map_of s l.fn.store) l.calls)
    × (after_calls (map_of s l.store) l.rest ≡ after_calls (map_of s l.fn.store) l.calls)
    × (cached_by_all l.store.capacity l.store.cached l.rest ≡ cached_by_all l.fn.store.capacity l.fn.store.cached l.calls)
    × (below_by_all l.store.capacity l.store.cached (s l.store.inner) l.rest ≡ below_by_all l.fn.store.capacity l.fn.store.cached (s l.fn.store.inner) l.calls)
    × (l.store.capacity ≡ l.fn.store.capacity)

abbrev pub decreases-loop-rest : goal.decreases-loop-rest
decreases-loop-rest g l = length l.rest
