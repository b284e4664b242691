use Rattle.std.proofs.Common.{ap, ◌∙◌}
use Rattle.ks_def_runs.specs.FinMap as fin
use Rattle.ks_store.specs.Pairs.{pairs_of}
use Rattle.ks_cache.specs.Cached.{map_of}
use Rattle.ks_cache.proofs.Overlaid.{found_over, none_over}
use Rattle.ks_cache.proofs.cached_store.CachedStoreKvStore.get.Goals as goal

pub returns-in-Some : goal.returns-in-Some
returns-in-Some g c =
    found_over (pairs_of c.self.inside.cache.entries) (g.S.KvStore.contents c.self.inside.inner) c.args.key.now c.in-Some.value.now c.in-Some.ensures
    ∙ ap (λ s. fin.get (map_of g.S.KvStore.contents s) c.args.key.now) c.self.view_is

pub returns-in-None : goal.returns-in-None
returns-in-None g c =
    c.get.ensures ∙ (none_over (pairs_of c.self.inside.cache.entries) (g.S.KvStore.contents c.self.inside.inner) c.args.key.now c.in-None.ensures
    ∙ ap (λ s. fin.get (map_of g.S.KvStore.contents s) c.args.key.now) c.self.view_is)
