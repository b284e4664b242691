use Rattle.std.proofs.Common.{◌≡◌, ap, ap₂, subst, ◌∙◌}
use Rattle.std.specs.Prelude.{IfOk}
use Rattle.ks_store.specs.Pairs.{pairs_of}
use Rattle.ks_def_runs.specs.Prefixes.{pairs_under}
use Rattle.ks_cache.specs.Lists.{Pairs, overlaid, under}
use Rattle.ks_cache.specs.Cached.{map_of}
use Rattle.ks_cache.proofs.Prefixes.{laid}
use Rattle.ks_cache.proofs.cached_store.CachedStoreKvStore.prefix.Goals as goal

pub returns : goal.returns
returns g c =
    let es = pairs_of c.self.inside.cache.entries in
    let m = g.S.KvStore.contents c.self.inside.inner in
    let front = c.args.front.now in
    subst (λ (l : Pairs). IfOk c.prefix-2.result (λ v. v.items ≡ l))
    (ap (pairs_under front) (c.in_ok-lay_cached.ensures ∙ ap (overlaid (under front es)) (c.in_ok-lay_pairs.ensures ∙ ap₂ overlaid c.in_ok-prefix.ensures c.new-merged.ensures))
    ∙ (laid front es m ∙ ap (λ s. pairs_under front (map_of g.S.KvStore.contents s)) c.self.view_is))
    c.prefix-2.ensures
