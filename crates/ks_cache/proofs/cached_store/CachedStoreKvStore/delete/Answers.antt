use Rattle.std.proofs.Common.{not, ap, ap₂, sym, subst, ◌∙◌}
use Rattle.std.specs.Ordering.{eq_by_cmp}
use Rattle.ks_def_runs.specs.Bytes.{by_bytes}
use Rattle.ks_def_runs.specs.FinMap as fin
use Rattle.ks_def_runs.specs.Pairs.{ArePairs}
use Rattle.ks_store.specs.Pairs.{pairs_of}
use Rattle.ks_store.proofs.Trees.{bytes_where}
use Rattle.ks_cache.specs.Lists.{overlaid}
use Rattle.ks_cache.specs.Cached.{map_of}
use Rattle.ks_cache.proofs.Entries.{is_there}
use Rattle.ks_cache.proofs.Overlaid.{delete_over, counted_off}
use Rattle.ks_cache.proofs.cached_store.CachedStoreKvStore.delete.Goals as goal

pub invariant_of-self : goal.invariant_of-self
invariant_of-self g c =
    let es = pairs_of c.self.inside.cache.entries in
    let m = g.S.KvStore.contents c.self.inside.inner in
    let key = c.args.key.now in
    record {
      counted = counted_off (overlaid es m) (overlaid (pairs_of c.take_out.new.cache.entries) (g.S.KvStore.contents c.delete.new.self)) key c.self.inside.count c.count_off-self-inside.result c.is_some-is_there.result
          c.self.invariant.counted
          (c.is_some-is_there.ensures ∙ is_there c.get.result _ (c.get.ensures ∙ sym (ap (λ s. fin.get (map_of g.S.KvStore.contents s) key) c.self.view_is)))
          c.count_off-self-inside.ensures
          (ap₂ overlaid c.take_out.ensures.pairs c.delete.ensures ∙ delete_over key es m);
      bytes = subst ArePairs (sym c.take_out.ensures.pairs) (bytes_where (λ k. not (eq_by_cmp by_bytes key k)) es c.self.invariant.bytes);
    }

pub returns-clause-map : goal.returns-clause-map
returns-clause-map g c =
    ap₂ overlaid c.take_out.ensures.pairs c.delete.ensures ∙ (delete_over c.args.key.now (pairs_of c.self.inside.cache.entries) (g.S.KvStore.contents c.self.inside.inner)
    ∙ ap (λ s. fin.remove (map_of g.S.KvStore.contents s) c.args.key.now) c.self.view_is)
