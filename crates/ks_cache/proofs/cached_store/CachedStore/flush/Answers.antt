use Rattle.std.proofs.Common.{ap, sym, ◌∙◌}
use Rattle.ks_def_runs.specs.Bytes.{Store}
use Rattle.ks_def_runs.specs.FinMap as fin
use Rattle.ks_cache.proofs.cached_store.CachedStore.flush.Goals as goal

pub invariant_of-self : goal.invariant_of-self
invariant_of-self g c = record {
  counted = c.self.invariant.counted ∙ ap (λ (m : Store). fin.len m) (sym c.write_all.ensures.same);
  bytes = c.write_all.ensures.bytes c.self.invariant.bytes;
}
