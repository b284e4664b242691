use Rattle.std.proofs.Common.{ℕ, ap, ap₂, sym, subst, ◌∙◌, length, ◌-◌}
use Rattle.std.specs.Prelude.{option_map}
use Rattle.std.specs.Global.{Vec}
use Rattle.std.specs.Map.Iter.{deref_pair}
use Rattle.ks_def_runs.specs.FinMap as fin
use Rattle.ks_def_runs.specs.Pairs.{ArePairs}
use Rattle.ks_store.specs.Pairs.{pairs_of}
use Rattle.ks_cache.specs.Lists.{overlaid}
use Rattle.std.specs.List.{take-map}
use Rattle.ks_cache.proofs.Entries.{Held, pair_of, none_last, last_written, bytes_take}
use Rattle.ks_cache.proofs.pairs.write_last.Goals as goal

pub returns-in_default-clause-none : goal.returns-in_default-clause-none
returns-in_default-clause-none g c u = ap pairs_of (none_last c.args.cache.now.entries (sym c.peek_lru.ensures ∙ ap (option_map (deref_pair {K = Vec ℕ} {X = Vec ℕ})) c.in_default.is))

pub returns-clause-same : goal.returns-clause-same
returns-clause-same g c =
    ap₂ overlaid (ap (λ (k : Held). pairs_of k.entries) c.pop_lru.ensures.entries)
    (c.in_ok-put.ensures.ok ∙ ap₂ (fin.insert (g.S.KvStore.contents c.args.store.now)) c.as_slice.ensures.value c.as_slice-2.ensures.value)
    ∙ last_written c.args.cache.now.entries (c.in-Some.key.now, c.in-Some.value.now) (g.S.KvStore.contents c.args.store.now) (sym c.in-Some.ensures)

pub returns-clause-bytes : goal.returns-clause-bytes
returns-clause-bytes g c h =
    subst ArePairs (sym (ap (λ (k : Held). pairs_of k.entries) c.pop_lru.ensures.entries ∙ sym (take-map pair_of (length c.args.cache.now.entries - 1) c.args.cache.now.entries)))
    (bytes_take (length c.args.cache.now.entries - 1) (pairs_of c.args.cache.now.entries) h)
