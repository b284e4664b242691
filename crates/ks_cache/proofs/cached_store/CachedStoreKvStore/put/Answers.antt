use Rattle.std.proofs.Common.{not, ap, ap₂, sym, subst, ◌∙◌, arith}
use Rattle.std.specs.Ordering.{eq_by_cmp}
use Rattle.ks_def_runs.specs.Bytes.{by_bytes}
use Rattle.ks_def_runs.specs.FinMap as fin
use Rattle.ks_record.specs.Bytes.{IsBytes}
use Rattle.ks_def_runs.specs.Pairs.{ArePairs}
use Rattle.ks_store.specs.Pairs.{pairs_of}
use Rattle.ks_store.proofs.Trees.{bytes_where}
use Rattle.ks_cache.specs.Lists.{overlaid, put_cached}
use Rattle.ks_cache.specs.Cached.{map_of}
use Rattle.ks_cache.proofs.Entries.{is_there, bytes_take}
use Rattle.ks_cache.proofs.Overlaid.{put_map, counted_on}
use Rattle.ks_cache.proofs.cached_store.CachedStoreKvStore.put.Goals as goal

pub invariant_of-self-2 : goal.invariant_of-self-2
invariant_of-self-2 g c =
    let es = pairs_of c.self.inside.cache.entries in
    let m = g.S.KvStore.contents c.self.inside.inner in
    let key = c.args.key.now in
    record {
      counted = counted_on (overlaid es m) (overlaid (pairs_of c.put_first.new.cache.entries) (g.S.KvStore.contents c.make_room.new.store)) key c.args.value.now c.self.inside.count c.in_ok-count.count c.is_some-is_there.result
          c.self.invariant.counted
          (c.is_some-is_there.ensures ∙ is_there c.get.result _ (c.get.ensures ∙ sym (ap (λ s. fin.get (map_of g.S.KvStore.contents s) key) c.self.view_is)))
          c.in_ok-count.ensures
          (ap₂ overlaid (c.in_ok-put_first.ensures.ok ∙ ap₂ (λ a b. put_cached c.self.inside.cache.cap a b es) c.in_ok-first.ensures.items c.in_ok-newest.ensures.items) (c.in_ok-make_room.ensures.ok c.args.value.now)
          ∙ put_map c.self.inside.cache.cap key c.args.value.now es m);
      bytes = subst ArePairs (sym c.in_ok-put_first.ensures.ok)
          (bytes_take c.self.inside.cache.cap _ (
            (subst IsBytes (sym c.in_ok-first.ensures.items) (λ i. omega (arith, c.type_inv.key i)), subst IsBytes (sym c.in_ok-newest.ensures.items) (λ i. omega (arith, c.type_inv.value i))),
            bytes_where (λ k. not (eq_by_cmp by_bytes c.in_ok-first.first.items k)) es c.self.invariant.bytes,
          ));
    }

pub returns-clause-ok : goal.returns-clause-ok
returns-clause-ok g c =
    let es = pairs_of c.self.inside.cache.entries in
    let m = g.S.KvStore.contents c.self.inside.inner in
    ap₂ overlaid (c.in_ok-put_first.ensures.ok ∙ ap₂ (λ a b. put_cached c.self.inside.cache.cap a b es) c.in_ok-first.ensures.items c.in_ok-newest.ensures.items) (c.in_ok-make_room.ensures.ok c.args.value.now)
    ∙ (put_map c.self.inside.cache.cap c.args.key.now c.args.value.now es m
    ∙ ap (λ s. fin.insert (map_of g.S.KvStore.contents s) c.args.key.now c.args.value.now) c.self.view_is)
