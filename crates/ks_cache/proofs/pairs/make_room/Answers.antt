use Rattle.std.proofs.Common.{ap, sym, ◌∙◌, ◌-◌}
use Rattle.ks_store.specs.Pairs.{pairs_of}
use Rattle.ks_store.proofs.Applied.{on_ok}
use Rattle.ks_cache.specs.Lists.{Pairs, overlaid}
use Rattle.ks_cache.proofs.Entries.{there_some, there_none, through_there, through_absent, under_again, either}
use Rattle.ks_cache.proofs.pairs.make_room.Goals as goal

pub returns-then-is_some-clause-ok : goal.returns-then-is_some-clause-ok
returns-then-is_some-clause-ok g c value =
    let k = c.args.cache.now in
    let found = there_some c.value_in.result _ c.value_in.ensures (sym c.is_some.ensures ∙ c.if-is_some.true) in
    sym (ap (λ (l : Pairs). overlaid l (g.S.KvStore.contents c.args.store.now)) (through_there k.cap c.args.key.now value k.entries found.0 c.len-len.ensures.valid.0 c.len-len.ensures.valid.1 found.1))

pub returns-clause-ok : goal.returns-clause-ok
returns-clause-ok g c value =
    let k = c.args.cache.now in
    let none = there_none c.value_in.result _ c.value_in.ensures (sym c.is_some.ensures ∙ c.if-is_some.false) in
    on_ok c.write_last_where_full.result
    (λ e. e ∙ ap (λ (l : Pairs). overlaid l (g.S.KvStore.contents c.args.store.now)) (sym (through_absent k.cap c.args.key.now value k.entries c.len-len.ensures.valid.2 none)))
    c.write_last_where_full.ensures.ok

pub returns-clause-same : goal.returns-clause-same
returns-clause-same g c =
    let k = c.args.cache.now in
    either c.write_last_where_full.result c.write_last_where_full.ensures.ok c.write_last_where_full.ensures.err
    (λ e. ap (overlaid (pairs_of k.entries)) e ∙ under_again (k.cap - 1) (pairs_of k.entries) (g.S.KvStore.contents c.args.store.now))
    (λ e. ap (overlaid (pairs_of k.entries)) e)
