use Rattle.std.proofs.Common.{◌≡◌, ◌≤◌, ap, ap₂, sym, ◌∙◌, length, arith}
use Rattle.ks_def_runs.specs.FinMap as fin
use Rattle.ks_store.proofs.Applied.{on_ok}
use Rattle.ks_cache.specs.Lists.{Pairs, overlaid}
use Rattle.ks_cache.proofs.Entries.{none_last, last_dropped}
use Rattle.ks_cache.proofs.pairs.write_last_where_full.Goals as goal

pub returns-in-Some-clause-ok : goal.returns-in-Some-clause-ok
returns-in-Some-clause-ok g c =
    let k = c.args.cache.now in
    let m = g.S.KvStore.contents c.args.store.now in
    let low : k.cap ≤ length k.entries = omega (arith, c.if-len-get.false, c.get.ensures.value, c.cap.ensures, c.len.ensures.len) in
    on_ok c.put.result
    (λ e. e ∙ (ap₂ (fin.insert m) c.as_slice.ensures.value c.as_slice-in-Some.ensures.value
    ∙ sym (ap (λ (l : Pairs). overlaid l m) (last_dropped k.cap k.entries (c.in-Some.key.now, c.in-Some.value.now) low c.len.ensures.valid.1 c.len.ensures.valid.2 (sym c.in-Some.ensures)))))
    c.put.ensures.ok

pub returns-in-None-clause-ok : goal.returns-in-None-clause-ok
returns-in-None-clause-ok g c =
    let k = c.args.cache.now in
    let none : length k.entries ≡ 0 = ap length (none_last k.entries (sym c.in-None.ensures)) in
    absurd (omega (arith, none, c.if-len-get.false, c.get.ensures.value, c.cap.ensures, c.len.ensures.len, c.len.ensures.valid.2))
