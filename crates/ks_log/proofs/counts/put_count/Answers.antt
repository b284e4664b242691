use Rattle.std.proofs.Common.{◌≡◌, ◌<◌, ◌≤◌, length, set, get_or, sym, ap, ◌∙◌, arith}
use Rattle.ks_log.specs.declared.counts.Counted.{Counted}
use Rattle.ks_log.specs.Index.{count_place}
use Rattle.ks_log.proofs.Counting.{counted_put-there, counted_put-new}
use Rattle.ks_log.proofs.counts.put_count.Goals as goal

pub returns-then-at-len : goal.returns-then-at-len
returns-then-at-len c =
    let at = c.place_of-at.ensures ∙ ap (count_place c.args.w c.args.epoch) c.as_slice.ensures.value in
    let beyond : length c.args.counts.now.items ≤ count_place c.args.w c.args.epoch c.args.counts.now.items = omega (arith, at, c.if-at-len.true, c.len.ensures, c.args.counts.now.ok.0) in
    c.push_reserved.ensures.items ∙ sym (counted_put-new c.args.w c.args.epoch c.args.count c.args.counts.now.items beyond)

pub returns : goal.returns
returns c =
    let counts = c.args.counts.now.items in
    let kept = c.index_mut-kept.result.now in
    let at = c.place_of-at.ensures ∙ ap (count_place c.args.w c.args.epoch) c.as_slice.ensures.value in
    let there : count_place c.args.w c.args.epoch counts < length counts = omega (arith, at, c.if-at-len.false, c.len.ensures, c.args.counts.now.ok.0) in
    ap (λ (k : Counted). set counts c.place_of-at.result (record k { count = c.args.count })) c.index_mut-kept.ensures.value
    ∙ ap (λ n. set counts n (record (get_or counts n kept) { count = c.args.count })) at
    ∙ sym (counted_put-there c.args.w c.args.epoch c.args.count counts kept there)
