use Rattle.std.proofs.Common.{◌∷◌, [], length, length-append, ap, arith, rules}
use Rattle.ks_topo.proofs.Sorting.{next_within, counted_on}
use Rattle.ks_topo.proofs.infos.counts_of.Goals as goal

pub to_count-requires : goal.to_count-requires
to_count-requires c =
    let within = (next_within c.args.topics.now c.loop-topic.topic-index c.loop-topic-item.result c.loop-topic-test.true c.loop-topic-item.is c.loop-topic.invariant.within).0 in
    search (rules, within)

pub loop-topic-preserved : goal.loop-topic-preserved
loop-topic-preserved c =
    let ts = c.args.topics.now in
    let i = c.loop-topic.topic-index in
    let counts = c.loop-topic.counts.items in
    let x = c.loop-topic-item.result in
    record {
      found = counted_on ts i x counts c.push.new.self.items c.to_count.result c.loop-topic-test.true c.loop-topic-item.is (search rules) c.in_ok-push.ensures.items c.loop-topic.invariant.found;
      within = (next_within ts i x c.loop-topic-test.true c.loop-topic-item.is c.loop-topic.invariant.within).1;
      count = omega (arith, ap length c.in_ok-push.ensures.items, length-append counts (c.to_count.result ∷ []), c.loop-topic.invariant.count);
    }
