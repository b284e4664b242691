use Rattle.ks_topo.proofs.Sorting.{past_all}
use Rattle.ks_topo.proofs.topology.judge_shape.Goals as goal

pub counts_of-requires : goal.counts_of-requires
counts_of-requires c = past_all c.args.draft.now.topics c.as_slice.result.now c.in_ok-sorted.sorted.items c.deref.result.now c.as_slice.ensures c.in_ok-sorted.ensures.items c.deref.ensures.value c.in_ok-judge_sizes.ensures.counts
