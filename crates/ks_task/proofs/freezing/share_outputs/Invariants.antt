use Rattle.std.proofs.Common.{◌≡◌, ◌++◌}
use Rattle.std.specs.Vec.Iter.{into_iter_items, into_iter_len}
use Rattle.ks_task.proofs.freezing.share_outputs.Given as goal

abbrev pub invariant-loop-out : goal.invariant-loop-out
invariant-loop-out l = l.shared.items ++ into_iter_items l.rest ≡ l.fn.outs.items

abbrev pub decreases-loop-out : goal.decreases-loop-out
decreases-loop-out l = into_iter_len l.rest
