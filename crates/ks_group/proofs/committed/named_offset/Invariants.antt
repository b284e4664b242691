use Rattle.std.proofs.Common.{◌≡◌, drop}
use Rattle.ks_history.specs.State.{offset_in}
use Rattle.ks_group.proofs.committed.named_offset.Given as goal

abbrev pub invariant-loop-pair : goal.invariant-loop-pair
invariant-loop-pair l = offset_in l.old l.topic (drop l.pair-index l.offsets) ≡ offset_in l.old l.topic l.offsets
