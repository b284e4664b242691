use Rattle.std.proofs.Common.{◌≡◌, length}
use Rattle.ks_settle.specs.Windows.{put_pairs}
use Rattle.ks_settle.proofs.windows.put_pairs.Given as goal

-- the windows so far, with the pairs that are left
abbrev pub invariant-loop-rest : goal.invariant-loop-rest
invariant-loop-rest l = put_pairs l.windows.entries l.rest ≡ put_pairs l.fn.windows.entries l.pairs

abbrev pub decreases-loop-rest : goal.decreases-loop-rest
decreases-loop-rest l = length l.rest
