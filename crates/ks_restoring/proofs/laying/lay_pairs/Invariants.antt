use Rattle.std.proofs.Common.{◌≡◌, length}
use Rattle.ks_restoring.specs.Waiting.{overlaid}
use Rattle.ks_restoring.proofs.laying.lay_pairs.Given as goal

-- what is left over what is laid is the whole
abbrev pub invariant-loop-key : goal.invariant-loop-key
invariant-loop-key l = overlaid l.rest.items l.store ≡ overlaid l.fn.pairs.items l.fn.store

abbrev pub decreases-loop-key : goal.decreases-loop-key
decreases-loop-key l = length l.rest.items
