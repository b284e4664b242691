use Rattle.std.proofs.Common.{length}
use Rattle.std.specs.List.{AllByRecursion}
use Rattle.ks_journal.specs.Fits.{FitsPair}
use Rattle.ks_journal_line.proofs.fits.pairs_fit.Given as goal

-- what is left fits only if all does: where nothing is left, all does
abbrev pub invariant-loop-rest : goal.invariant-loop-rest
invariant-loop-rest l = AllByRecursion FitsPair l.rest → AllByRecursion FitsPair l.pairs

abbrev pub decreases-loop-rest : goal.decreases-loop-rest
decreases-loop-rest l = length l.rest
