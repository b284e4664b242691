use Rattle.std.proofs.Common.{drop}
use Rattle.std.specs.List.{AllByRecursion}
use Rattle.ks_journal.specs.Fits.{FitsRec}
use Rattle.ks_journal_line.proofs.fits.recs_fit.Given as goal

-- what is left fits only if all does: where nothing is left, all does
abbrev pub invariant-loop-place : goal.invariant-loop-place
invariant-loop-place l = AllByRecursion FitsRec (drop l.place l.recs) → AllByRecursion FitsRec l.recs
