use Rattle.std.proofs.Common.{length}
use Rattle.ks_journal_line.proofs.values.+decimal_at.Given as goal

abbrev pub decreases-decimal_at : goal.decreases-decimal_at
decreases-decimal_at l = length l.text.now
