use Rattle.std.proofs.Common.{◌≡◌, length}
use Rattle.ks_journal.specs.Replies.{is_among}
use Rattle.ks_journal_line.proofs.replies.is_among.Given as goal

abbrev pub invariant-loop-rest : goal.invariant-loop-rest
invariant-loop-rest l = is_among l.number l.rest ≡ is_among l.number l.names

abbrev pub decreases-loop-rest : goal.decreases-loop-rest
decreases-loop-rest l = length l.rest
