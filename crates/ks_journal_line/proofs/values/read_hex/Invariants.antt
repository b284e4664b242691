use Rattle.std.proofs.Common.{◌≡◌, length}
use Rattle.ks_journal.specs.Reading.{bytes_onto, bytes_from}
use Rattle.ks_journal_line.proofs.values.read_hex.Given as goal

abbrev pub invariant-loop-rest : goal.invariant-loop-rest
invariant-loop-rest l = bytes_onto l.bytes.items l.rest ≡ bytes_from l.text

abbrev pub decreases-loop-rest : goal.decreases-loop-rest
decreases-loop-rest l = length l.rest
