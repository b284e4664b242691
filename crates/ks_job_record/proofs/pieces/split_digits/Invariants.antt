use Rattle.std.proofs.Common.{◌≡◌, length}
use Rattle.ks_job_record.specs.Plain.{IsDigits}
use Rattle.ks_job_record.specs.PlainGrammar.{number_at}
use Rattle.ks_job_record.proofs.PlainGrammar.{read_on}
use Rattle.ks_job_record.proofs.pieces.split_digits.Given as goal

abbrev pub invariant-loop-digit : goal.invariant-loop-digit
invariant-loop-digit l = record { digits : IsDigits l.bytes l.number l.rest; number : read_on 1000000000000000000 l.number l.rest ≡ number_at l.bytes }

abbrev pub decreases-loop-digit : goal.decreases-loop-digit
decreases-loop-digit l = length l.rest
