use Rattle.std.proofs.Common.{◌≡◌, ◌+◌, length}
use Rattle.std.specs.List.{prefix_len}
use Rattle.ks_job_record.specs.Plain.{is_plain_byte}
use Rattle.ks_job_record.proofs.pieces.count_plain.Given as goal

abbrev pub invariant-loop-rest : goal.invariant-loop-rest
invariant-loop-rest l = record { found : l.count + prefix_len is_plain_byte l.rest ≡ prefix_len is_plain_byte l.bytes; room : l.count + length l.rest ≡ length l.bytes }

abbrev pub decreases-loop-rest : goal.decreases-loop-rest
decreases-loop-rest l = length l.rest
