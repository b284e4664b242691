use Rattle.std.proofs.Common.{◌≡◌, ◌+◌, length}
use Rattle.ks_job_record.specs.Record.{place_of}
use Rattle.ks_job_record.proofs.record.find_topic.Given as goal

abbrev pub invariant-loop-rest : goal.invariant-loop-rest
invariant-loop-rest l = record { found : place_of l.i l.topic l.rest ≡ place_of 0 l.topic l.topics; count : l.i + length l.rest ≡ length l.topics }

abbrev pub decreases-loop-rest : goal.decreases-loop-rest
decreases-loop-rest l = length l.rest
