use Rattle.std.proofs.Common.{rules}
use Rattle.ks_job_record.proofs.PlainFronts.{end_is}
use Rattle.ks_job_record.proofs.plain.read_end.Goals as goal

pub returns-then-eq-2-clause-sound : goal.returns-then-eq-2-clause-sound
returns-then-eq-2-clause-sound c = end_is c.args.bytes.now c.in_ok-after.field-0.now c.in_ok-time.rest.now c.in_ok-time.time c.in_ok-after.ensures.sound c.in_ok-time.ensures.sound (search rules) (search rules)
