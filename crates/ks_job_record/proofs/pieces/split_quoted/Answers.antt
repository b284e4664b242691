use Rattle.std.proofs.Common.{None, Some}
use Rattle.std.proofs.lemmas.List.Sums.{prefix_len-le-length}
use Rattle.ks_job_record.specs.Plain.{is_plain_byte}
use Rattle.ks_job_record.proofs.Spellings.{quoted}
use Rattle.ks_job_record.proofs.PlainGrammar.{quoted_found}
use Rattle.ks_job_record.proofs.pieces.split_quoted.Goals as goal

pub split_at-requires : goal.split_at-requires
split_at-requires c = rw c.count_plain.ensures (prefix_len-le-length is_plain_byte c.args.bytes.now)

pub returns-clause-sound : goal.returns-clause-sound
returns-clause-sound c = quoted c.args.bytes.now c.split_at.result.0.now c.split_at.result.1.now c.in_ok-behind.field-0.now c.count_plain.result c.count_plain.ensures c.split_at.ensures.front c.split_at.ensures.back c.in_ok-behind.ensures.sound

pub returns-clause-exact : goal.returns-clause-exact
returns-clause-exact c = quoted_found c.args.bytes.now c.split_at.result.0.now c.split_at.result.1.now c.count_plain.result (Some c.in_ok-behind.field-0.now) c.count_plain.ensures c.split_at.ensures.front c.split_at.ensures.back c.in_ok-behind.ensures.exact

pub returns-in_err-behind-clause-exact : goal.returns-in_err-behind-clause-exact
returns-in_err-behind-clause-exact c = rw c.from_residual.ensures (quoted_found c.args.bytes.now c.split_at.result.0.now c.split_at.result.1.now c.count_plain.result None c.count_plain.ensures c.split_at.ensures.front c.split_at.ensures.back c.in_err-behind.ensures.exact)
