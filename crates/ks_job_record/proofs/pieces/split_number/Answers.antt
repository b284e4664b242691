use Rattle.ks_job_record.proofs.PlainGrammar.{negative_found}
use Rattle.ks_job_record.proofs.pieces.split_number.Goals as goal

pub returns-in-Some-clause-exact : goal.returns-in-Some-clause-exact
returns-in-Some-clause-exact c = negative_found c.args.bytes.now c.in-Some.digits.now _ c.in-Some.ensures.sound c.split_negative.ensures.exact
