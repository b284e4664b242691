use Rattle.ks_job_record.proofs.PlainGrammar.{no_text}
use Rattle.ks_job_record.proofs.pieces.split_field.Goals as goal

pub returns-in_err-text-in-Some-clause-exact : goal.returns-in_err-text-in-Some-clause-exact
returns-in_err-text-in-Some-clause-exact c =
    rw c.from_residual.ensures (no_text c.args.bytes.now c.in-Some.text.now c.in-Some.ensures.sound c.in_err-text-in-Some.ensures.exact)
