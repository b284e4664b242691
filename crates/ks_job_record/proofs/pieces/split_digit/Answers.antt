use Rattle.std.proofs.Common.{true, false, sym, ◌∙◌}
use Rattle.ks_job_record.proofs.PlainGrammar.{digit_found, digit_missing}
use Rattle.ks_job_record.proofs.pieces.split_digit.Goals as goal

pub returns-in_default-clause-exact : goal.returns-in_default-clause-exact
returns-in_default-clause-exact c = digit_missing c.args.bytes.now c.in_default.len_below

pub returns-then-is_ascii_digit-clause-exact : goal.returns-then-is_ascii_digit-clause-exact
returns-then-is_ascii_digit-clause-exact c =
    digit_found c.args.bytes.now true c.in-len1-up.len_at_least (sym c.if-is_ascii_digit.true ∙ c.is_ascii_digit.ensures.value)

pub returns-else-is_ascii_digit-clause-exact : goal.returns-else-is_ascii_digit-clause-exact
returns-else-is_ascii_digit-clause-exact c =
    digit_found c.args.bytes.now false c.in-len1-up.len_at_least (sym c.if-is_ascii_digit.false ∙ c.is_ascii_digit.ensures.value)
