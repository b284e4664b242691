use Rattle.std.proofs.Common.{arith, ◌∙◌}
use Rattle.ks_job_record.proofs.Spellings.{one_digit, one_more_digit}
use Rattle.ks_job_record.proofs.PlainGrammar.{from_first, no_number, one_more, stops, at_end}
use Rattle.ks_job_record.proofs.pieces.split_digits.Goals as goal

pub returns-in_err-number-clause-exact : goal.returns-in_err-number-clause-exact
returns-in_err-number-clause-exact c = rw c.from_residual.ensures (no_number c.args.bytes.now c.in_err-number.ensures.exact)

pub loop-digit-init : goal.loop-digit-init
loop-digit-init c = record {
  digits = one_digit c.args.bytes.now c.in_ok-number.number c.in_ok-number.rest.now c.in_ok-number.ensures.sound;
  number = from_first c.args.bytes.now c.in_ok-number.number c.in_ok-number.rest.now c.in_ok-number.ensures.sound;
}

pub loop-digit-preserved : goal.loop-digit-preserved
loop-digit-preserved c = record {
  digits = one_more_digit c.args.bytes.now c.loop-digit.number c.loop-digit.rest.now c.in-Some.digit c.in-Some.more.now (omega (arith, c.if-number-eq0.false)) (omega (arith, c.if-number-ge100000000000000000.false)) c.loop-digit.invariant.digits c.in-Some.ensures.sound;
  number = one_more _ c.loop-digit.number c.loop-digit.rest.now c.in-Some.digit c.in-Some.more.now (omega (arith, c.if-number-eq0.false)) c.in-Some.ensures.sound ∙ c.loop-digit.invariant.number;
}

pub returns-then-number-eq0-clause-exact : goal.returns-then-number-eq0-clause-exact
returns-then-number-eq0-clause-exact c =
    stops c.loop-digit.number c.loop-digit.rest.now c.in-Some.digit c.in-Some.more.now c.then-number-eq0.either c.in-Some.ensures.sound ∙ c.loop-digit.invariant.number

pub returns-clause-exact : goal.returns-clause-exact
returns-clause-exact c =
    at_end _ c.loop-digit.number c.loop-digit.rest.now c.in_default.ensures.exact c.loop-digit.invariant.digits.small ∙ c.loop-digit.invariant.number
