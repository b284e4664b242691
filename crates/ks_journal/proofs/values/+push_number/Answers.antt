use Rattle.std.proofs.Common.{arith}
use Rattle.std.proofs.lemmas.Result.{on_ok_weaker}
use Rattle.ks_journal.proofs.Appends.{number_pushed}
use Rattle.ks_journal.proofs.values.+push_number.Goals as goal

pub returns : goal.returns
returns t c = on_ok_weaker c.push_digit-2.result (number_pushed _ _ _ c.args.number c.if-number-lt10.false (omega (arith, c.ranges.number.fits)) c.in_ok-push_number.ensures) c.push_digit-2.ensures
