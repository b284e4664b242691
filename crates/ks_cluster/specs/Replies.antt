-- Outcomes as replies.
use Rattle.std.specs.Prelude.{ℕ, Bool, Result, Ok, Err}
use Rattle.ks_record.specs.declared.assignment.Refused.{Refused}
use Rattle.ks_history.specs.declared.journal.Reply.{Reply}
use Rattle.ks_history.specs.declared.journal.Reply.TheVariants.{Done, Number, Truth, Refused as Refuse}

abbrev pub done_or : Result (Unit {0}) Refused → Reply
done_or (Ok u) = Done
done_or (Err refused) = Refuse refused

abbrev pub number_or : Result ℕ Refused → Reply
number_or (Ok n) = Number n
number_or (Err refused) = Refuse refused

abbrev pub truth_or : Result Bool Refused → Reply
truth_or (Ok b) = Truth b
truth_or (Err refused) = Refuse refused
