use Rattle.ks_law_settled.proofs.Times.{times_are_of_items, nothing_is_late}
use Rattle.ks_law_settled.proofs.in_time.records_in_time_are_never_late.Goals as goal

pub returns-clause-times : goal.returns-clause-times
returns-clause-times c = times_are_of_items

pub returns-clause-late : goal.returns-clause-late
returns-clause-late c = nothing_is_late
