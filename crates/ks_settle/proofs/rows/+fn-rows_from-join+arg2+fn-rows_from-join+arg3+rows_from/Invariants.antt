use Rattle.ks_settle.proofs.rows.+fn-rows_from-join+arg2+fn-rows_from-join+arg3+rows_from.Given as goal

abbrev pub decreases-join+arg2 : goal.decreases-join+arg2
decreases-join+arg2 g l = l.half

abbrev pub decreases-join+arg3 : goal.decreases-join+arg3
decreases-join+arg3 g l = l.rest

abbrev pub decreases-rows_from : goal.decreases-rows_from
decreases-rows_from g l = l.count
