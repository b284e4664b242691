use Rattle.ks_settle_report.proofs.collisions.+first_from+fn-first_from-join+arg2+fn-first_from-join+arg3.Given as goal

abbrev pub decreases-join+arg2 : goal.decreases-join+arg2
decreases-join+arg2 g l = l.half

abbrev pub decreases-join+arg3 : goal.decreases-join+arg3
decreases-join+arg3 g l = l.rest

abbrev pub decreases-first_from : goal.decreases-first_from
decreases-first_from g l = l.count
