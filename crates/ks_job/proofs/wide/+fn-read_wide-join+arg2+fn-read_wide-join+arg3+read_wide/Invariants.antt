use Rattle.ks_job.proofs.wide.+fn-read_wide-join+arg2+fn-read_wide-join+arg3+read_wide.Given as goal

abbrev pub decreases-join+arg2 : goal.decreases-join+arg2
decreases-join+arg2 g l = l.fewer

abbrev pub decreases-join+arg3 : goal.decreases-join+arg3
decreases-join+arg3 g l = l.fewer

abbrev pub decreases-read_wide : goal.decreases-read_wide
decreases-read_wide g l = l.halvings
