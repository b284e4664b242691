use Rattle.ks_run_output.proofs.printing.+fn-print_wide-join+arg2+fn-print_wide-join+arg3+print_wide.Given as goal

abbrev pub decreases-join+arg2 : goal.decreases-join+arg2
decreases-join+arg2 g l = l.fewer

abbrev pub decreases-join+arg3 : goal.decreases-join+arg3
decreases-join+arg3 g l = l.fewer

abbrev pub decreases-print_wide : goal.decreases-print_wide
decreases-print_wide g l = l.halvings
