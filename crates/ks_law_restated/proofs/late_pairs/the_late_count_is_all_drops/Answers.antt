use Rattle.ks_law_restated.proofs.Totals.{late_is_dropped, late_count_is_dropped}
use Rattle.ks_law_restated.proofs.late_pairs.the_late_count_is_all_drops.Goals as goal

pub returns-clause-total : goal.returns-clause-total
returns-clause-total c = late_is_dropped

pub returns-clause-state : goal.returns-clause-state
returns-clause-state c = late_count_is_dropped
