use Rattle.ks_law_restated.proofs.Dropping.{late_pairs_are_dropped}
use Rattle.ks_law_restated.proofs.late_pairs.late_pairs_are_drops.Goals as goal

pub returns : goal.returns
returns c = late_pairs_are_dropped
