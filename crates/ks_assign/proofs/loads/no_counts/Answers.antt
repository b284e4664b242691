use Rattle.std.proofs.lemmas.List.{get_or-replicate}
use Rattle.ks_assign.proofs.loads.no_counts.Goals as goal

pub returns-clause-zero : goal.returns-clause-zero
returns-clause-zero c i below = get_or-replicate 257 i 0 0 below
