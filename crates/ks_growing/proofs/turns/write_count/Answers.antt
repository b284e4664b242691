use Rattle.std.proofs.Common.{rules}
use Rattle.ks_growing.proofs.TurnSteps.{counts}
use Rattle.ks_growing.proofs.turns.write_count.Goals as goal

pub store-requires : goal.store-requires
store-requires g c = (search rules, search rules, counts g.T.Journaled.journal g.T.Journaled.reserved g.T.Journaled.frame _ _ _ _ _ _ c.requires.holds.0 c.requires.holds.1)
