use Rattle.std.proofs.Common.{rules}
use Rattle.ks_growing.proofs.TurnSteps.{enters, enters_last}
use Rattle.ks_growing.proofs.turns.take_turn.Goals as goal

pub compare_exchange-turn-requires : goal.compare_exchange-turn-requires
compare_exchange-turn-requires g c = (
  search rules,
  search rules,
  enters g.T.Journaled.journal g.T.Journaled.reserved g.T.Journaled.frame _ _ _ _ _ (search rules),
)

pub swap-found-requires : goal.swap-found-requires
swap-found-requires g c = (
  search rules,
  search rules,
  enters_last g.T.Journaled.journal g.T.Journaled.reserved g.T.Journaled.frame _ _ _ _ _ (search rules),
)
