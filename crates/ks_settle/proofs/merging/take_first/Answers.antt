use Rattle.std.proofs.Common.{sym, ◌∙◌}
use Rattle.ks_settle.proofs.NextRow.{take_less}
use Rattle.ks_settle.proofs.merging.take_first.Goals as goal

pub returns-in-Less-clause-rows : goal.returns-in-Less-clause-rows
returns-in-Less-clause-rows c = take_less _ _ _ c.pop_front.result (sym c.first_of.ensures ∙ c.in-Less.is) c.pop_front.ensures.items c.pop_front.ensures.rest
