use Rattle.std.proofs.Common.{sym}
use Rattle.std.proofs.lemmas.List.{drop-drop}
use Rattle.ks_edge.proofs.memory.one_past.Goals as goal

pub returns-then-used-sizes-clause-rest : goal.returns-then-used-sizes-clause-rest
returns-then-used-sizes-clause-rest c = sym (drop-drop 1 c.args.used c.args.sizes.now)
