use Rattle.std.proofs.Common.{ap, ◌∙◌}
use Rattle.ks_store.specs.Pairs.{pairs_of}
use Rattle.ks_store.proofs.Trees.{rises, take_pairs}
use Rattle.ks_store.proofs.pairs.take_away.Goals as goal

pub returns-clause-gone : goal.returns-clause-gone
returns-clause-gone c = ap pairs_of c.remove.ensures.entries ∙ take_pairs c.args.pairs.now.entries c.args.key.now c.requires

pub returns-clause-rises : goal.returns-clause-rises
returns-clause-rises c = rises c.remove.new.self.entries c.remove.ensures.ordered
