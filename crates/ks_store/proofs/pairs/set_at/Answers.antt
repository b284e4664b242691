use Rattle.std.proofs.Common.{ap, ◌∙◌}
use Rattle.ks_store.specs.Pairs.{pairs_of}
use Rattle.ks_store.proofs.Trees.{rises, put_pairs}
use Rattle.ks_store.proofs.pairs.set_at.Goals as goal

pub returns-in_err-insert-clause-rises : goal.returns-in_err-insert-clause-rises
returns-in_err-insert-clause-rises c = rises c.insert.new.self.entries c.in_err-insert.ensures.ordered

pub returns-clause-ok : goal.returns-clause-ok
returns-clause-ok c = ap pairs_of c.in_ok-insert.ensures.entries ∙ put_pairs c.args.pairs.now.entries c.args.key c.args.value

pub returns-clause-rises : goal.returns-clause-rises
returns-clause-rises c = rises c.insert.new.self.entries c.in_ok-insert.ensures.ordered
