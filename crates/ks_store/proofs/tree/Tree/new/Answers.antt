use Rattle.ks_store.proofs.Trees.{new_store}
use Rattle.ks_store.proofs.tree.Tree.new.Goals as goal

pub returns : goal.returns
returns c = new_store c.new.result.entries c.new.ensures.empty
