use Rattle.std.proofs.Common.{ap, sym, ◌∙◌}
use Rattle.ks_def_runs.specs.Bytes.{Store}
use Rattle.ks_def_runs.specs.FinMap as fin
use Rattle.ks_store.proofs.Trees.{get_store}
use Rattle.ks_store.proofs.tree.Tree.get.Goals as goal

pub returns : goal.returns
returns c = c.value_at.ensures ∙ (sym (get_store c.self.inside.pairs.entries c.args.key.now c.self.invariant.0) ∙ ap (λ (m : Store). fin.get m c.args.key.now) c.self.view_is)
