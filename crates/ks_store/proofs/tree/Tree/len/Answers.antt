use Rattle.std.proofs.Common.{ap, sym, ◌∙◌}
use Rattle.ks_def_runs.specs.Bytes.{Store}
use Rattle.ks_def_runs.specs.FinMap as fin
use Rattle.ks_store.proofs.Trees.{len_store}
use Rattle.ks_store.proofs.tree.Tree.len.Goals as goal

pub returns : goal.returns
returns c = c.len.ensures.len ∙ (sym (len_store c.self.inside.pairs.entries c.self.invariant.0) ∙ ap (λ (m : Store). fin.len m) c.self.view_is)
