use Rattle.std.proofs.Common.{ap, sym, subst, ◌∙◌}
use Rattle.ks_def_runs.specs.Bytes.{Store}
use Rattle.ks_def_runs.specs.FinMap as map
use Rattle.ks_def_runs.specs.Pairs.{ArePairs}
use Rattle.ks_store.proofs.Trees.{store_entries}
use Rattle.ks_store.proofs.tree.Tree.holds_bytes.Goals as goal

pub returns : goal.returns
returns c = subst ArePairs (sym (store_entries c.self.inside.pairs.entries c.self.invariant.0) ∙ ap (λ (m : Store). map.entries m) c.self.view_is) c.self.invariant.1
