use Rattle.std.proofs.Common.{not, ap, subst, sym, ◌∙◌}
use Rattle.ks_def_runs.specs.Bytes.{Store}
use Rattle.ks_def_runs.specs.FinMap as fin
use Rattle.std.specs.Ordering.{eq_by_cmp}
use Rattle.ks_def_runs.specs.Bytes.{by_bytes}
use Rattle.ks_store.specs.Pairs.{pairs_of}
use Rattle.ks_def_runs.specs.Pairs.{ArePairs}
use Rattle.ks_store.proofs.Trees.{take_store, bytes_where}
use Rattle.ks_store.proofs.tree.Tree.delete.Goals as goal

pub returns : goal.returns
returns c =
    take_store c.self.inside.pairs.entries c.take_away.new.pairs.entries c.args.key.now c.self.invariant.0 c.take_away.ensures.rises c.take_away.ensures.gone
    ∙ ap (λ (m : Store). fin.remove m c.args.key.now) c.self.view_is

pub invariant_of-self : goal.invariant_of-self
invariant_of-self c = (
  c.take_away.ensures.rises,
  subst ArePairs (sym c.take_away.ensures.gone) (bytes_where (λ k. not (eq_by_cmp by_bytes c.args.key.now k)) (pairs_of c.self.inside.pairs.entries) c.self.invariant.1),
)
