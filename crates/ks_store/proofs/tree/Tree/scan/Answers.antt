use Rattle.std.proofs.Common.{◌≡◌, ℕ, List, ap, sym, subst, ◌∙◌}
use Rattle.std.specs.Prelude.{IfOk}
use Rattle.ks_def_runs.specs.Bytes.{Store}
use Rattle.ks_def_runs.specs.Prefixes.{pairs_under}
use Rattle.ks_store.proofs.Trees.{under, store_entries}
use Rattle.ks_store.proofs.tree.Tree.scan.Goals as goal

pub returns : goal.returns
returns c =
    let e = ap (under c.args.front.now) (sym (store_entries c.self.inside.pairs.entries c.self.invariant.0)) ∙ ap (λ (m : Store). pairs_under c.args.front.now m) c.self.view_is in
    subst (λ (found : List (List ℕ × List ℕ)). IfOk c.pairs_with.result (λ v. v.items ≡ found)) e c.pairs_with.ensures
