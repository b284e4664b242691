use Rattle.std.proofs.Common.{ℕ, List, ap, subst, sym, ◌∙◌, arith}
use Rattle.std.specs.FinMap.Entries.{put}
use Rattle.ks_def_runs.specs.Bytes.{Store, by_bytes}
use Rattle.ks_def_runs.specs.FinMap as fin
use Rattle.ks_record.specs.Bytes.{IsBytes}
use Rattle.ks_store.specs.Pairs.{pairs_of}
use Rattle.ks_store.proofs.Trees.{put_store, put_tree}
use Rattle.ks_store.proofs.Applied.{on_ok}
use Rattle.ks_store.proofs.tree.Tree.put.Goals as goal

pub returns-clause-ok : goal.returns-clause-ok
returns-clause-ok c =
    let es = pairs_of c.self.inside.pairs.entries in
    let k = ap (λ (x : List ℕ). put by_bytes x c.in_ok-value.value.items es) c.in_ok-key.ensures.items in
    let v = ap (λ (x : List ℕ). put by_bytes c.args.key.now x es) c.in_ok-value.ensures.items in
    on_ok c.set_at.result
    (λ e. put_store c.self.inside.pairs.entries c.set_at.new.pairs.entries c.args.key.now c.args.value.now c.self.invariant.0 c.set_at.ensures.rises (e ∙ (k ∙ v)) ∙ ap (λ (m : Store). fin.insert m c.args.key.now c.args.value.now) c.self.view_is)
    c.set_at.ensures.ok

pub invariant_of-self : goal.invariant_of-self
invariant_of-self c =
    put_tree c.set_at.result (pairs_of c.self.inside.pairs.entries) (pairs_of c.set_at.new.pairs.entries) c.in_ok-key.key.items c.in_ok-value.value.items
    (subst IsBytes (sym c.in_ok-key.ensures.items) (λ i. omega (arith, c.type_inv.key i)), subst IsBytes (sym c.in_ok-value.ensures.items) (λ i. omega (arith, c.type_inv.value i))) c.self.invariant c.set_at.ensures.rises c.set_at.ensures.ok c.set_at.ensures.err
