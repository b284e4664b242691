use Rattle.std.proofs.Common.{ℕ, List, sym, ap, ◌∙◌, rules}
use Rattle.std.specs.Prelude.{◌==◌}
use Rattle.std.specs.List.{starts_with}
use Rattle.ks_store.proofs.Trees.{rises}
use Rattle.ks_store.proofs.Fronts.{walk_begins, walked_on, walk_ends, walked_all}
use Rattle.ks_store.proofs.pairs.pairs_from.Goals as goal

pub loop-key-init : goal.loop-key-init
loop-key-init c =
    walk_begins c.args.front.now c.in_ok-start.start c.args.pairs.now.entries c.into_iter-key-iterator.result c.new-found.result.items c.in_ok-start.ensures.items
    (rises c.args.pairs.now.entries c.range-key-items.ensures.ordered) (c.into_iter-key-iterator.ensures.into_iter_gives ∙ c.range-key-items.ensures.between tt) c.new-found.ensures.items

pub loop-key-preserved : goal.loop-key-preserved
loop-key-preserved c =
    let begins = ap (λ (k : List ℕ). starts_with ◌==◌ k c.args.front.now) (sym c.deref.ensures.value) ∙ (sym c.starts_with.ensures.value ∙ c.if-not-starts_with.false) in
    walked_on c.args.front.now c.args.pairs.now.entries c.loop-key.key-iterator c.next.new.self c.loop-key.found.items c.push.new.self.items (c.in-Some.key.now, c.in-Some.value.now) c.loop-key.invariant c.in-Some.ensures.steps begins (search rules)

pub returns-then-not-starts_with : goal.returns-then-not-starts_with
returns-then-not-starts_with c =
    let apart = ap (λ (k : List ℕ). starts_with ◌==◌ k c.args.front.now) (sym c.deref.ensures.value) ∙ (sym c.starts_with.ensures.value ∙ c.if-not-starts_with.true) in
    walk_ends c.args.front.now c.args.pairs.now.entries c.loop-key.key-iterator c.next.new.self c.loop-key.found.items (c.in-Some.key.now, c.in-Some.value.now) c.loop-key.invariant c.in-Some.ensures.steps apart

pub returns : goal.returns
returns c = walked_all c.args.front.now c.args.pairs.now.entries c.loop-key.key-iterator c.loop-key.found.items c.loop-key.invariant c.in-None.ensures.steps.0
