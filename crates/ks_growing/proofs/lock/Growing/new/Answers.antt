use Rattle.std.proofs.Common.{rules, arith, sym, ap, subst, ◌∙◌, ◌≡◌, ◌<◌, ◌∷◌, [], length, Some, false}
use Rattle.atomic_table.specs.Table.{opening}
use Rattle.ks_growing.specs.Rule.{IsSound, first_view}
use Rattle.ks_growing.proofs.Ends.{starts}
use Rattle.ks_growing.proofs.lock.Growing.new.Goals as goal

pub new-requires : goal.new-requires
new-requires g c =
    let n : c.from.result ≡ c.args.passes = search rules in
    let some_passes : 0 < c.from.result = omega arith in
    let slots : c.in-Ok-slot_of.slots.items ≡ Some c.of.result.value ∷ [] = (let a = c.in-Ok-slot_of.ensures.ok in let b = c.of.ensures in cc) in
    let words : c.entries-count.result ∷ 0 ∷ 0 ∷ [] ≡ length (g.T.Journaled.journal c.of.result.value) ∷ 0 ∷ 0 ∷ [] =
    ap (λ n. n ∷ 0 ∷ 0 ∷ []) (c.entries-count.ensures ∙ ap (λ y. length (g.T.Journaled.journal y)) (sym c.of.ensures)) in
    subst (λ ws. IsSound g.T.Journaled.journal g.T.Journaled.reserved g.T.Journaled.frame c.of.result.value c.from.result (opening ws c.in-Ok-slot_of.slots.items (first_view g.T.Journaled.journal g.T.Journaled.frame c.of.result.value c.from.result))) (sym words)
    (subst (λ xs. IsSound g.T.Journaled.journal g.T.Journaled.reserved g.T.Journaled.frame c.of.result.value c.from.result (opening (length (g.T.Journaled.journal c.of.result.value) ∷ 0 ∷ 0 ∷ []) xs (first_view g.T.Journaled.journal g.T.Journaled.frame c.of.result.value c.from.result))) (sym slots)
    (starts g.T.Journaled.journal g.T.Journaled.reserved g.T.Journaled.frame c.of.result.value c.from.result some_passes))

pub returns-clause-fresh : goal.returns-clause-fresh
returns-clause-fresh g c =
    let made = c.in-Ok-new.ensures.ok in
    let is = c.of.ensures in
    let fresh = c.deal-list.ensures.fresh (g.T.Journaled.frame c.args.value) (ap (λ m. m.0.frame) made.4 ∙ ap (λ y. Some (g.T.Journaled.frame y)) is) in
    λ k p e. fresh k p e ∙ (λ j. record { lock = c.in-Ok-new.made.0.shared.table_id; number = k; frame = Some (g.T.Journaled.frame c.args.value); seen = (ap (λ m. m.0.seen) made.4 ∙ ap g.T.Journaled.journal is) j; made = 0; holds = false })
