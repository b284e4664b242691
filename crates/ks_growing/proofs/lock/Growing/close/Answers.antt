use Rattle.std.proofs.Common.{arith, sym, ap, subst, ◌∙◌, ◌≡◌, ◌∷◌, Some, IsSome, refl}
use mathlib.Core.Option.{some-injective}
use Rattle.ks_growing.specs.Passes.{IsPass, slots_out}
use Rattle.ks_growing.proofs.Each.{first_rest, each_head, each_tail}
use Rattle.ks_growing.proofs.Ends.{Absorbed, Gives, closes}
use Rattle.ks_growing.proofs.lock.Growing.close.Goals as goal

pub absorb-requires-clause-own : goal.absorb-requires-clause-own
absorb-requires-clause-own g c =
    let is : c.args.passes.items ≡ c.remove.result ∷ c.remove.new.self.items = first_rest _ _ c.requires.count.1 c.remove.ensures.value ∙ ap (λ l. c.remove.result ∷ l) (sym c.remove.ensures.items) in
    let p = each_head (IsPass c.args.self.id) _ _ _ is c.requires.passes in
    let free = ap (λ q. q.holds) c.all.view_is ∙ p.1 in
    (ap (λ q. q.lock) c.all.view_is ∙ (p.0 ∙ sym (ap (λ l. l.id) c.self.view_is)), (free, c.all.invariant.0, c.all.invariant.1 ∙ ap slots_out free))

pub absorb-requires-clause-others : goal.absorb-requires-clause-others
absorb-requires-clause-others g c =
    let is : c.args.passes.items ≡ c.remove.result ∷ c.remove.new.self.items = first_rest _ _ c.requires.count.1 c.remove.ensures.value ∙ ap (λ l. c.remove.result ∷ l) (sym c.remove.ensures.items) in
    let p = each_tail (IsPass c.args.self.id) _ _ _ is c.requires.passes in
    λ k q e. let o = p k q e in let n = o.2 in (o.0 ∙ sym (ap (λ l. l.id) c.self.view_is), o.1, omega arith)

pub close_with-closed-requires : goal.close_with-closed-requires
close_with-closed-requires g c =
    let is : c.args.passes.items ≡ c.remove.result ∷ c.remove.new.self.items = first_rest _ _ c.requires.count.1 c.remove.ensures.value ∙ ap (λ l. c.remove.result ∷ l) (sym c.remove.ensures.items) in
    c.absorb.ensures.same.0 ∙ (ap (λ q. q.lock) c.all.view_is ∙ ((each_head (IsPass c.args.self.id) _ _ _ is c.requires.passes).0 ∙ sym (ap (λ l. l.id) c.self.view_is)))

pub unwrap-value-requires : goal.unwrap-value-requires
unwrap-value-requires g c =
    let is : c.args.passes.items ≡ c.remove.result ∷ c.remove.new.self.items = first_rest _ _ c.requires.count.1 c.remove.ensures.value ∙ ap (λ l. c.remove.result ∷ l) (sym c.remove.ensures.items) in
    let a = c.absorb.ensures in
    let joined : Absorbed c.all.inside.seat.me.0 c.absorb.new.all.me.0 c.remove.new.self.items = record { number = a.same.2; frame = a.same.3; free = a.free.0; parts = a.parts; made = a.made; begins = a.begins; others_begin = a.others; frames = a.frames } in
    let k = closes g.T.Journaled.journal g.T.Journaled.reserved g.T.Journaled.frame c.self.inside.table.shared.key.0.value c.self.inside.table.shared.key.1 _ _ _ _ _ c.all.inside.seat.me.0 c.absorb.new.all.me.0 _ _
    (c.requires.count.0 ∙ sym (ap (λ l. l.passes) c.self.view_is)) c.requires.count.1 c.requires.passes (is ∙ ap (λ q. q ∷ c.remove.new.self.items) (sym c.all.view_is)) joined a.reserved c.close_with-closed.ensures.values.2 in
    let there : c.take.result ≡ Some k.0 = some-injective c.take.result (Some k.0) (sym c.take.ensures.value ∙ k.1) in
    subst IsSome (sym there) refl

pub returns : goal.returns
returns g c =
    let is : c.args.passes.items ≡ c.remove.result ∷ c.remove.new.self.items = first_rest _ _ c.requires.count.1 c.remove.ensures.value ∙ ap (λ l. c.remove.result ∷ l) (sym c.remove.ensures.items) in
    let a = c.absorb.ensures in
    let joined : Absorbed c.all.inside.seat.me.0 c.absorb.new.all.me.0 c.remove.new.self.items = record { number = a.same.2; frame = a.same.3; free = a.free.0; parts = a.parts; made = a.made; begins = a.begins; others_begin = a.others; frames = a.frames } in
    let k = closes g.T.Journaled.journal g.T.Journaled.reserved g.T.Journaled.frame c.self.inside.table.shared.key.0.value c.self.inside.table.shared.key.1 _ _ _ _ _ c.all.inside.seat.me.0 c.absorb.new.all.me.0 _ _
    (c.requires.count.0 ∙ sym (ap (λ l. l.passes) c.self.view_is)) c.requires.count.1 c.requires.passes (is ∙ ap (λ q. q ∷ c.remove.new.self.items) (sym c.all.view_is)) joined a.reserved c.close_with-closed.ensures.values.2 in
    let there : c.take.result ≡ Some k.0 = some-injective c.take.result (Some k.0) (sym c.take.ensures.value ∙ k.1) in
    let out = c.unwrap-value.ensures in
    let same : k.0 ≡ c.unwrap-value.result = cc in
    let gives = subst (Gives g.T.Journaled.journal g.T.Journaled.reserved g.T.Journaled.frame c.self.inside.table.shared.key.0.value c.self.inside.table.shared.key.1 c.args.passes.items) same k.2 in
    let given = subst (λ first. Gives g.T.Journaled.journal g.T.Journaled.reserved g.T.Journaled.frame first c.self.inside.table.shared.key.1 c.args.passes.items c.unwrap-value.result) (ap (λ l. l.first) c.self.view_is) gives in
    record { frame = given.frame_is; frames = given.frames; first = given.begins; seen = given.seen; made = given.made; reserved = given.reserved_are }
