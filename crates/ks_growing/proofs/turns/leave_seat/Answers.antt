use Rattle.std.proofs.Common.{rules, sym, ap, subst, ◌∙◌, ◌∷◌, [], filter, Some}
use mathlib.Core.List.{IsPrefix}
use Rattle.atomic_table.specs.Table.{rest}
use Rattle.ks_growing.specs.Steps.{view_without_value}
use Rattle.ks_growing.proofs.TurnSteps.{leaves}
use Rattle.ks_growing.proofs.turns.leave_seat.Goals as goal

pub swap-turn-requires : goal.swap-turn-requires
swap-turn-requires g c =
    let counted = c.write_count.ensures.view in
    let given = c.exchange.ensures.3 in
    let view = ap (λ m. m.0) given ∙ ap (λ m. m.0) counted in
    let value = c.args.value in (
      search rules,
      search rules,
      leaves g.T.Journaled.journal g.T.Journaled.reserved g.T.Journaled.frame _ _ _ _ _ value
          (ap (λ v. v.holds) view ∙ c.requires.holds.0)
          (ap (λ v. v.parts) view ∙ c.requires.holds.1)
          (ap (λ v. v.count) view)
          (ap (λ m. m.1) given ∙ ap (λ m. (0, Some value) ∷ rest m.1) counted)
          (subst (λ s. IsPrefix s (g.T.Journaled.journal value)) (sym (ap (λ v. v.seen) view)) c.requires.grown)
          (ap (λ v. v.frame) view ∙ c.requires.frame)
          (λ nz. c.requires.reserved (λ z. nz (ap (λ v. v.number) view ∙ z)) ∙ ap (λ v. filter g.T.Journaled.reserved v.seen) (sym view)),
    )

pub returns-clause-view : goal.returns-clause-view
returns-clause-view g c =
    let counted = c.write_count.ensures.view in
    let given = c.exchange.ensures.3 in
    let view = ap (λ m. m.0) given ∙ ap (λ m. m.0) counted in
    let value = c.args.value in
    let carried = ap (λ m. m.1) given ∙ ap (λ m. (0, Some value) ∷ rest m.1) counted in
    c.swap-turn.ensures.2 value carried ∙ ap (λ v. (view_without_value (g.T.Journaled.journal value) v, [])) view
