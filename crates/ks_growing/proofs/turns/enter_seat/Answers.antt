use Rattle.std.proofs.Common.{rules, sym, ap, ◌∷◌, ◌∙◌, Some}
use Rattle.atomic_table.specs.Table.{rest}
use Rattle.ks_growing.proofs.turns.enter_seat.Goals as goal

pub exchange-requires : goal.exchange-requires
exchange-requires g c =
    let took = c.take_turn.ensures.took in
    let has = took.takes.0 in
    (search rules, (Some took.value, has ∙ (λ i. (0, Some took.value) ∷ sym (ap rest has) i)))
