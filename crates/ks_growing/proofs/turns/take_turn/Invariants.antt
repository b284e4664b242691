use Rattle.std.proofs.Common.{◌≡◌}
use Rattle.ks_growing.proofs.turns.take_turn.Given as goal

abbrev pub invariant-tries : goal.invariant-tries
invariant-tries g l = (l.seat.table_id ≡ l.initial.seat.table_id) × (l.seat.id ≡ l.initial.seat.id) × (l.seat.me ≡ l.initial.seat.me)

abbrev pub invariant-sleeps : goal.invariant-sleeps
invariant-sleeps g l = (l.seat.table_id ≡ l.initial.seat.table_id) × (l.seat.id ≡ l.initial.seat.id) × (l.seat.me ≡ l.initial.seat.me)
