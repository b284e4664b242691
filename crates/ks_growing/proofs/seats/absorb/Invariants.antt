use Rattle.std.proofs.Common.{◌≡◌, ◌≢◌, ◌+◌, false, [], length, filter}
use mathlib.Core.List.{IsPrefix}
use Rattle.ks_growing.specs.Rule.{total}
use Rattle.ks_growing.specs.Steps.{SameSeat, seat_seen}
use Rattle.ks_growing.specs.Passes.{Each, seen_of, made_of, frame_of}
use Rattle.ks_growing.proofs.seats.absorb.Given as goal

abbrev pub invariant-loop-pass : goal.invariant-loop-pass
invariant-loop-pass g l =
    (goal.iterator-loop-pass g).can_next l.pass-iterator ×
    (goal.iterator-loop-pass g).is_finite l.pass-iterator ×
    record {
      rest : Each (λ k p. (p.lock ≡ l.table.table_id) × (p.holds ≡ false) × (p.number ≢ 0)) l.pass-iterator.rest.items;
      same : SameSeat l.initial.all l.all;
      free : (l.all.me.0.holds ≡ false) × (l.all.me.1 ≡ []);
      parts : l.all.me.0.parts ≡ 1 + length l.yielded;
      made : l.all.me.0.made ≡ l.initial.all.me.0.made + total made_of l.yielded;
      begins : IsPrefix (seat_seen l.initial.all) (seat_seen l.all);
      each : Each (λ k p. IsPrefix (seen_of p) (seat_seen l.all)) l.yielded;
      frames : Each (λ k p. frame_of p ≡ l.initial.all.me.0.frame) l.yielded;
      reserved_are : l.initial.all.me.0.number ≡ 0 → filter g.T.Journaled.reserved (seat_seen l.all) ≡ filter g.T.Journaled.reserved (seat_seen l.initial.all);
    }
