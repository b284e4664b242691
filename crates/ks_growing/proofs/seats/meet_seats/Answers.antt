use Rattle.std.proofs.Common.{rules, arith, ap, ◌∙◌, ◌<◌}
use Rattle.ks_growing.proofs.SeatSteps.{copies, takes_in, compares}
use Rattle.ks_growing.proofs.seats.meet_seats.Goals as goal

pub split_seat-copy-requires : goal.split_seat-copy-requires
split_seat-copy-requires g c =
    let one = c.requires.free.1.1 in
    let some_parts : 0 < c.args.other.now.me.0.parts = omega arith in (
      search rules,
      search rules,
      copies g.T.Journaled.journal g.T.Journaled.reserved g.T.Journaled.frame _ _ _ _ c.requires.free.1.0 some_parts,
    )

pub join_seat-requires : goal.join_seat-requires
join_seat-requires g c =
    let one = c.requires.free.0.1 in
    let some_parts : 0 < c.args.seat.now.me.0.parts = omega arith in
    let is = ap (λ m. m.0) c.split_seat-copy.ensures.4 in (
      search rules,
      search rules,
      search rules,
      search rules,
      takes_in g.T.Journaled.journal g.T.Journaled.reserved g.T.Journaled.frame _ _ _ _ _ _ c.requires.free.0.0 (ap (λ v. v.holds) is) some_parts (λ n. ap (λ v. v.parts) is),
    )

pub load-requires : goal.load-requires
load-requires g c =
    let now = c.join_seat.ensures.2 in
    let one = c.requires.free.0.1 in
    let parts = ap (λ m. m.0.parts) now in
    let some_parts : 0 < c.join_seat.new.seat.me.0.parts = omega arith in (
      search rules,
      search rules,
      compares g.T.Journaled.journal g.T.Journaled.reserved g.T.Journaled.frame _ _ _ _ _ (ap (λ m. m.0.holds) now ∙ c.requires.free.0.0) some_parts,
    )
