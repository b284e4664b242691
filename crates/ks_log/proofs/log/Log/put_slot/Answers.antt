use Rattle.std.proofs.Common.{rules, ◌≡◌, ◌+◌, ◌∷◌, [], cond, ap, ◌∙◌, arith}
use Rattle.ks_record.specs.Parts.{same_part}
use Rattle.ks_log.specs.Places.{part_number}
use Rattle.ks_log.specs.Written.{total, place}
use Rattle.ks_log.proofs.Logs.{total-with, seats-more}
use Rattle.ks_log.proofs.log.Log.put_slot.Goals as goal

pub invariant_of-self-2 : goal.invariant_of-self-2
invariant_of-self-2 c =
    let parts = c.self.inside.parts.items in
    let all = ap total c.in_ok-end.ensures.ok ∙ total-with c.args.part (c.args.slot ∷ []) parts in
    let same = ap total c.self.view_is in
    let at : c.in_ok-at.at ≡ place c.args.part parts = search rules in (
      record {
        empty_is = c.self.invariant.0.empty_is;
        count_is = omega (arith, all, c.self.invariant.0.count_is);
        few = omega (arith, same, c.self.invariant.0.count_is, c.in_ok-at.ensures.room);
      },
      seats-more c.self.inside.seats.items c.put_seat.new.seats.items c.args.part (c.args.slot ∷ []) parts c.grow_one.new.parts.items c.in_ok-at.at c.in_ok-end.ensures.ok at c.self.invariant.1
          (λ q low. c.put_seat.ensures.seats q low ∙ ap (cond (same_part q c.args.part) (c.in_ok-at.at + 1)) (c.in_ok-widen.ensures.same (part_number q))),
    )

pub returns-clause-few : goal.returns-clause-few
returns-clause-few c =
    let parts = c.self.inside.parts.items in
    let all = ap total c.in_ok-end.ensures.ok ∙ total-with c.args.part (c.args.slot ∷ []) parts in
    let same = ap total c.self.view_is in
    omega (arith, all, same, c.in_ok-at.ensures.room)
