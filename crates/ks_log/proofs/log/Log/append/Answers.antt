use Rattle.std.proofs.Common.{rules, ◌≡◌, ◌+◌, Bool, true, cond, List, length, sym, ap, ◌∙◌, arith}
use Rattle.std.specs.Prelude.{◌==◌}
use Rattle.ks_record.specs.Parts.{same_part}
use Rattle.ks_history.specs.declared.partition.Slot.{Slot}
use Rattle.ks_history.specs.Partition.{count_sent, sent_slots}
use Rattle.ks_log.specs.Places.{part_number}
use Rattle.ks_log.specs.Written.{slots_in, total, place, with_slots}
use Rattle.ks_log.proofs.Logs.{is_taken, total-appended, seats-more}
use Rattle.ks_log.proofs.log.Log.append.Goals as goal

pub invariant_of-self-2 : goal.invariant_of-self-2
invariant_of-self-2 c =
    let b = c.args.batch in
    let parts = c.self.inside.parts.items in
    let more : List Slot = sent_slots b.producer b.epoch b.number b.task b.recs in
    let taken : (b.number == count_sent b.producer b.epoch (slots_in c.args.part parts)) ≡ true =
    is_taken b.producer b.epoch b.number (slots_in c.args.part parts) c.in_ok-answer.answer c.in_ok-answer.ensures.answer (sym c.is_err.ensures.value ∙ c.if-is_err.false) in
    let all = ap total c.in_ok-answer.ensures.ok ∙ total-appended c.args.part b parts taken in
    let same = ap total c.self.view_is in
    let at : c.in_ok-at.at ≡ place c.args.part parts = search rules in (
      record {
        empty_is = c.self.invariant.0.empty_is;
        count_is = omega (arith, all, c.self.invariant.0.count_is, c.len-count.ensures);
        few = omega (arith, same, c.self.invariant.0.count_is, c.in_ok-at.ensures.room);
      },
      seats-more c.self.inside.seats.items c.put_seat.new.seats.items c.args.part more parts c.grow.new.parts.items c.in_ok-at.at
          (c.in_ok-answer.ensures.ok ∙ ap (λ (t : Bool). cond t (with_slots c.args.part more parts) parts) taken) at c.self.invariant.1
          (λ q low. c.put_seat.ensures.seats q low ∙ ap (cond (same_part q c.args.part) (c.in_ok-at.at + 1)) (c.in_ok-widen.ensures.same (part_number q))),
    )

pub returns-clause-few : goal.returns-clause-few
returns-clause-few c =
    let b = c.args.batch in
    let parts = c.self.inside.parts.items in
    let taken : (b.number == count_sent b.producer b.epoch (slots_in c.args.part parts)) ≡ true =
    is_taken b.producer b.epoch b.number (slots_in c.args.part parts) c.in_ok-answer.answer c.in_ok-answer.ensures.answer (sym c.is_err.ensures.value ∙ c.if-is_err.false) in
    let all = ap total c.in_ok-answer.ensures.ok ∙ total-appended c.args.part b parts taken in
    let same = ap total c.self.view_is in
    omega (arith, all, same, c.in_ok-at.ensures.room, c.len-count.ensures)
