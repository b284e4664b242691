use Rattle.std.proofs.Common.{◌≤◌, ◌+◌, ◌++◌, ◌∷◌, [], length, drop, sym, ap, ◌∙◌, subst}
use Rattle.ks_log.specs.Index.{marks_in}
use Rattle.ks_log.specs.Reading.{waiting_in, decided_one, decided_pairs}
use Rattle.ks_log.proofs.Parts.{rest_is, decided_on, passed_on, goes_on}
use Rattle.ks_log.proofs.reading.decided_in.Goals as goal

pub loop-i-preserved : goal.loop-i-preserved
loop-i-preserved c =
    let i = c.loop-i.i in
    let slots = c.args.slots.now in
    let marks = drop c.loop-i.passed c.args.marks.now in
    let slot = c.index-slots-i.result in
    let waiting = waiting_in c.args.producers.now c.args.part in
    let one = decided_one waiting i slot marks in
    let count = c.mark_count-passed.ensures ∙ ap (λ s. length (marks_in (s ∷ []))) c.index-slots-i.is in
    let on = passed_on slots c.args.marks.now i c.loop-i.passed slot c.loop-i-test.true c.loop-i.invariant.2 c.loop-i.invariant.1 in (
      goes_on c.loop-i.made.items c.decide_slot.new.made.items one (decided_pairs waiting (i + 1) (drop (i + 1) slots)) (decided_pairs waiting i (drop i slots)) _ c.loop-i.invariant.0
          (c.in_ok-decide_slot.ensures ∙ ap (λ l. c.loop-i.made.items ++ decided_one waiting i slot l) (rest_is c.loop-i.passed c.args.marks.now))
          (decided_on waiting slots marks i slot c.loop-i-test.true c.loop-i.invariant.1 ∙ ap (λ s. decided_one waiting i s marks ++ decided_pairs waiting (i + 1) (drop (i + 1) slots)) (sym c.index-slots-i.is)),
      ap (λ n. drop (c.loop-i.passed + n) c.args.marks.now) count ∙ on.0,
      subst (λ n. c.loop-i.passed + n ≤ length c.args.marks.now) (sym count) on.1,
    )
