use Rattle.std.proofs.Common.{◌≤◌, ◌+◌, ◌++◌, ◌∷◌, [], length, drop, sym, ap, ◌∙◌, subst, append-nil, length-append}
use Rattle.ks_log.specs.Index.{visible_in, visible_one, marks_in}
use Rattle.ks_log.proofs.Parts.{rest_is, visible_stops, visible_on, passed_on, goes_on}
use Rattle.ks_log.proofs.part.extend_visible.Goals as goal

pub returns-in_default-clause-visible : goal.returns-in_default-clause-visible
returns-in_default-clause-visible c =
    let slots = c.args.slots.now in
    let marks = drop c.loop-i.passed c.args.marks.now in
    let slot = c.index-slots-i.result in
    let none = ap (λ s. visible_one s marks) (sym c.index-slots-i.is) ∙ ap (visible_one slot) (sym (rest_is c.loop-i.passed c.args.marks.now)) ∙ sym c.is_visible.ensures ∙ c.in_default.is in
    sym (append-nil c.loop-i.visible.items) ∙ ap (λ l. c.loop-i.visible.items ++ l) (sym (visible_stops slots marks c.loop-i.i slot c.loop-i-test.true c.loop-i.invariant.1 none)) ∙ c.loop-i.invariant.0

pub loop-i-preserved : goal.loop-i-preserved
loop-i-preserved c =
    let i = c.loop-i.i in
    let slots = c.args.slots.now in
    let marks = drop c.loop-i.passed c.args.marks.now in
    let slot = c.index-slots-i.result in
    let is = c.in-Some.is' in
    let some = ap (λ s. visible_one s marks) (sym c.index-slots-i.is) ∙ ap (visible_one slot) (sym (rest_is c.loop-i.passed c.args.marks.now)) ∙ sym c.is_visible.ensures ∙ c.in-Some.is in
    let count = c.mark_count-passed.ensures ∙ ap (λ s. length (marks_in (s ∷ []))) c.index-slots-i.is in
    let on = passed_on slots c.args.marks.now i c.loop-i.passed slot c.loop-i-test.true c.loop-i.invariant.2 c.loop-i.invariant.1 in
    let pushed = ap length c.push_reserved.ensures.items ∙ length-append c.loop-i.visible.items (is ∷ []) in (
      goes_on c.loop-i.visible.items c.push_reserved.new.self.items (is ∷ []) (visible_in (drop (i + 1) slots)) (visible_in (drop i slots)) _ c.loop-i.invariant.0 c.push_reserved.ensures.items
          (visible_on slots marks i slot is c.loop-i-test.true c.loop-i.invariant.1 some),
      ap (λ n. drop (c.loop-i.passed + n) c.args.marks.now) count ∙ on.0,
      subst (λ n. c.loop-i.passed + n ≤ length c.args.marks.now) (sym count) on.1,
      pushed ∙ ap (λ n. n + 1) c.loop-i.invariant.3,
      subst (λ n. length slots ≤ n) (sym c.push_reserved.ensures.capacity) c.loop-i.invariant.4,
    )
