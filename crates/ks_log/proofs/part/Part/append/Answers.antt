use Rattle.std.proofs.Common.{rules, ◌≡◌, ◌+◌, ◌-◌, ◌≤◌, ◌++◌, ◌∷◌, [], List, length, drop, refl, sym, ap, ap₂, ◌∙◌, subst, arith, length-append, append-nil}
use Rattle.ks_history.specs.declared.partition.Slot.{Slot}
use Rattle.ks_history.specs.Partition.{count_sent, sent_slots}
use Rattle.ks_log.specs.Index.{marks_in, visible_in, counted_put}
use Rattle.ks_log.proofs.Counting.{marks_in-sent, length-sent, sums-sent}
use Rattle.ks_log.proofs.Parts.{known_few, passed_more, indexed_more}
use Rattle.ks_log.proofs.part.Part.append.Goals as goal

pub overflow_sub-waiting : goal.overflow_sub-waiting
overflow_sub-waiting c =
    let few = known_few c.self.inside.slots.items c.self.inside.visible.items c.self.invariant.visible_is in
    omega (arith, few, c.len-end.ensures, c.len-2.ensures, c.self.inside.slots.ok.0, c.self.inside.visible.ok.0)

pub extend_visible-self-inside-requires-clause-room : goal.extend_visible-self-inside-requires-clause-room
extend_visible-self-inside-requires-clause-room c =
    let more : List Slot = sent_slots c.args.producer c.args.epoch c.args.number c.args.task c.args.recs in
    let few = known_few c.self.inside.slots.items c.self.inside.visible.items c.self.invariant.visible_is in
    let grown = ap length (c.as_slice-slots.ensures.value ∙ c.in_ok-put_sent.ensures.ok ∙ ap (λ l. l ++ more) c.in_ok-reserve-3.ensures.items) ∙ length-append c.self.inside.slots.items more in
    let sent = length-sent c.args.producer c.args.epoch c.args.number c.args.task c.args.recs in
    let sum : c.in-Some-checked_add.room ≡ c.len-end.result - c.len-2.result + c.len-3.result = search rules in
    omega (arith, sum, few, grown, sent, c.in_ok-reserve.ensures.ok, c.in_ok-reserve.ensures.len, c.len-end.ensures, c.len-2.ensures, c.len-3.ensures, c.self.inside.slots.ok.0, c.self.inside.visible.ok.0)

pub extend_visible-self-inside-requires-clause-known : goal.extend_visible-self-inside-requires-clause-known
extend_visible-self-inside-requires-clause-known c =
    let more : List Slot = sent_slots c.args.producer c.args.epoch c.args.number c.args.task c.args.recs in
    let few = known_few c.self.inside.slots.items c.self.inside.visible.items c.self.invariant.visible_is in
    let grown = ap length (c.as_slice-slots.ensures.value ∙ c.in_ok-put_sent.ensures.ok ∙ ap (λ l. l ++ more) c.in_ok-reserve-3.ensures.items) ∙ length-append c.self.inside.slots.items more in
    omega (arith, few, grown, ap length c.in_ok-reserve.ensures.items)

pub extend_visible-self-inside-requires-clause-marks : goal.extend_visible-self-inside-requires-clause-marks
extend_visible-self-inside-requires-clause-marks c =
    let more : List Slot = sent_slots c.args.producer c.args.epoch c.args.number c.args.task c.args.recs in
    let slots = c.self.inside.slots.items in
    let visible = c.self.inside.visible.items in
    let few = known_few slots visible c.self.invariant.visible_is in
    ap (drop c.self.inside.passed) (c.as_slice-marks.ensures.value ∙ sym (append-nil c.self.inside.marks.items))
    ∙ passed_more slots more c.self.inside.marks.items [] c.self.inside.passed (length visible) c.self.invariant.within few (sym (marks_in-sent c.args.producer c.args.epoch c.args.number c.args.task c.args.recs)) c.self.invariant.passed_is
    ∙ ap₂ (λ n l. marks_in (drop n l)) (sym (ap length c.in_ok-reserve.ensures.items)) (sym (c.as_slice-slots.ensures.value ∙ c.in_ok-put_sent.ensures.ok ∙ ap (λ l. l ++ more) c.in_ok-reserve-3.ensures.items))

pub invariant_of-self-2 : goal.invariant_of-self-2
invariant_of-self-2 c =
    let more : List Slot = sent_slots c.args.producer c.args.epoch c.args.number c.args.task c.args.recs in
    let sum : c.in-Some.next ≡ c.args.number + length c.args.recs = search rules in
    let next = sum ∙ ap (λ n. n + length c.args.recs)
    (c.if-number-expected.false ∙ c.count-expected.ensures ∙ ap (count_sent c.args.producer c.args.epoch) (sym c.self.view_is) ∙ sym (c.self.invariant.counts_are c.args.producer c.args.epoch)) in
    indexed_more c.self.inside.slots.items c.put_sent.new.slots.items more c.self.inside.visible.items c.extend_visible-self-inside.new.visible.items c.self.inside.marks.items c.self.inside.marks.items []
    c.self.inside.passed c.extend_visible-self-inside.result c.self.inside.counts.items c.put_count.new.counts.items
    c.self.invariant (c.in_ok-put_sent.ensures.ok ∙ ap (λ l. l ++ more) c.in_ok-reserve-3.ensures.items)
    (c.extend_visible-self-inside.ensures.visible ∙ ap₂ (λ a b. a ++ visible_in (drop (length a) b)) c.in_ok-reserve.ensures.items c.as_slice-slots.ensures.value)
    (sym (append-nil c.self.inside.marks.items)) (sym (marks_in-sent c.args.producer c.args.epoch c.args.number c.args.task c.args.recs))
    (ap (drop c.extend_visible-self-inside.result) (sym c.as_slice-marks.ensures.value) ∙ c.extend_visible-self-inside.ensures.marks ∙ ap (λ l. marks_in (drop (length c.extend_visible-self-inside.new.visible.items) l)) c.as_slice-slots.ensures.value)
    (subst (λ l. c.extend_visible-self-inside.result ≤ length l) c.as_slice-marks.ensures.value c.extend_visible-self-inside.ensures.within)
    (λ w e. sums-sent w e c.args.producer c.args.epoch c.args.number c.in-Some.next c.args.task c.args.recs c.self.inside.counts.items c.put_count.new.counts.items
    (c.put_count.ensures ∙ ap (counted_put c.args.producer c.args.epoch c.in-Some.next) c.in_ok-reserve-2.ensures.items) next)
