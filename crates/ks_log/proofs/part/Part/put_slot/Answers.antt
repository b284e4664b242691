use Rattle.std.proofs.Common.{◌≡◌, ◌+◌, ◌≤◌, ◌++◌, ◌∷◌, [], length, drop, refl, sym, ap, ap₂, ◌∙◌, subst, arith, length-append}
use Rattle.ks_log.specs.Index.{marks_in, visible_in}
use Rattle.ks_log.proofs.Parts.{known_few, passed_more, indexed_more}
use Rattle.ks_log.proofs.part.Part.put_slot.Goals as goal

pub overflow_sub-room : goal.overflow_sub-room
overflow_sub-room c =
    let few = known_few c.self.inside.slots.items c.self.inside.visible.items c.self.invariant.visible_is in
    omega (arith, few, c.len-end.ensures, c.len.ensures, c.self.inside.slots.ok.0, c.self.inside.visible.ok.0)

pub extend_visible-self-inside-requires-clause-known : goal.extend_visible-self-inside-requires-clause-known
extend_visible-self-inside-requires-clause-known c =
    let more = c.args.slot ∷ [] in
    let few = known_few c.self.inside.slots.items c.self.inside.visible.items c.self.invariant.visible_is in
    let grown = ap length (c.as_slice-slots.ensures.value ∙ c.push_reserved.ensures.items ∙ ap (λ l. l ++ more) c.in_ok-reserve-3.ensures.items) ∙ length-append c.self.inside.slots.items more in
    omega (arith, few, grown, ap length c.in_ok-reserve.ensures.items)

pub extend_visible-self-inside-requires-clause-marks : goal.extend_visible-self-inside-requires-clause-marks
extend_visible-self-inside-requires-clause-marks c =
    let more = c.args.slot ∷ [] in
    let slots = c.self.inside.slots.items in
    let visible = c.self.inside.visible.items in
    let few = known_few slots visible c.self.invariant.visible_is in
    ap (drop c.self.inside.passed) (c.as_slice-marks.ensures.value ∙ c.put_mark.ensures ∙ ap (λ l. l ++ marks_in more) c.in_ok-reserve-2.ensures.items)
    ∙ passed_more slots more c.self.inside.marks.items (marks_in more) c.self.inside.passed (length visible) c.self.invariant.within few refl c.self.invariant.passed_is
    ∙ ap₂ (λ n l. marks_in (drop n l)) (sym (ap length c.in_ok-reserve.ensures.items)) (sym (c.as_slice-slots.ensures.value ∙ c.push_reserved.ensures.items ∙ ap (λ l. l ++ more) c.in_ok-reserve-3.ensures.items))

pub invariant_of-self-2 : goal.invariant_of-self-2
invariant_of-self-2 c =
    let more = c.args.slot ∷ [] in
    indexed_more c.self.inside.slots.items c.push_reserved.new.self.items more c.self.inside.visible.items c.extend_visible-self-inside.new.visible.items c.self.inside.marks.items c.put_mark.new.marks.items (marks_in more)
    c.self.inside.passed c.extend_visible-self-inside.result c.self.inside.counts.items c.self.inside.counts.items
    c.self.invariant (c.push_reserved.ensures.items ∙ ap (λ l. l ++ more) c.in_ok-reserve-3.ensures.items)
    (c.extend_visible-self-inside.ensures.visible ∙ ap₂ (λ a b. a ++ visible_in (drop (length a) b)) c.in_ok-reserve.ensures.items c.as_slice-slots.ensures.value)
    (c.put_mark.ensures ∙ ap (λ l. l ++ marks_in more) c.in_ok-reserve-2.ensures.items) refl
    (ap (drop c.extend_visible-self-inside.result) (sym c.as_slice-marks.ensures.value) ∙ c.extend_visible-self-inside.ensures.marks ∙ ap (λ l. marks_in (drop (length c.extend_visible-self-inside.new.visible.items) l)) c.as_slice-slots.ensures.value)
    (subst (λ l. c.extend_visible-self-inside.result ≤ length l) c.as_slice-marks.ensures.value c.extend_visible-self-inside.ensures.within)
    (λ w e. let none = c.requires w e in omega (arith, none))
