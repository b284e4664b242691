use Rattle.std.proofs.Common.{◌≡◌, ◌<◌, ◌≤◌, ◌++◌, ◌∷◌, [], length, set, get_or, sym, ap, ◌∙◌, arith}
use Rattle.ks_log.specs.declared.log.Written.{Written}
use Rattle.ks_log.specs.Written.{place}
use Rattle.ks_log.proofs.Logs.{with_slots-there, with_slots-new, slots_in-there, slots_in-new}
use Rattle.ks_log.proofs.log.grow_one.Goals as goal

pub returns-then-at-len-clause-at : goal.returns-then-at-len-clause-at
returns-then-at-len-clause-at c =
    let parts = c.args.parts.now.items in
    let written = c.index_mut-written.result.now in
    let there : place c.args.part parts < length parts = omega (arith, c.requires.at, c.if-at-len.true, c.len.ensures, c.args.parts.now.ok.0) in
    c.in_ok-end.ensures.at
    ∙ ap length (ap (λ (w : Written). w.slots) (c.index_mut-written.ensures.value ∙ ap (λ n. get_or parts n written) c.requires.at) ∙ sym (slots_in-there c.args.part parts written there))

pub returns-then-at-len-clause-ok : goal.returns-then-at-len-clause-ok
returns-then-at-len-clause-ok c =
    let parts = c.args.parts.now.items in
    let more = c.args.slot ∷ [] in
    let written = c.index_mut-written.result.now in
    let there : place c.args.part parts < length parts = omega (arith, c.requires.at, c.if-at-len.true, c.len.ensures, c.args.parts.now.ok.0) in
    ap (λ s. set parts c.args.at (record { part = written.part; slots = s })) c.in_ok-end.ensures.ok
    ∙ ap (λ (w : Written). set parts c.args.at (record { part = w.part; slots = w.slots ++ more })) c.index_mut-written.ensures.value
    ∙ ap (λ n. set parts n (record { part = (get_or parts n written).part; slots = (get_or parts n written).slots ++ more })) c.requires.at
    ∙ sym (with_slots-there c.args.part more parts written there)

pub returns-clause-at : goal.returns-clause-at
returns-clause-at c =
    let beyond : length c.args.parts.now.items ≤ place c.args.part c.args.parts.now.items = omega (arith, c.requires.at, c.if-at-len.false, c.len.ensures, c.args.parts.now.ok.0) in
    c.in_ok-end-2.ensures.at ∙ ap length (c.new-slots.ensures ∙ sym (slots_in-new c.args.part c.args.parts.now.items beyond))

pub returns-clause-ok : goal.returns-clause-ok
returns-clause-ok c =
    let beyond : length c.args.parts.now.items ≤ place c.args.part c.args.parts.now.items = omega (arith, c.requires.at, c.if-at-len.false, c.len.ensures, c.args.parts.now.ok.0) in
    c.in_ok-push.ensures.items
    ∙ ap (λ s. c.args.parts.now.items ++ record { part = c.args.part; slots = s } ∷ []) (c.in_ok-end-2.ensures.ok ∙ ap (λ l. l ++ c.args.slot ∷ []) c.new-slots.ensures)
    ∙ sym (with_slots-new c.args.part (c.args.slot ∷ []) c.args.parts.now.items beyond)
