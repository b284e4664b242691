use Rattle.std.proofs.Common.{◌≡◌, ◌<◌, ◌≤◌, ◌++◌, ◌∷◌, [], length, set, get_or, refl, sym, ap, ◌∙◌, arith}
use Rattle.ks_log.specs.declared.log.Written.{Written}
use Rattle.ks_log.specs.Appending.{append_answer, appended}
use Rattle.ks_log.specs.Written.{slots_in, place}
use Rattle.ks_log.proofs.Logs.{slots_in-there, slots_in-new, log_appended-is, log_missed-new, log_appended-new, is_taken, is_missed}
use Rattle.ks_log.proofs.log.grow.Goals as goal

pub returns-then-at-len-clause-answer : goal.returns-then-at-len-clause-answer
returns-then-at-len-clause-answer c =
    let parts = c.args.parts.now.items in
    let b = c.args.batch in
    let written = c.index_mut-written.result.now in
    let there : place c.args.part parts < length parts = omega (arith, c.requires, c.if-at-len.true, c.len.ensures, c.args.parts.now.ok.0) in
    c.in_ok-answer.ensures.answer
    ∙ ap (append_answer b.producer b.epoch b.number) (ap (λ (w : Written). w.slots) (c.index_mut-written.ensures.value ∙ ap (λ n. get_or parts n written) c.requires) ∙ sym (slots_in-there c.args.part parts written there))

pub returns-then-at-len-clause-ok : goal.returns-then-at-len-clause-ok
returns-then-at-len-clause-ok c =
    let parts = c.args.parts.now.items in
    let b = c.args.batch in
    let written = c.index_mut-written.result.now in
    let there : place c.args.part parts < length parts = omega (arith, c.requires, c.if-at-len.true, c.len.ensures, c.args.parts.now.ok.0) in
    let is = c.index_mut-written.ensures.value ∙ ap (λ n. get_or parts n written) c.requires in
    log_appended-is c.args.part b parts _ written c.append.new.self there
    (c.in_ok-answer.ensures.ok ∙ ap (λ (w : Written). appended b.producer b.epoch b.number b.task b.recs w.slots) is)
    (ap (λ (w : Written). set parts c.args.at (record { part = w.part; slots = c.append.new.self })) is ∙ ap (λ n. set parts n (record { part = (get_or parts (place c.args.part parts) written).part; slots = c.append.new.self })) c.requires)

pub returns-then-is_err-clause-answer : goal.returns-then-is_err-clause-answer
returns-then-is_err-clause-answer c =
    let b = c.args.batch in
    let beyond : length c.args.parts.now.items ≤ place c.args.part c.args.parts.now.items = omega (arith, c.requires, c.if-at-len.false, c.len.ensures, c.args.parts.now.ok.0) in
    c.in_ok-answer-2.ensures.answer ∙ ap (append_answer b.producer b.epoch b.number) (c.new-slots.ensures ∙ sym (slots_in-new c.args.part c.args.parts.now.items beyond))

pub returns-then-is_err-clause-ok : goal.returns-then-is_err-clause-ok
returns-then-is_err-clause-ok c =
    let b = c.args.batch in
    let beyond : length c.args.parts.now.items ≤ place c.args.part c.args.parts.now.items = omega (arith, c.requires, c.if-at-len.false, c.len.ensures, c.args.parts.now.ok.0) in
    let answer = c.in_ok-answer-2.ensures.answer ∙ ap (append_answer b.producer b.epoch b.number) c.new-slots.ensures in
    log_missed-new c.args.part b c.args.parts.now.items beyond (is_missed b.producer b.epoch b.number [] c.in_ok-answer-2.answer answer (sym c.is_err.ensures.value ∙ c.if-is_err.true))

pub returns-clause-answer : goal.returns-clause-answer
returns-clause-answer c =
    let b = c.args.batch in
    let beyond : length c.args.parts.now.items ≤ place c.args.part c.args.parts.now.items = omega (arith, c.requires, c.if-at-len.false, c.len.ensures, c.args.parts.now.ok.0) in
    c.in_ok-answer-2.ensures.answer ∙ ap (append_answer b.producer b.epoch b.number) (c.new-slots.ensures ∙ sym (slots_in-new c.args.part c.args.parts.now.items beyond))

pub returns-clause-ok : goal.returns-clause-ok
returns-clause-ok c =
    let b = c.args.batch in
    let beyond : length c.args.parts.now.items ≤ place c.args.part c.args.parts.now.items = omega (arith, c.requires, c.if-at-len.false, c.len.ensures, c.args.parts.now.ok.0) in
    let answer = c.in_ok-answer-2.ensures.answer ∙ ap (append_answer b.producer b.epoch b.number) c.new-slots.ensures in
    log_appended-new c.args.part b c.args.parts.now.items c.push.new.self.items c.append-2.new.self beyond
    (is_taken b.producer b.epoch b.number [] c.in_ok-answer-2.answer answer (sym c.is_err.ensures.value ∙ c.if-is_err.false))
    (c.in_ok-answer-2.ensures.ok ∙ ap (appended b.producer b.epoch b.number b.task b.recs) c.new-slots.ensures) c.in_ok-push.ensures.items
