use Rattle.std.proofs.Common.{◌≡◌, ℕ, ◌+◌, [], ◌∷◌, length, get_or, refl, sym, ap, subst, ◌∙◌, arith}
use Rattle.std.proofs.lemmas.Bool.{eq-eqb}
use Rattle.std.proofs.lemmas.List.{get_or_read}
use Rattle.ks_history.specs.declared.journal.Request.TheVariants.{Add}
use Rattle.ks_history.specs.declared.journal.Reply.TheVariants.{Done}
use Rattle.ks_history.specs.Reads.{end_of}
use Rattle.ks_cluster.specs.View.{state_of}
use Rattle.ks_commit.specs.Alone.{number_in}
use Rattle.ks_commit.specs.Numbers.{renumber}
use Rattle.ks_commit.specs.Sending.{Longer}
use Rattle.ks_commit.proofs.Entries.{on_err, longer_same, longer_one}
use Rattle.ks_commit.proofs.Puts.{append_free, put_sends, put_counts, put_fits, numbers_rise, sending_more}
use Rattle.ks_commit.proofs.sending.put.Goals as goal

pub append-requires-clause-free : goal.append-requires-clause-free
append-requires-clause-free g c =
    append_free g.W.Work.plan c.args.cluster.now c.add.new.cluster c.args.publisher.now c.args.task c.args.part c.args.recs.now c.number_at-before.result Done c.requires.sending (c.number_at-before.ensures ∙ ap (number_in c.args.part) c.as_slice.ensures.value) c.in_ok-add.ensures.ok

pub returns-clause-sends : goal.returns-clause-sends
returns-clause-sends g c = put_sends g.W.Work.plan c.args.cluster.now c.add.new.cluster c.args.publisher.now c.args.task c.args.part c.args.recs.now c.number_at-before.result Done c.requires.sending (c.number_at-before.ensures ∙ ap (number_in c.args.part) c.as_slice.ensures.value) c.in_ok-add.ensures.ok c.append.new.cluster _ c.in_ok-append.ensures.ok

pub overflow_add-now : goal.overflow_add-now
overflow_add-now g c =
    let s = put_sends g.W.Work.plan c.args.cluster.now c.add.new.cluster c.args.publisher.now c.args.task c.args.part c.args.recs.now c.number_at-before.result Done c.requires.sending (c.number_at-before.ensures ∙ ap (number_in c.args.part) c.as_slice.ensures.value) c.in_ok-add.ensures.ok c.append.new.cluster _ c.in_ok-append.ensures.ok in
    let few = put_fits g.W.Work.plan c.args.cluster.now c.append.new.cluster c.args.publisher.now c.args.task c.args.part c.args.recs.now c.number_at-before.result c.requires.sending (c.number_at-before.ensures ∙ ap (number_in c.args.part) c.as_slice.ensures.value) s in
    let is : c.index-end.result.now ≡ get_or c.in_ok-ends.ends.items 0 0 = get_or_read c.in_ok-ends.ends.items _ _ (omega (arith, ap length c.in_ok-ends.ensures)) c.index-end.ensures 0 in
    let end : c.index-end.result.now ≡ end_of (state_of g.W.Work.plan c.append.new.cluster) c.args.part = is ∙ ap (λ l. get_or l 0 0) c.in_ok-ends.ensures in
    omega (arith, few, end)

pub returns-clause-sending : goal.returns-clause-sending
returns-clause-sending g c =
    let plan = g.W.Work.plan in
    let s = put_sends g.W.Work.plan c.args.cluster.now c.add.new.cluster c.args.publisher.now c.args.task c.args.part c.args.recs.now c.number_at-before.result Done c.requires.sending (c.number_at-before.ensures ∙ ap (number_in c.args.part) c.as_slice.ensures.value) c.in_ok-add.ensures.ok c.append.new.cluster _ c.in_ok-append.ensures.ok in
    sending_more plan c.args.cluster.now c.append.new.cluster c.args.publisher.now c.requires.sending (c.args.part ∷ []) ((c.args.task, c.args.part, c.args.recs.now) ∷ []) [] s _ refl refl refl
    (numbers_rise (state_of plan c.args.cluster.now) (state_of plan c.append.new.cluster) c.args.publisher.now.worker c.args.publisher.now.epoch c.args.part c.args.task c.args.recs.now c.number_at-before.result _ c.args.publisher.now.numbers.items c.in_ok-numbers.numbers.items
    c.requires.sending.numbers (c.number_at-before.ensures ∙ ap (number_in c.args.part) c.as_slice.ensures.value) refl (c.in_ok-numbers.ensures ∙ (ap (λ (n : ℕ). renumber c.args.part (c.number_at-before.result + n) c.as_slice-2.result.now) c.len.ensures
    ∙ ap (renumber c.args.part (c.number_at-before.result + length c.args.recs.now)) c.as_slice-2.ensures.value))
    (put_counts plan c.args.cluster.now c.append.new.cluster c.args.publisher.now (c.args.part ∷ []) ((c.args.task, c.args.part, c.args.recs.now) ∷ []) c.requires.sending s))

pub returns-in_err-add-clause-err : goal.returns-in_err-add-clause-err
returns-in_err-add-clause-err g c = on_err c.from_residual.result (longer_same c.args.publisher.now.worker 0 c.args.cluster.now c.add.new.cluster c.in_err-add.ensures.err)

pub returns-in_err-append-clause-err : goal.returns-in_err-append-clause-err
returns-in_err-append-clause-err g c =
    let w = c.args.publisher.now.worker in
    let added = longer_one g.W.Work.plan w c.args.cluster.now c.add.new.cluster (Add w c.args.publisher.now.epoch c.args.part) Done c.in_ok-add.ensures.ok (eq-eqb w w refl) refl in
    on_err c.from_residual-in_err-append.result (subst (λ new. Longer w 0 c.args.cluster.now new) (sym c.in_err-append.ensures.err) added)

pub returns-in_err-ends-clause-err : goal.returns-in_err-ends-clause-err
returns-in_err-ends-clause-err g c =
    let s = put_sends g.W.Work.plan c.args.cluster.now c.add.new.cluster c.args.publisher.now c.args.task c.args.part c.args.recs.now c.number_at-before.result Done c.requires.sending (c.number_at-before.ensures ∙ ap (number_in c.args.part) c.as_slice.ensures.value) c.in_ok-add.ensures.ok c.append.new.cluster _ c.in_ok-append.ensures.ok in
    on_err c.from_residual-in_err-ends.result (record { more = s.more; is = s.is; publishing = s.publishing })

pub returns-in_err-numbers-clause-err : goal.returns-in_err-numbers-clause-err
returns-in_err-numbers-clause-err g c =
    let s = put_sends g.W.Work.plan c.args.cluster.now c.add.new.cluster c.args.publisher.now c.args.task c.args.part c.args.recs.now c.number_at-before.result Done c.requires.sending (c.number_at-before.ensures ∙ ap (number_in c.args.part) c.as_slice.ensures.value) c.in_ok-add.ensures.ok c.append.new.cluster _ c.in_ok-append.ensures.ok in
    on_err c.from_residual-in_err-numbers.result (record { more = s.more; is = s.is; publishing = s.publishing })
