use Rattle.std.proofs.Common.{◌≤◌, length, sym, ap, ◌∙◌, subst, arith}
use Rattle.ks_group.specs.Pending.{pending_place, is_at}
use Rattle.ks_group.proofs.Pendings.{place_within, put-there, put-new}
use Rattle.ks_group.proofs.pending.put_pending.Goals as goal

pub returns-then-is_at-clause-ok : goal.returns-then-is_at-clause-ok
returns-then-is_at-clause-ok c =
    put-there c.args.new c.args.pending.now.items c.place_of-at.result (c.place_of-at.ensures ∙ ap (pending_place c.args.new.task) c.as_slice.ensures.value)
    (ap (is_at c.args.new.task c.place_of-at.result) (sym c.as_slice-2.ensures.value) ∙ sym c.is_at.ensures ∙ c.if-is_at.true)

pub insert-requires : goal.insert-requires
insert-requires c =
    let at = c.place_of-at.ensures ∙ ap (pending_place c.args.new.task) c.as_slice.ensures.value in
    let within = place_within c.args.new.task c.args.pending.now.items in
    omega (arith, at, within, c.args.pending.now.ok.0)

pub returns-clause-ok : goal.returns-clause-ok
returns-clause-ok c =
    c.in_ok-insert.ensures.items
    ∙ put-new c.args.new c.args.pending.now.items c.place_of-at.result (c.place_of-at.ensures ∙ ap (pending_place c.args.new.task) c.as_slice.ensures.value)
    (ap (is_at c.args.new.task c.place_of-at.result) (sym c.as_slice-2.ensures.value) ∙ sym c.is_at.ensures ∙ c.if-is_at.false)
