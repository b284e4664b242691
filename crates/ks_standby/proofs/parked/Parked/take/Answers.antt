use Rattle.std.proofs.Common.{arith, ap, ◌∙◌, None}
use Rattle.ks_standby.specs.Shelf.{place_in, parked_in}
use Rattle.ks_standby.proofs.Shelving.{there_gives, there_placed, none_there, after_take}
use Rattle.ks_standby.proofs.parked.Parked.take.Goals as goal

pub returns-then-at-len-clause-gives : goal.returns-then-at-len-clause-gives
returns-then-at-len-clause-gives c =
    let place = c.find-at.ensures ∙ ap (place_in c.args.instance c.args.task) c.deref.ensures.value in
    c.fill.ensures.old ∙ there_gives c.args.instance c.args.task c.args.self.now.places.items c.index_mut.result.now c.find-at.result place (omega arith) c.index_mut.ensures.value

pub returns-then-at-len-clause-rest : goal.returns-then-at-len-clause-rest
returns-then-at-len-clause-rest c i t =
    let place = c.find-at.ensures ∙ ap (place_in c.args.instance c.args.task) c.deref.ensures.value in
    ap (parked_in i t)
    (there_placed c.args.instance c.args.task None c.args.self.now.places.items c.index_mut.result.now c.fill.new.place c.find-at.result place (omega arith) c.index_mut.ensures.value c.fill.ensures.new)
    ∙ after_take i c.args.instance t c.args.task c.args.self.now.places.items

pub returns-else-at-len-clause-gives : goal.returns-else-at-len-clause-gives
returns-else-at-len-clause-gives c =
    let place = c.find-at.ensures ∙ ap (place_in c.args.instance c.args.task) c.deref.ensures.value in
    (none_there c.args.instance c.args.task c.args.self.now.places.items (omega arith)).0

pub returns-else-at-len-clause-rest : goal.returns-else-at-len-clause-rest
returns-else-at-len-clause-rest c i t =
    let place = c.find-at.ensures ∙ ap (place_in c.args.instance c.args.task) c.deref.ensures.value in
    ap (parked_in i t) ((none_there c.args.instance c.args.task c.args.self.now.places.items (omega arith)).1 None)
    ∙ after_take i c.args.instance t c.args.task c.args.self.now.places.items
