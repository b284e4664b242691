use Rattle.std.proofs.Common.{arith, ap, ◌∙◌, ◌++◌, ◌∷◌, [], Some}
use Rattle.ks_record.specs.declared.record.TaskId.{TaskId}
use Rattle.ks_standby.specs.Shelf.{place_in, parked_in}
use Rattle.ks_standby.proofs.Shelving.{there_placed, placed_put, none_there, after_put}
use Rattle.ks_standby.proofs.parked.Parked.put.Goals as goal

pub returns-then-at-len-clause-ok : goal.returns-then-at-len-clause-ok
returns-then-at-len-clause-ok c i t =
    let items = c.args.self.now.places.items in
    let task = c.args.replica.id in
    let place = c.find-at.ensures ∙ ap (place_in c.args.instance c.id-task.result) c.deref.ensures.value ∙ ap (λ (u : TaskId). place_in c.args.instance u items) c.id-task.ensures in
    ap (parked_in i t)
    (there_placed c.args.instance task (Some c.args.replica) items c.index_mut.result.now c.fill.new.place c.find-at.result place (omega arith) c.index_mut.ensures.value c.fill.ensures.new
    ∙ placed_put c.args.instance task (Some c.args.replica) items (omega arith))
    ∙ after_put i c.args.instance t task (Some c.args.replica) items

pub returns-clause-ok : goal.returns-clause-ok
returns-clause-ok c i t =
    let items = c.args.self.now.places.items in
    let task = c.args.replica.id in
    let place = c.find-at.ensures ∙ ap (place_in c.args.instance c.id-task.result) c.deref.ensures.value ∙ ap (λ (u : TaskId). place_in c.args.instance u items) c.id-task.ensures in
    ap (parked_in i t)
    (c.push_reserved.ensures.items
    ∙ ap (λ l. l ++ record { instance = c.args.instance; task = c.id-task.result; replica = Some c.args.replica } ∷ []) c.reserve.ensures.items
    ∙ ap (λ (u : TaskId). items ++ record { instance = c.args.instance; task = u; replica = Some c.args.replica } ∷ []) c.id-task.ensures
    ∙ (none_there c.args.instance task items (omega arith)).2 (Some c.args.replica))
    ∙ after_put i c.args.instance t task (Some c.args.replica) items
