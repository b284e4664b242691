use Rattle.std.proofs.Common.{arith, ap, ◌∙◌, Some}
use Rattle.ks_record.specs.declared.record.TaskId.{TaskId}
use Rattle.ks_standby.specs.Shelf.{place_in, parked_in}
use Rattle.ks_standby.proofs.Shelving.{there_placed, placed_put, after_put}
use Rattle.ks_standby.proofs.parked.Parked.set.Goals as goal

pub returns : goal.returns
returns c i t =
    let items = c.args.self.now.places.items in
    let task = c.args.replica.id in
    let place = c.find-at.ensures ∙ ap (place_in c.args.instance c.id.result) c.deref.ensures.value ∙ ap (λ (u : TaskId). place_in c.args.instance u items) c.id.ensures in
    ap (parked_in i t)
    (there_placed c.args.instance task (Some c.args.replica) items c.index_mut.result.now c.fill.new.place c.find-at.result place (omega (arith, place, c.requires)) c.index_mut.ensures.value c.fill.ensures.new
    ∙ placed_put c.args.instance task (Some c.args.replica) items c.requires)
    ∙ after_put i c.args.instance t task (Some c.args.replica) items
