use Rattle.std.proofs.Common.{refl, ◌∙◌}
use Rattle.ks_shared.proofs.Turns.{called_in, frame_here, begins_here, grows_grew}
use Rattle.ks_shared.proofs.Seen.{offsets_then}
use Rattle.ks_shared.proofs.shared.Shared.send_offsets.Goals as goal

pub send_offsets-answer-requires : goal.send_offsets-answer-requires
send_offsets-answer-requires g c =
    let e = c.enter-state.ensures in
    offsets_then g.W.Work.plan _ _ c.deref_mut.result.now (frame_here _ c.deref_mut.result.now c.enter-state.result (c.deref_mut.ensures.value ∙ c.state.view_is) e.frame) (begins_here _ c.deref_mut.result.now c.enter-state.result (c.deref_mut.ensures.value ∙ c.state.view_is) e.begins) c.args.w c.args.epoch c.args.generation c.args.task c.args.offsets.now c.args.order.now c.args.late c.requires.meets

pub returns : goal.returns
returns g c =
    let e = c.enter-state.ensures in
    called_in g.W.Work.plan _ _ _ c.enter-state.result c.deref_mut.result.now c.send_offsets-answer.new.self c.send_offsets-answer.new.self c.deref.result.now _ (c.deref_mut.ensures.value ∙ c.state.view_is) refl c.deref.ensures c.requires.free e.pass e.begins e.frame e.reserved (c.send_offsets-answer.ensures.ok, c.send_offsets-answer.ensures.err, c.send_offsets-answer.ensures.last_stays) (grows_grew c.deref_mut.result.now c.send_offsets-answer.new.self c.send_offsets-answer.ensures.grows) c.tell.ensures c.leave.ensures
