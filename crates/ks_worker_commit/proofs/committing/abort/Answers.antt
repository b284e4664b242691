use Rattle.ks_worker_commit.specs.Underway.{memory}
use Rattle.ks_worker_commit.specs.Ends.{AbortsSo}
use Rattle.ks_worker_commit.proofs.Premises.{may_later}
use Rattle.ks_worker_commit.proofs.Carrying.{ok_then}
use Rattle.ks_worker_commit.proofs.Turning.{ends_otherwise, ends_aborted, stops_so, room_then, gate_done, gate_stopped, fenced_as, unfenced_then, never_fenced}
use Rattle.ks_worker_commit.proofs.committing.abort.Goals as goal

pub write_markers-requires : goal.write_markers-requires
write_markers-requires g c = record {
  may = may_later g.W.Work.plan _ c.args.member.number _ _ c.requires.may c.turn_back.ensures.requests.requests
      (room_then c.args.session.now.client.gate c.turn_back.new.session.client.gate c.turn_back.result c.in-Ok.outcome c.in-Ok.is c.in-Aborted.is c.turn_back.ensures.gate c.requires.may.room);
}

pub returns-in_default-clause-so : goal.returns-in_default-clause-so
returns-in_default-clause-so g c = ends_otherwise g.W.Work.plan _ _ c.args.member.number c.args.member.epoch (memory c.args.session.now.last c.args.session.now.numbers.items c.args.session.now.ends.items) (memory c.turn_back.new.session.last c.turn_back.new.session.numbers.items c.turn_back.new.session.ends.items) c.turn_back.result c.in-Ok.outcome c.in-Ok.is c.turn_back.ensures.so c.in_default.not-Aborted

pub returns-in-Ok-write_markers-clause-requests : goal.returns-in-Ok-write_markers-clause-requests
returns-in-Ok-write_markers-clause-requests g c = unfenced_then g.W.Work.plan _ _ c.args.member.number _ c.turn_back.result c.in-Ok.outcome c.in-Ok.is c.in-Aborted.is c.turn_back.ensures.requests c.write_markers.ensures.requests

pub returns-in-Ok-write_markers-clause-so : goal.returns-in-Ok-write_markers-clause-so
returns-in-Ok-write_markers-clause-so g c = ends_aborted g.W.Work.plan _ _ c.args.member.number c.args.member.epoch (memory c.args.session.now.last c.args.session.now.numbers.items c.args.session.now.ends.items) (memory c.turn_back.new.session.last c.turn_back.new.session.numbers.items c.turn_back.new.session.ends.items) c.turn_back.result c.in-Ok.outcome c.in-Ok.is c.turn_back.ensures.so _ (memory c.write_markers.new.session.last c.write_markers.new.session.numbers.items c.write_markers.new.session.ends.items) c.in-Aborted.is c.turn_back.ensures.requests.requests c.write_markers.ensures.requests.requests c.write_markers.ensures.same (ok_then c.write_markers.result tt c.in-Ok-write_markers.is c.write_markers.ensures.none)

pub returns-in-Ok-write_markers-clause-gate : goal.returns-in-Ok-write_markers-clause-gate
returns-in-Ok-write_markers-clause-gate g c = gate_done c.args.session.now.client.gate c.turn_back.new.session.client.gate c.turn_back.result c.in-Ok.outcome c.in-Ok.is c.in-Aborted.is c.turn_back.ensures.gate _ c.write_markers.result c.write_markers.ensures.gate tt c.in-Ok-write_markers.is

pub returns-in-Err-write_markers-clause-requests : goal.returns-in-Err-write_markers-clause-requests
returns-in-Err-write_markers-clause-requests g c = never_fenced g.W.Work.plan _ _ c.args.member.number c.write_markers.result c.in-Err-write_markers.halt c.in-Err-write_markers.is c.write_markers.ensures.done c.outcome_of.result c.outcome_of.ensures (unfenced_then g.W.Work.plan _ _ c.args.member.number _ c.turn_back.result c.in-Ok.outcome c.in-Ok.is c.in-Aborted.is c.turn_back.ensures.requests c.write_markers.ensures.requests)

pub returns-in-Err-write_markers-clause-so : goal.returns-in-Err-write_markers-clause-so
returns-in-Err-write_markers-clause-so g c = stops_so (AbortsSo g.W.Work.plan c.args.session.now.client.pass c.write_markers.new.session.client.pass c.args.member.number c.args.member.epoch (memory c.args.session.now.last c.args.session.now.numbers.items c.args.session.now.ends.items) (memory c.write_markers.new.session.last c.write_markers.new.session.numbers.items c.write_markers.new.session.ends.items)) tt c.write_markers.result c.in-Err-write_markers.halt c.in-Err-write_markers.is c.write_markers.ensures.done c.outcome_of.result c.outcome_of.ensures

pub returns-in-Err-write_markers-clause-gate : goal.returns-in-Err-write_markers-clause-gate
returns-in-Err-write_markers-clause-gate g c = gate_stopped c.args.session.now.client.gate c.turn_back.new.session.client.gate c.turn_back.result c.in-Ok.outcome c.in-Ok.is c.in-Aborted.is c.turn_back.ensures.gate _ c.write_markers.result c.write_markers.ensures.gate c.in-Err-write_markers.halt c.in-Err-write_markers.is c.outcome_of.result c.outcome_of.ensures

pub returns-in_default-clause-requests : goal.returns-in_default-clause-requests
returns-in_default-clause-requests g c = fenced_as g.W.Work.plan _ _ c.args.member.number c.turn_back.result _ c.in-Ok.is c.turn_back.ensures.requests

pub returns-in-Err-clause-requests : goal.returns-in-Err-clause-requests
returns-in-Err-clause-requests g c = fenced_as g.W.Work.plan _ _ c.args.member.number c.turn_back.result _ c.in-Err.is c.turn_back.ensures.requests
