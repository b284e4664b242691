use Rattle.ks_worker_client.proofs.Moments.{later_twice}
use Rattle.ks_worker_turn.proofs.Requests.{joined_then}
use Rattle.ks_worker_turn.proofs.joining.enter_group.Goals as goal

pub returns-in_err-join-clause-later : goal.returns-in_err-join-clause-later
returns-in_err-join-clause-later g c = later_twice g.W.Work.plan _ _ _ c.write_markers.ensures.later c.join.ensures.later

pub returns-clause-later : goal.returns-clause-later
returns-clause-later g c = later_twice g.W.Work.plan _ _ _ c.write_markers.ensures.later c.join.ensures.later

pub returns-clause-made : goal.returns-clause-made
returns-clause-made g c =
    let h = c.in_ok-write_markers.ensures.made in
    (h.0, joined_then g.W.Work.plan c.args.number c.args.client.now.pass c.write_markers.new.client.pass c.join.new.self.pass h.0 c.in_ok-join.field-0 h.1 c.in_ok-join.ensures.wrote)
