use Rattle.std.proofs.Common.{refl, sym, ◌∙◌}
use Rattle.std.proofs.lemmas.Result.{on_ok_weaker}
use Rattle.ks_worker_client.proofs.Moments.{not_later}
use Rattle.ks_worker_turn.proofs.Holding.{parked_it, parked_not}
use Rattle.ks_worker_turn.proofs.Requests.{turn_none}
use Rattle.ks_worker_turn.proofs.parking.park_unplaced.Goals as goal

pub returns-then-is_placed-clause-made : goal.returns-then-is_placed-clause-made
returns-then-is_placed-clause-made g c = turn_none g.W.Work.plan c.args.state.now c.args.state.now (not_later g.W.Work.plan c.args.state.now.session.client.pass c.requires.call.history) refl

pub returns-then-is_placed-clause-parked : goal.returns-then-is_placed-clause-parked
returns-then-is_placed-clause-parked g c =
    let s = c.args.state.now in
    parked_not g.W.Work.plan s.member.instance c.args.assignment.now s.member.number c.args.task s.session.client.pass s.session.client.pass s.replicas.items (sym c.is_placed.ensures ∙ c.if-is_placed.true)

pub returns-clause-parked : goal.returns-clause-parked
returns-clause-parked g c =
    let s = c.args.state.now in
    let n = c.park_replica.new.state in
    on_ok_weaker c.park_replica.result
    (λ one. parked_it g.W.Work.plan s.member.instance c.args.assignment.now s.member.number c.args.task s.session.client.pass n.session.client.pass s.replicas.items n.replicas.items (sym c.is_placed.ensures ∙ c.if-is_placed.false) one)
    c.park_replica.ensures.parked
