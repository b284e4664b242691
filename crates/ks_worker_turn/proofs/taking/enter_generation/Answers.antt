use Rattle.std.proofs.Common.{◌∙◌, refl, arith}
use Rattle.ks_topo.specs.Topologies.{draft_of}
use Rattle.ks_worker_turn.proofs.Placed.{in_generation, generation_later}
use Rattle.ks_worker_client.proofs.Moments.{not_later}
use Rattle.ks_worker_turn.proofs.Requests.{turn_none}
use Rattle.ks_worker_turn.proofs.taking.enter_generation.Goals as goal

pub returns-clause-worker : goal.returns-clause-worker
returns-clause-worker g c =
    let n = c.park_others.new.state in
    in_generation g.W.Work.plan (draft_of c.args.topology.now) n.session.client.pass n.member n.session.last n.session.numbers.items c.args.generation n.tasks.items n.replicas.items
    (generation_later g.W.Work.plan c.args.state.now.session.client.pass n.session.client.pass c.args.generation c.park_others.ensures.later.later c.requires.past)
    (c.park_others.ensures.tasks ∙ c.requires.rested c.if-generation-state.false) c.in_ok-park_others.ensures.worker

pub returns-then-generation-state-clause-made : goal.returns-then-generation-state-clause-made
returns-then-generation-state-clause-made g c = turn_none g.W.Work.plan c.args.state.now c.args.state.now (not_later g.W.Work.plan c.args.state.now.session.client.pass c.requires.may.call.history) refl

pub returns-then-generation-state-clause-parked : goal.returns-then-generation-state-clause-parked
returns-then-generation-state-clause-parked g c = λ newer. absurd (omega (arith, newer, c.if-generation-state.true))

pub returns-clause-parked : goal.returns-clause-parked
returns-clause-parked g c = λ newer. c.in_ok-park_others.ensures.parked

pub returns-clause-same : goal.returns-clause-same
returns-clause-same g c = λ older. absurd (omega (arith, older, c.if-generation-state.false))
