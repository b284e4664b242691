use Rattle.std.proofs.Common.{refl, ap, ◌∙◌}
use Rattle.ks_topo.specs.Topologies.{draft_of, plan_in}
use Rattle.ks_worker_client.specs.declared.member.Member.{Member}
use Rattle.ks_worker_client.proofs.Halting.{same_counts}
use Rattle.ks_worker_client.proofs.Moments.{may_later}
use Rattle.ks_worker_state.proofs.States.{may_act_on, state_later_twice}
use Rattle.ks_worker_turn.proofs.Keeping.{told_state, still_rested, keeps_both}
use Rattle.ks_worker_turn.proofs.Assigned.{either_within}
use Rattle.ks_worker_turn.proofs.Offered.{serves_later}
use Rattle.ks_worker_turn.proofs.Begun.{begun}
use Rattle.ks_worker_turn.proofs.Requests.{turn_none, turn_then, has_joined}
use Rattle.ks_plan.specs.Layout.{tasks}
use Rattle.std.proofs.lemmas.Result.{IfOk-from_err}
use Rattle.ks_worker_state.proofs.Exits.{counts_out, counts_in}
use Rattle.ks_worker_turn.proofs.beginning.begin_turn.Goals as goal

pub heed_status-requires : goal.heed_status-requires
heed_status-requires g c = record {
  may = may_later g.W.Work.plan _ _ _ _ _ c.join_group.ensures.later.later (same_counts _ _ c.join_group.result c.in_ok-join_group.field-0 c.in_ok-join_group.was c.join_group.ensures.gate) c.requires.may.call;
}

pub place_tasks-requires-clause-may : goal.place_tasks-requires-clause-may
place_tasks-requires-clause-may g c =
    let s = c.args.state.now in
    let one = c.join_group.new.state in
    let two = c.heed_status.new.state in
    may_act_on g.W.Work.plan g.H.Hash128.hash_of _ (draft_of c.args.topology.now) s two c.requires.may (state_later_twice g.W.Work.plan s one two c.join_group.ensures.later c.heed_status.ensures.later)
    (same_counts _ _ c.heed_status.result c.in_ok-status.status c.in_ok-status.was c.heed_status.ensures.gate ∙ same_counts _ _ c.join_group.result c.in_ok-join_group.field-0 c.in_ok-join_group.was c.join_group.ensures.gate)
    (keeps_both g.W.Work.plan s one two c.join_group.ensures.later c.in_ok-join_group.ensures.worker c.in_ok-status.ensures.worker g.H.Hash128.hash_of (draft_of c.args.topology.now) c.requires.may.topology c.requires.may.worker)

pub place_tasks-requires-clause-placing : goal.place_tasks-requires-clause-placing
place_tasks-requires-clause-placing g c =
    let s = c.args.state.now in
    let one = c.join_group.new.state in
    let two = c.heed_status.new.state in
    serves_later g.W.Work.plan g.W.Work.good c.args.placing.now (draft_of c.args.topology.now) s.session.client.pass two.session.client.pass
    (state_later_twice g.W.Work.plan s one two c.join_group.ensures.later c.heed_status.ensures.later).later c.requires.placing

pub place_tasks-requires-clause-status : goal.place_tasks-requires-clause-status
place_tasks-requires-clause-status g c = told_state g.W.Work.plan c.join_group.new.state c.heed_status.new.state c.in_ok-status.status c.heed_status.ensures.later.later c.in_ok-status.ensures.status

pub place_tasks-requires-clause-rested : goal.place_tasks-requires-clause-rested
place_tasks-requires-clause-rested g c = λ newer. c.in_ok-status.ensures.newer (still_rested c.join_group.new.state.member c.heed_status.new.state.member _ _ c.in_ok-status.ensures.member newer)

pub returns-clause-later : goal.returns-clause-later
returns-clause-later g c =
    let s = c.args.state.now in
    let one = c.join_group.new.state in
    let two = c.heed_status.new.state in
    let three = c.place_tasks.new.state in
    state_later_twice g.W.Work.plan s two three (state_later_twice g.W.Work.plan s one two c.join_group.ensures.later c.heed_status.ensures.later) c.place_tasks.ensures.later

pub returns-clause-generation : goal.returns-clause-generation
returns-clause-generation g c =
    let s = c.args.state.now in
    let one = c.join_group.new.state in
    let two = c.heed_status.new.state in
    let three = c.place_tasks.new.state in
    either_within g.W.Work.plan s.session.client.pass two.session.client.pass three.session.client.pass _ _ _
    (state_later_twice g.W.Work.plan s one two c.join_group.ensures.later c.heed_status.ensures.later).later
    (ap (λ (m : Member). m.generation) c.in_ok-status.ensures.member ∙ c.join_group.ensures.generation) c.in_ok-place_tasks.ensures.generation

pub returns-clause-made : goal.returns-clause-made
returns-clause-made g c =
    let s = c.args.state.now in
    let one = c.join_group.new.state in
    let two = c.heed_status.new.state in
    turn_then g.W.Work.plan s two c.place_tasks.new.state (state_later_twice g.W.Work.plan s one two c.join_group.ensures.later c.heed_status.ensures.later)
    (turn_then g.W.Work.plan s one two c.join_group.ensures.later c.in_ok-join_group.ensures.made (turn_none g.W.Work.plan one two c.heed_status.ensures.later.later c.heed_status.ensures.made))
    c.in_ok-place_tasks.ensures.made

pub returns-clause-begun : goal.returns-clause-begun
returns-clause-begun g c =
    let s = c.args.state.now in
    let one = c.join_group.new.state in
    let two = c.heed_status.new.state in
    begun g.W.Work.plan c.args.placing.now.threads (tasks (plan_in c.args.topology.now)) s one two c.place_tasks.new.state c.in_ok-status.status
    (state_later_twice g.W.Work.plan s one two c.join_group.ensures.later c.heed_status.ensures.later) c.place_tasks.ensures.later c.join_group.ensures.generation c.join_group.ensures.later.number
    (ap (λ v. v.items) c.join_group.ensures.tasks) (ap (λ v. v.items) c.join_group.ensures.replicas)
    (told_state g.W.Work.plan one two c.in_ok-status.status c.heed_status.ensures.later.later c.in_ok-status.ensures.status)
    c.in_ok-status.ensures.rested c.in_ok-status.ensures.member
    (has_joined g.W.Work.plan s one two c.heed_status.ensures.later.later c.join_group.ensures.nothing c.in_ok-join_group.ensures.joined c.heed_status.ensures.made
    c.in_ok-join_group.ensures.begun (ap (λ (m : Member). m.epoch) c.in_ok-status.ensures.member) c.heed_status.ensures.last (ap (λ v. v.items) c.heed_status.ensures.numbers)) c.in_ok-place_tasks.ensures.placed

pub returns-in_err-join_group-clause-gate : goal.returns-in_err-join_group-clause-gate
returns-in_err-join_group-clause-gate g c = counts_out _ _ _ c.join_group.result c.from_residual.result c.in_err-join_group.field-0.0 refl c.in_err-join_group.was c.join_group.ensures.gate c.from_residual.ensures.1

pub returns-in_err-join_group-clause-made : goal.returns-in_err-join_group-clause-made
returns-in_err-join_group-clause-made g c = IfOk-from_err c.from_residual.result _ c.from_residual.ensures.0

pub returns-in_err-join_group-clause-worker : goal.returns-in_err-join_group-clause-worker
returns-in_err-join_group-clause-worker g c = IfOk-from_err c.from_residual.result _ c.from_residual.ensures.0

pub returns-in_err-join_group-clause-generation : goal.returns-in_err-join_group-clause-generation
returns-in_err-join_group-clause-generation g c = IfOk-from_err c.from_residual.result _ c.from_residual.ensures.0

pub returns-in_err-join_group-clause-begun : goal.returns-in_err-join_group-clause-begun
returns-in_err-join_group-clause-begun g c = IfOk-from_err c.from_residual.result _ c.from_residual.ensures.0

pub returns-in_err-status-clause-gate : goal.returns-in_err-status-clause-gate
returns-in_err-status-clause-gate g c =
    counts_out _ _ _ c.heed_status.result c.from_residual-in_err-status.result c.in_err-status.field-0.0 (same_counts _ _ c.join_group.result _ c.in_ok-join_group.was c.join_group.ensures.gate) c.in_err-status.was c.heed_status.ensures.gate c.from_residual-in_err-status.ensures.1

pub returns-in_err-status-clause-later : goal.returns-in_err-status-clause-later
returns-in_err-status-clause-later g c = state_later_twice g.W.Work.plan c.args.state.now c.join_group.new.state c.heed_status.new.state c.join_group.ensures.later c.heed_status.ensures.later

pub returns-in_err-status-clause-made : goal.returns-in_err-status-clause-made
returns-in_err-status-clause-made g c = IfOk-from_err c.from_residual-in_err-status.result _ c.from_residual-in_err-status.ensures.0

pub returns-in_err-status-clause-worker : goal.returns-in_err-status-clause-worker
returns-in_err-status-clause-worker g c = IfOk-from_err c.from_residual-in_err-status.result _ c.from_residual-in_err-status.ensures.0

pub returns-in_err-status-clause-generation : goal.returns-in_err-status-clause-generation
returns-in_err-status-clause-generation g c = IfOk-from_err c.from_residual-in_err-status.result _ c.from_residual-in_err-status.ensures.0

pub returns-in_err-status-clause-begun : goal.returns-in_err-status-clause-begun
returns-in_err-status-clause-begun g c = IfOk-from_err c.from_residual-in_err-status.result _ c.from_residual-in_err-status.ensures.0

pub returns-in_err-place_tasks-clause-gate : goal.returns-in_err-place_tasks-clause-gate
returns-in_err-place_tasks-clause-gate g c =
    counts_out _ _ _ c.place_tasks.result c.from_residual-in_err-place_tasks.result c.in_err-place_tasks.field-0.0 (same_counts _ _ c.heed_status.result _ c.in_ok-status.was c.heed_status.ensures.gate ∙ same_counts _ _ c.join_group.result _ c.in_ok-join_group.was c.join_group.ensures.gate)
    c.in_err-place_tasks.was c.place_tasks.ensures.gate c.from_residual-in_err-place_tasks.ensures.1

pub returns-in_err-place_tasks-clause-later : goal.returns-in_err-place_tasks-clause-later
returns-in_err-place_tasks-clause-later g c =
    state_later_twice g.W.Work.plan c.args.state.now c.heed_status.new.state c.place_tasks.new.state (state_later_twice g.W.Work.plan c.args.state.now c.join_group.new.state c.heed_status.new.state c.join_group.ensures.later c.heed_status.ensures.later) c.place_tasks.ensures.later

pub returns-in_err-place_tasks-clause-made : goal.returns-in_err-place_tasks-clause-made
returns-in_err-place_tasks-clause-made g c = IfOk-from_err c.from_residual-in_err-place_tasks.result _ c.from_residual-in_err-place_tasks.ensures.0

pub returns-in_err-place_tasks-clause-worker : goal.returns-in_err-place_tasks-clause-worker
returns-in_err-place_tasks-clause-worker g c = IfOk-from_err c.from_residual-in_err-place_tasks.result _ c.from_residual-in_err-place_tasks.ensures.0

pub returns-in_err-place_tasks-clause-generation : goal.returns-in_err-place_tasks-clause-generation
returns-in_err-place_tasks-clause-generation g c = IfOk-from_err c.from_residual-in_err-place_tasks.result _ c.from_residual-in_err-place_tasks.ensures.0

pub returns-in_err-place_tasks-clause-begun : goal.returns-in_err-place_tasks-clause-begun
returns-in_err-place_tasks-clause-begun g c = IfOk-from_err c.from_residual-in_err-place_tasks.result _ c.from_residual-in_err-place_tasks.ensures.0

pub returns-clause-gate : goal.returns-clause-gate
returns-clause-gate g c =
    counts_in _ _ _ c.place_tasks.result _ (same_counts _ _ c.heed_status.result _ c.in_ok-status.was c.heed_status.ensures.gate ∙ same_counts _ _ c.join_group.result _ c.in_ok-join_group.was c.join_group.ensures.gate)
    c.in_ok-place_tasks.was c.place_tasks.ensures.gate

pub returns-clause-worker : goal.returns-clause-worker
returns-clause-worker g c = c.in_ok-place_tasks.ensures.worker
