use Rattle.std.proofs.Common.{false, inl, ◌++◌, sym, ap, ◌∙◌, refl}
use Rattle.std.proofs.lemmas.Bool.{true≢false}
use Rattle.ks_topo.specs.Topologies.{draft_of}
use Rattle.ks_worker_client.specs.declared.member.Member.{Member}
use Rattle.ks_worker_client.proofs.Halting.{same_counts}
use Rattle.ks_worker_state.proofs.States.{may_act_on, state_later_twice}
use Rattle.ks_worker_turn.proofs.Placed.{with_one, halted_ok, at_frame, unnamed, where_ok, named_tasks}
use Rattle.std.proofs.lemmas.Result.{on_ok_weaker}
use Rattle.ks_worker_client.proofs.Moments.{not_later}
use Rattle.ks_worker_state.specs.Names.{task_names, replica_names}
use Rattle.ks_worker_turn.specs.Held.{names_held}
use Rattle.ks_worker_turn.proofs.Holding.{is_without}
use Rattle.ks_worker_turn.proofs.Requests.{turn_none, turn_then}
use Rattle.ks_worker_turn.proofs.Taken.{holds_task, holds_again, one_replica_more, one_named}
use Rattle.ks_worker_turn.proofs.Activated.{named_restored}
use Rattle.ks_worker_turn.proofs.Listing.{among_itself, among_same, among_from}
use Rattle.ks_worker_turn.proofs.taking.take_place.Goals as goal

pub returns-then-not-is_active-clause-worker : goal.returns-then-not-is_active-clause-worker
returns-then-not-is_active-clause-worker g c =
    let n = c.replica_of.new.state in
    halted_ok c.or_halt.result c.put_replica.result c.or_halt.ensures
    (λ put. with_one g.W.Work.plan (draft_of c.args.topology.now) n.session.client.pass n.member n.session.last n.session.numbers.items n.tasks.items n.replicas.items c.put_replica.new.replicas.items c.in_ok-replica.replica
    (unnamed c.args.task c.in_ok-replica.replica.id c.deref.result.now c.args.state.now.tasks.items n.tasks.items c.in_ok-replica.ensures.named c.deref.ensures.value c.replica_of.ensures.tasks
    (sym c.has_task_of.ensures ∙ c.if-has_task_of.false)) (is_without c.args.task c.in_ok-replica.replica.id c.args.state.now.replicas.items n.replicas.items c.in_ok-replica.ensures.named c.in_ok-replica.ensures.without)
    (at_frame g.W.Work.plan c.args.state.now.session.client.pass n.session.client.pass n.session.client.pass.seen c.in_ok-replica.replica c.replica_of.ensures.later.later c.in_ok-replica.ensures.standby) put c.in_ok-replica.ensures.worker)
    c.put_replica.ensures

pub activate-requires-clause-may : goal.activate-requires-clause-may
activate-requires-clause-may g c =
    may_act_on g.W.Work.plan g.H.Hash128.hash_of _ (draft_of c.args.topology.now) c.args.state.now c.replica_of.new.state c.requires.may c.replica_of.ensures.later
    (same_counts _ _ c.replica_of.result c.in_ok-replica.replica c.in_ok-replica.was c.replica_of.ensures.gate) c.in_ok-replica.ensures.worker

pub activate-requires-clause-standby : goal.activate-requires-clause-standby
activate-requires-clause-standby g c =
    let n = c.replica_of.new.state in
    at_frame g.W.Work.plan c.args.state.now.session.client.pass n.session.client.pass n.session.client.pass.seen c.in_ok-replica.replica c.replica_of.ensures.later.later c.in_ok-replica.ensures.standby

pub activate-requires-clause-none : goal.activate-requires-clause-none
activate-requires-clause-none g c =
    unnamed c.args.task c.in_ok-replica.replica.id c.deref.result.now c.args.state.now.tasks.items c.replica_of.new.state.tasks.items c.in_ok-replica.ensures.named c.deref.ensures.value c.replica_of.ensures.tasks
    (sym c.has_task_of.ensures ∙ c.if-has_task_of.false)

pub activate-requires-clause-member : goal.activate-requires-clause-member
activate-requires-clause-member g c = ap (λ (m : Member). m.is_member) c.replica_of.ensures.member ∙ c.requires.member c.if-not-is_active.false

pub returns-clause-later : goal.returns-clause-later
returns-clause-later g c = state_later_twice g.W.Work.plan c.args.state.now c.replica_of.new.state c.activate.new.state c.replica_of.ensures.later c.activate.ensures.later

pub activate-requires-clause-apart : goal.activate-requires-clause-apart
activate-requires-clause-apart g c = is_without c.args.task c.in_ok-replica.replica.id c.args.state.now.replicas.items c.replica_of.new.state.replicas.items c.in_ok-replica.ensures.named c.in_ok-replica.ensures.without

pub returns-then-has_task_of-clause-made : goal.returns-then-has_task_of-clause-made
returns-then-has_task_of-clause-made g c = turn_none g.W.Work.plan c.args.state.now c.args.state.now (not_later g.W.Work.plan c.args.state.now.session.client.pass c.requires.may.call.history) refl

pub returns-then-has_task_of-clause-held : goal.returns-then-has_task_of-clause-held
returns-then-has_task_of-clause-held g c =
    holds_task c.args.state.now c.args.task c.requires.may.worker.once (named_tasks c.args.task c.deref.result.now c.args.state.now.tasks.items c.deref.ensures.value (sym c.has_task_of.ensures ∙ c.if-has_task_of.true))

pub returns-then-not-is_active-clause-made : goal.returns-then-not-is_active-clause-made
returns-then-not-is_active-clause-made g c = where_ok c.or_halt.result c.in_ok-replica.ensures.made

pub returns-then-not-is_active-clause-held : goal.returns-then-not-is_active-clause-held
returns-then-not-is_active-clause-held g c =
    let s = c.args.state.now in
    let n = c.replica_of.new.state in
    halted_ok c.or_halt.result c.put_replica.result c.or_halt.ensures
    (λ put. holds_again s n (task_names n.tasks.items ++ replica_names c.put_replica.new.replicas.items) c.args.task (named_tasks c.args.task c.deref.result.now s.tasks.items c.deref.ensures.value (sym c.has_task_of.ensures ∙ c.if-has_task_of.false))
    c.replica_of.ensures.tasks c.in_ok-replica.ensures.without
    (one_replica_more n.tasks.items n.tasks.items n.replicas.items c.put_replica.new.replicas.items c.args.task c.in_ok-replica.replica c.in_ok-replica.ensures.named refl put))
    c.put_replica.ensures

pub returns-clause-made : goal.returns-clause-made
returns-clause-made g c =
    on_ok_weaker c.activate.result (λ h. turn_then g.W.Work.plan c.args.state.now c.replica_of.new.state c.activate.new.state c.replica_of.ensures.later c.in_ok-replica.ensures.made h) c.activate.ensures.made

pub returns-clause-held : goal.returns-clause-held
returns-clause-held g c =
    let s = c.args.state.now in
    let n = c.replica_of.new.state in
    on_ok_weaker c.activate.result
    (λ more. holds_again s n (names_held c.activate.new.state) c.args.task (named_tasks c.args.task c.deref.result.now s.tasks.items c.deref.ensures.value (sym c.has_task_of.ensures ∙ c.if-has_task_of.false))
    c.replica_of.ensures.tasks c.in_ok-replica.ensures.without
    (one_named n c.activate.new.state c.in_ok-replica.replica.id c.args.task c.in_ok-replica.ensures.named more))
    c.activate.ensures.held

pub returns-then-has_task_of-clause-kept : goal.returns-then-has_task_of-clause-kept
returns-then-has_task_of-clause-kept g c = among_itself c.args.state.now.tasks.items

pub returns-then-has_task_of-clause-restored : goal.returns-then-has_task_of-clause-restored
returns-then-has_task_of-clause-restored g c = λ active.
    inl (named_tasks c.args.task c.deref.result.now c.args.state.now.tasks.items c.deref.ensures.value (sym c.has_task_of.ensures ∙ c.if-has_task_of.true))

pub returns-then-not-is_active-clause-kept : goal.returns-then-not-is_active-clause-kept
returns-then-not-is_active-clause-kept g c = where_ok c.or_halt.result (among_same c.args.state.now.tasks.items c.replica_of.new.state.tasks.items c.replica_of.ensures.tasks)

pub returns-then-not-is_active-clause-restored : goal.returns-then-not-is_active-clause-restored
returns-then-not-is_active-clause-restored g c = where_ok c.or_halt.result (λ active. absurd (true≢false (sym active ∙ c.if-not-is_active.true)))

pub returns-clause-kept : goal.returns-clause-kept
returns-clause-kept g c =
    on_ok_weaker c.activate.result (among_from c.args.state.now.tasks.items c.replica_of.new.state.tasks.items c.activate.new.state.tasks.items c.replica_of.ensures.tasks) c.activate.ensures.kept

pub returns-clause-restored : goal.returns-clause-restored
returns-clause-restored g c =
    on_ok_weaker c.activate.result
    (λ h active. named_restored g.W.Work.plan c.args.state.now c.replica_of.new.state c.activate.new.state c.in_ok-replica.replica.id c.args.task c.in_ok-replica.ensures.named c.replica_of.ensures.later.later h)
    c.activate.ensures.restored
