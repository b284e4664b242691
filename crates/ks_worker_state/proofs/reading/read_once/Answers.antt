use Rattle.std.proofs.Common.{refl, sym, ap, ◌∙◌}
use Rattle.ks_record.specs.declared.record.TaskId.{TaskId}
use Rattle.ks_plan.specs.Infos.{input_numbers}
use Rattle.ks_topo.specs.Topologies.{draft_of, plan_in}
use Rattle.ks_history.specs.State.{Setup}
use Rattle.ks_law_topology.specs.Work.{work_of}
use Rattle.ks_def_tasks.specs.Rules.{rules_of}
use Rattle.ks_shared.specs.Calls.{setup_in}
use Rattle.ks_task.specs.Tasks.{task_view}
use Rattle.ks_worker_client.proofs.Halting.{was_ok, was_memory, same_counts}
use Rattle.ks_worker_state.proofs.ReadOn.{may_read, own_input, still_input, skipped, held_later, read_stops, held_read, read_moves}
use Rattle.std.proofs.lemmas.Result.{IfOk-from_err}
use Rattle.ks_worker_state.proofs.Exits.{counts_out, counts_none, counts_memory}
use Rattle.ks_worker_state.proofs.reading.read_once.Goals as goal

pub fetch-requires-clause-fetch : goal.fetch-requires-clause-fetch
fetch-requires-clause-fetch g c =
    let setup = setup_in g.W.Work.plan c.args.session.now.client.pass.frame in
    may_read setup c.args.session.now.client.pass.seen c.args.member.now.number c.args.member.now.generation c.args.session.now.last (task_view c.args.task.now) c.args.topic c.id.result.part c.input_position-from.result
    c.requires.may.setup c.requires.task.held (own_input g.H.Hash128.hash_of (draft_of c.args.topology.now) setup c.args.topic (task_view c.args.task.now).task.sub c.requires.topology c.requires.input)
    (ap (λ (t : TaskId). t.part) c.id.ensures) c.input_position-from.ensures

pub returns-then-next-from-clause-task : goal.returns-then-next-from-clause-task
returns-then-next-from-clause-task g c =
    held_later g.W.Work.plan _ _ c.fetch.ensures.later (draft_of c.args.topology.now) c.args.member.now c.args.session.now.last c.args.topic c.args.task.now c.requires.may.network c.requires.seen c.requires.task

pub returns-then-next-from-clause-read : goal.returns-then-next-from-clause-read
returns-then-next-from-clause-read g c =
    let setup = setup_in g.W.Work.plan c.args.session.now.client.pass.frame in
    read_stops g.W.Work.plan _ _ c.fetch.ensures.later (draft_of c.args.topology.now) c.args.member.now c.args.session.now.last c.args.topic c.args.task.now c.requires.may.network c.requires.seen c.requires.task
    c.id.result.part c.input_position-from.result c.in_ok-recs.next c.in_ok-recs.recs.items (own_input g.H.Hash128.hash_of (draft_of c.args.topology.now) setup c.args.topic (task_view c.args.task.now).task.sub c.requires.topology c.requires.input)
    (ap (λ (t : TaskId). t.part) c.id.ensures) c.input_position-from.ensures c.in_ok-recs.ensures.records c.in_ok-recs.ensures.next c.if-next-from.true

pub returns-clause-task : goal.returns-clause-task
returns-clause-task g c =
    let d = draft_of c.args.topology.now in
    let setup = setup_in g.W.Work.plan c.args.session.now.client.pass.frame in
    let work = work_of (rules_of g.H.Hash128.hash_of) (plan_in c.args.topology.now) in
    let took = sym c.or_halt.ensures ∙ c.in_ok-or_halt.was in
    let view = was_ok c.take_fetched.result _ _ took c.take_fetched.ensures.view in
    let of = was_ok c.take_fetched.result _ _ took c.take_fetched.ensures.task in
    let there = still_input (input_numbers (plan_in c.args.topology.now)) work c.args.topic (task_view c.args.task.now) (task_view c.take_fetched.new.task) c.as_slice.result.now view c.requires.input in
    held_read g.W.Work.plan _ _ c.fetch.ensures.later d c.args.member.now c.args.session.now.last c.args.topic c.args.task.now c.requires.may.network c.requires.seen c.requires.task
    c.id.result.part c.input_position-from.result c.in_ok-recs.next c.in_ok-recs.recs.items (own_input g.H.Hash128.hash_of d setup c.args.topic (task_view c.args.task.now).task.sub c.requires.topology c.requires.input)
    (ap (λ (t : TaskId). t.part) c.id.ensures) c.input_position-from.ensures c.in_ok-recs.ensures.records c.in_ok-recs.ensures.next
    c.skip.new.self (c.skip.ensures.task d of) (c.skip.ensures.cache ∙ c.take_fetched.ensures.cache) c.if-next-from.false
    (skipped setup.plan work (ap (λ (s : Setup). s.plan) c.requires.topology.setup_is) (task_view c.args.task.now) (task_view c.take_fetched.new.task) (task_view c.skip.new.self) c.args.topic c.in_ok-recs.next c.in_ok-recs.recs.items c.as_slice.result.now
    view c.as_slice.ensures.value (c.skip.ensures.view d of there))

pub returns-clause-read : goal.returns-clause-read
returns-clause-read g c =
    let d = draft_of c.args.topology.now in
    let setup = setup_in g.W.Work.plan c.args.session.now.client.pass.frame in
    let work = work_of (rules_of g.H.Hash128.hash_of) (plan_in c.args.topology.now) in
    let took = sym c.or_halt.ensures ∙ c.in_ok-or_halt.was in
    let view = was_ok c.take_fetched.result _ _ took c.take_fetched.ensures.view in
    let of = was_ok c.take_fetched.result _ _ took c.take_fetched.ensures.task in
    let there = still_input (input_numbers (plan_in c.args.topology.now)) work c.args.topic (task_view c.args.task.now) (task_view c.take_fetched.new.task) c.as_slice.result.now view c.requires.input in
    read_moves g.W.Work.plan _ _ c.fetch.ensures.later d c.args.member.now c.args.session.now.last c.args.topic c.args.task.now c.requires.may.network c.requires.seen c.requires.task
    c.id.result.part c.input_position-from.result c.in_ok-recs.next c.in_ok-recs.recs.items (own_input g.H.Hash128.hash_of d setup c.args.topic (task_view c.args.task.now).task.sub c.requires.topology c.requires.input)
    (ap (λ (t : TaskId). t.part) c.id.ensures) c.input_position-from.ensures c.in_ok-recs.ensures.records c.in_ok-recs.ensures.next
    c.skip.new.self (c.skip.ensures.task d of) (c.skip.ensures.cache ∙ c.take_fetched.ensures.cache) c.if-next-from.false
    (skipped setup.plan work (ap (λ (s : Setup). s.plan) c.requires.topology.setup_is) (task_view c.args.task.now) (task_view c.take_fetched.new.task) (task_view c.skip.new.self) c.args.topic c.in_ok-recs.next c.in_ok-recs.recs.items c.as_slice.result.now
    view c.as_slice.ensures.value (c.skip.ensures.view d of there))

pub returns-in_err-recs-clause-gate : goal.returns-in_err-recs-clause-gate
returns-in_err-recs-clause-gate g c = counts_out _ _ _ c.fetch.result c.from_residual.result c.in_err-recs.field-0.0 refl c.in_err-recs.was c.fetch.ensures.gate c.from_residual.ensures.1

pub returns-in_err-recs-clause-task : goal.returns-in_err-recs-clause-task
returns-in_err-recs-clause-task g c = IfOk-from_err c.from_residual.result _ c.from_residual.ensures.0

pub returns-in_err-recs-clause-read : goal.returns-in_err-recs-clause-read
returns-in_err-recs-clause-read g c = IfOk-from_err c.from_residual.result _ c.from_residual.ensures.0

pub returns-in_err-recs-clause-stays : goal.returns-in_err-recs-clause-stays
returns-in_err-recs-clause-stays g c = IfOk-from_err c.from_residual.result _ c.from_residual.ensures.0

pub returns-then-next-from-clause-gate : goal.returns-then-next-from-clause-gate
returns-then-next-from-clause-gate g c = counts_none _ _ (same_counts _ _ c.fetch.result _ c.in_ok-recs.was c.fetch.ensures.gate)

pub returns-in_err-or_halt-clause-gate : goal.returns-in_err-or_halt-clause-gate
returns-in_err-or_halt-clause-gate g c = counts_memory _ _ c.from_residual-in_err-or_halt.result c.in_err-or_halt.field-0.0 (same_counts _ _ c.fetch.result _ c.in_ok-recs.was c.fetch.ensures.gate) (was_memory c.take_fetched.result _ (sym c.or_halt.ensures ∙ c.in_err-or_halt.was)) c.from_residual-in_err-or_halt.ensures.1

pub returns-in_err-or_halt-clause-task : goal.returns-in_err-or_halt-clause-task
returns-in_err-or_halt-clause-task g c = IfOk-from_err c.from_residual-in_err-or_halt.result _ c.from_residual-in_err-or_halt.ensures.0

pub returns-in_err-or_halt-clause-read : goal.returns-in_err-or_halt-clause-read
returns-in_err-or_halt-clause-read g c = IfOk-from_err c.from_residual-in_err-or_halt.result _ c.from_residual-in_err-or_halt.ensures.0

pub returns-in_err-or_halt-clause-stays : goal.returns-in_err-or_halt-clause-stays
returns-in_err-or_halt-clause-stays g c = IfOk-from_err c.from_residual-in_err-or_halt.result _ c.from_residual-in_err-or_halt.ensures.0

pub returns-clause-gate : goal.returns-clause-gate
returns-clause-gate g c = counts_none _ _ (same_counts _ _ c.fetch.result _ c.in_ok-recs.was c.fetch.ensures.gate)
