use Rattle.ks_topo.specs.Topologies.{draft_of}
use Rattle.ks_worker_state.proofs.Restored.{ok_said}
use Rattle.ks_worker_turn.proofs.Placed.{activated, kept_back, halted_ok, err_said, where_ok, named_as}
use Rattle.std.proofs.Common.{refl, inl}
use Rattle.ks_worker_state.proofs.Gains.{only_none}
use Rattle.ks_worker_state.specs.Names.{task_names, replica_names}
use Rattle.ks_worker_turn.specs.Requests.{is_of_turn}
use Rattle.ks_worker_turn.proofs.Taken.{one_replica_more, one_task_more}
use Rattle.ks_worker_turn.proofs.Activated.{task_added, given_back}
use Rattle.ks_worker_turn.proofs.Listing.{among_put, among_itself}
use Rattle.ks_worker_turn.proofs.taking.activate.Goals as goal

pub returns-in-Ok-clause-worker : goal.returns-in-Ok-clause-worker
returns-in-Ok-clause-worker g c =
    let s = c.args.state.now in
    let n = c.restore.new.session in
    halted_ok c.or_halt.result c.put_task.result c.or_halt.ensures
    (λ put. activated g.W.Work.plan (draft_of c.args.topology.now) s.session.client.pass n.client.pass c.restore.ensures.later c.requires.may.call.network s.member s.session.last n.last s.session.numbers.items n.numbers.items
    c.restore.ensures.last (λ i. (c.restore.ensures.numbers i).items) s.tasks.items c.put_task.new.tasks.items s.replicas.items c.in-Ok.task c.args.replica c.requires.member
    (ok_said c.in_ok-answer.answer c.in-Ok.task _ c.in-Ok.is c.in_ok-answer.ensures.named) c.requires.none c.requires.apart (ok_said c.in_ok-answer.answer c.in-Ok.task _ c.in-Ok.is c.in_ok-answer.ensures.task) c.requires.may.worker put)
    c.put_task.ensures

pub returns-in-Err-clause-worker : goal.returns-in-Err-clause-worker
returns-in-Err-clause-worker g c =
    let s = c.args.state.now in
    let n = c.restore.new.session in
    halted_ok c.or_halt-in-Err.result c.put_replica.result c.or_halt-in-Err.ensures
    (λ put. kept_back g.W.Work.plan (draft_of c.args.topology.now) s.session.client.pass n.client.pass c.restore.ensures.later c.requires.may.call.network s.member s.session.last n.last s.session.numbers.items n.numbers.items
    c.restore.ensures.last (λ i. (c.restore.ensures.numbers i).items) s.tasks.items s.replicas.items c.put_replica.new.replicas.items c.in-Err.replica
    (named_as c.args.replica.id c.in-Err.replica.id (task_names s.tasks.items) (err_said c.in_ok-answer.answer c.in-Err.replica _ c.in-Err.is c.in_ok-answer.ensures.same) c.requires.none)
    (named_as c.args.replica.id c.in-Err.replica.id (replica_names s.replicas.items) (err_said c.in_ok-answer.answer c.in-Err.replica _ c.in-Err.is c.in_ok-answer.ensures.same) c.requires.apart)
    (err_said c.in_ok-answer.answer c.in-Err.replica _ c.in-Err.is c.in_ok-answer.ensures.standby) c.requires.may.worker put)
    c.put_replica.ensures

pub returns-in-Ok-clause-made : goal.returns-in-Ok-clause-made
returns-in-Ok-clause-made g c =
    let s = c.args.state.now in
    where_ok c.or_halt.result (only_none g.W.Work.plan (is_of_turn s.member.number s.member.instance) s.session.client.pass c.restore.new.session.client.pass c.restore.ensures.later c.restore.ensures.made)

pub returns-in-Err-clause-made : goal.returns-in-Err-clause-made
returns-in-Err-clause-made g c =
    let s = c.args.state.now in
    where_ok c.or_halt-in-Err.result (only_none g.W.Work.plan (is_of_turn s.member.number s.member.instance) s.session.client.pass c.restore.new.session.client.pass c.restore.ensures.later c.restore.ensures.made)

pub returns-in-Ok-clause-held : goal.returns-in-Ok-clause-held
returns-in-Ok-clause-held g c =
    let s = c.args.state.now in
    halted_ok c.or_halt.result c.put_task.result c.or_halt.ensures
    (λ put. one_task_more s.tasks.items c.put_task.new.tasks.items s.replicas.items c.args.replica.id c.in-Ok.task (ok_said c.in_ok-answer.answer c.in-Ok.task _ c.in-Ok.is c.in_ok-answer.ensures.named) put)
    c.put_task.ensures

pub returns-in-Err-clause-held : goal.returns-in-Err-clause-held
returns-in-Err-clause-held g c =
    let s = c.args.state.now in
    halted_ok c.or_halt-in-Err.result c.put_replica.result c.or_halt-in-Err.ensures
    (λ put. one_replica_more s.tasks.items s.tasks.items s.replicas.items c.put_replica.new.replicas.items c.args.replica.id c.in-Err.replica (err_said c.in_ok-answer.answer c.in-Err.replica _ c.in-Err.is c.in_ok-answer.ensures.same) refl put)
    c.put_replica.ensures

pub returns-in-Ok-clause-kept : goal.returns-in-Ok-clause-kept
returns-in-Ok-clause-kept g c =
    halted_ok c.or_halt.result c.put_task.result c.or_halt.ensures (λ put. among_put c.args.state.now.tasks.items c.put_task.new.tasks.items c.in-Ok.task put) c.put_task.ensures

pub returns-in-Err-clause-kept : goal.returns-in-Err-clause-kept
returns-in-Err-clause-kept g c = where_ok c.or_halt-in-Err.result (among_itself c.args.state.now.tasks.items)

pub returns-in-Ok-clause-restored : goal.returns-in-Ok-clause-restored
returns-in-Ok-clause-restored g c =
    halted_ok c.or_halt.result c.put_task.result c.or_halt.ensures
    (λ put. inl (task_added c.args.state.now.tasks.items c.put_task.new.tasks.items c.in-Ok.task c.args.replica.id (ok_said c.in_ok-answer.answer c.in-Ok.task _ c.in-Ok.is c.in_ok-answer.ensures.named) put))
    c.put_task.ensures

pub returns-in-Err-clause-restored : goal.returns-in-Err-clause-restored
returns-in-Err-clause-restored g c =
    let s = c.args.state.now in
    where_ok c.or_halt-in-Err.result
    (given_back g.W.Work.plan s (record s { session = c.restore.new.session; replicas = c.put_replica.new.replicas }) c.args.replica.id c.in-Err.replica (err_said c.in_ok-answer.answer c.in-Err.replica _ c.in-Err.is c.in_ok-answer.ensures.same)
    (err_said c.in_ok-answer.answer c.in-Err.replica _ c.in-Err.is c.in_ok-answer.ensures.back))
