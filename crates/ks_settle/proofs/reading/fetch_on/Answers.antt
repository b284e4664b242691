use Rattle.ks_topo.specs.Topologies.{draft_of, plan_in}
use Rattle.ks_plan.specs.Infos.{input_numbers}
use Rattle.ks_law_topology.specs.Work.{work_of}
use Rattle.ks_history.specs.Machine.{has_topic}
use Rattle.std.proofs.Common.{◌≡◌, true, subst, ◌∙◌}
use Rattle.ks_cluster.specs.View.{setup_of}
use Rattle.ks_def_tasks.specs.Rules.{rules_of}
use Rattle.ks_task.specs.Tasks.{task_view}
use Rattle.ks_settle.proofs.Taking.{may_fetch, fetch_stops, fetch_moves, still_input}
use Rattle.ks_settle.proofs.reading.fetch_on.Goals as goal

pub fetch-requires : goal.fetch-requires
fetch-requires g c =
    may_fetch (draft_of c.args.topology.now) (setup_of g.W.Work.plan c.args.cluster.now) c.args.cluster.now.journal c.args.topic c.args.task.now c.id.result c.input_position-from.result c.requires.may.of.may.made c.requires.reader c.id.ensures c.input_position-from.ensures

pub take_fetched-requires-clause-input : goal.take_fetched-requires-clause-input
take_fetched-requires-clause-input g c = subst (λ q. has_topic c.args.topic (q.inputs (task_view c.args.task.now).task.sub) ≡ true) c.requires.may.of.work c.requires.reader.input

pub returns-then-next-from : goal.returns-then-next-from
returns-then-next-from g c =
    fetch_stops (draft_of c.args.topology.now) (setup_of g.W.Work.plan c.args.cluster.now) c.args.cluster.now.journal c.args.topic c.requires.may.of.may c.is_history.ensures.history c.requires.may.idle
    c.args.task.now c.id.result c.input_position-from.result c.in_ok-recs.next c.requires.reader c.id.ensures c.input_position-from.ensures c.in_ok-recs.ensures.next c.if-next-from.true

pub returns : goal.returns
returns g c =
    let d = draft_of c.args.topology.now in
    let plan = work_of (rules_of g.H.Hash128.hash_of) (plan_in c.args.topology.now) in
    let input : has_topic c.args.topic (input_numbers (plan_in c.args.topology.now) (task_view c.args.task.now).task.sub) ≡ true =
    subst (λ q. has_topic c.args.topic (q.inputs (task_view c.args.task.now).task.sub) ≡ true) c.requires.may.of.work c.requires.reader.input in
    let there : has_topic c.args.topic (input_numbers (plan_in c.args.topology.now) (task_view c.take_fetched.new.task).task.sub) ≡ true =
    still_input (input_numbers (plan_in c.args.topology.now)) plan c.args.topic (task_view c.args.task.now) (task_view c.take_fetched.new.task) c.as_slice.result.now c.in_ok-take_fetched.ensures.view input in
    fetch_moves d (setup_of g.W.Work.plan c.args.cluster.now) c.args.cluster.now.journal c.args.topic c.requires.may.of.may c.is_history.ensures.history c.requires.may.idle
    plan c.args.task.now c.take_fetched.new.task c.skip.new.self c.id.result c.input_position-from.result c.in_ok-recs.next c.in_ok-recs.recs.items c.as_slice.result.now
    c.requires.reader c.requires.may.of.work c.id.ensures c.input_position-from.ensures c.in_ok-recs.ensures.records c.in_ok-recs.ensures.next c.if-next-from.false c.as_slice.ensures.value
    c.in_ok-take_fetched.ensures.view (c.skip.ensures.task d c.in_ok-take_fetched.ensures.task) (c.skip.ensures.view d c.in_ok-take_fetched.ensures.task there) (c.skip.ensures.cache ∙ c.take_fetched.ensures.cache)
