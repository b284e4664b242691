use Rattle.std.proofs.Common.{◌≡◌, true, sym, ap, subst, ◌∙◌}
use Rattle.ks_topo.specs.Topologies.{draft_of}
use Rattle.ks_history.specs.Machine.{TaskPlan, has_topic}
use Rattle.ks_cluster.specs.View.{setup_of}
use Rattle.ks_task.specs.Tasks.{task_view}
use Rattle.ks_audit_commit.proofs.Takes.{fetch_may, fetched_is, passes, passes_not}
use Rattle.ks_audit_commit.proofs.taking.pass_to.Goals as goal

pub fetch-requires : goal.fetch-requires
fetch-requires g c =
    fetch_may (draft_of c.args.topology.now) (setup_of g.W.Work.plan c.args.cluster.now) c.args.cluster.now.journal c.args.topic c.args.task.now c.requires.made c.requires.taker
    c.id.result c.input_position-from.result c.id.ensures c.input_position-from.ensures

pub returns-then-is_clear : goal.returns-then-is_clear
returns-then-is_clear g c =
    let d = draft_of c.args.topology.now in
    let setup = setup_of g.W.Work.plan c.args.cluster.now in
    let same = fetched_is d setup c.args.cluster.now.journal c.args.topic c.args.task.now c.requires.made c.requires.taker c.id.result c.input_position-from.result c.id.ensures c.input_position-from.ensures in
    passes d setup c.args.cluster.now.journal c.args.topic c.args.task.now c.requires.made c.requires.taker (g.met.W.Work.network _)
    c.args.upto c.in_ok-recs.next c.as_slice.result.now c.skip.new.self
    (c.as_slice.ensures.value ∙ c.in_ok-recs.ensures.records ∙ ap (λ x. x.0) same)
    (c.in_ok-recs.ensures.next ∙ ap (λ x. x.1) same)
    c.requires.later (sym c.is_clear.ensures ∙ c.if-is_clear.true)
    (c.skip.ensures.task d c.requires.taker.of)
    (c.skip.ensures.view d c.requires.taker.of (subst (λ (q : TaskPlan). has_topic c.args.topic (q.inputs (task_view c.args.task.now).task.sub) ≡ true) c.requires.work c.requires.taker.input))

pub returns : goal.returns
returns g c =
    let d = draft_of c.args.topology.now in
    let setup = setup_of g.W.Work.plan c.args.cluster.now in
    let same = fetched_is d setup c.args.cluster.now.journal c.args.topic c.args.task.now c.requires.made c.requires.taker c.id.result c.input_position-from.result c.id.ensures c.input_position-from.ensures in
    passes_not d setup c.args.cluster.now.journal c.args.topic c.args.task.now c.requires.made c.requires.taker
    c.args.upto c.in_ok-recs.next c.as_slice.result.now
    (c.as_slice.ensures.value ∙ c.in_ok-recs.ensures.records ∙ ap (λ x. x.0) same)
    (c.in_ok-recs.ensures.next ∙ ap (λ x. x.1) same)
    (sym c.is_clear.ensures ∙ c.if-is_clear.false)
