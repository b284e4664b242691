use Rattle.std.proofs.Common.{ap, sym, ◌∙◌}
use Rattle.std.proofs.lemmas.Result.{IfOk-weaker}
use Rattle.ks_topo.specs.Topologies.{draft_of}
use Rattle.ks_history.specs.Machine.{TaskPlan}
use Rattle.ks_cluster.specs.View.{setup_of}
use Rattle.ks_task.proofs.Subs.{inputs_there}
use Rattle.ks_task.specs.Tasks.{task_view}
use Rattle.ks_audit_commit.specs.Naming.{may_go_on}
use Rattle.ks_audit_commit.proofs.Judged.{taking_begins, taking_fails}
use Rattle.ks_audit_commit.proofs.Ordered.{pending_taken, pending_not_taken}
use Rattle.ks_audit_commit.proofs.audited.take_pending.Goals as goal

pub take_order-requires-clause-taking : goal.take_order-requires-clause-taking
take_order-requires-clause-taking g c =
    let d = draft_of c.args.topology.now in
    let setup = setup_of g.W.Work.plan c.args.cluster.now in
    let are = c.inputs-inputs.ensures ∙ inputs_there d c.requires.resting.of.well_formed c.args.pending.now.task.sub ∙ ap (λ (q : TaskPlan). q.inputs c.args.pending.now.task.sub) (sym c.requires.work) in
    taking_begins d setup c.args.cluster.now.journal c.args.pending.now c.args.task.now c.requires.resting c.inputs-inputs.result.now are (g.met.W.Work.network _) c.is_history.ensures.history
    (ap (may_go_on (task_view c.args.task.now).inputs c.inputs-inputs.result.now) (sym c.as_slice.ensures) ∙ sym c.may_go_on.ensures ∙ c.if-not-may_go_on.false)

pub returns-then-not-may_go_on : goal.returns-then-not-may_go_on
returns-then-not-may_go_on g c =
    let d = draft_of c.args.topology.now in
    let setup = setup_of g.W.Work.plan c.args.cluster.now in
    let are = c.inputs-inputs.ensures ∙ inputs_there d c.requires.resting.of.well_formed c.args.pending.now.task.sub ∙ ap (λ (q : TaskPlan). q.inputs c.args.pending.now.task.sub) (sym c.requires.work) in
    pending_not_taken d setup c.args.cluster.now.journal c.args.pending.now c.args.task.now
    (taking_fails d setup c.args.cluster.now.journal c.args.pending.now c.args.task.now c.requires.resting c.inputs-inputs.result.now are
    (ap (may_go_on (task_view c.args.task.now).inputs c.inputs-inputs.result.now) (sym c.as_slice.ensures) ∙ sym c.may_go_on.ensures ∙ c.if-not-may_go_on.true))

pub returns-then-not-branch : goal.returns-then-not-branch
returns-then-not-branch g c =
    pending_not_taken (draft_of c.args.topology.now) (setup_of g.W.Work.plan c.args.cluster.now) c.args.cluster.now.journal c.args.pending.now c.take_order.new.task (c.in_ok-take_order.ensures.no c.if-not-branch.true)

pub pass_all-requires-clause-inputs : goal.pass_all-requires-clause-inputs
pass_all-requires-clause-inputs g c =
    c.inputs-inputs.ensures ∙ inputs_there (draft_of c.args.topology.now) c.requires.resting.of.well_formed c.args.pending.now.task.sub ∙ ap (λ (q : TaskPlan). q.inputs c.args.pending.now.task.sub) (sym c.requires.work)

pub returns : goal.returns
returns g c =
    IfOk-weaker c.pass_all.result _ _ (λ done h.
    pending_taken (draft_of c.args.topology.now) (setup_of g.W.Work.plan c.args.cluster.now) c.args.cluster.now.journal c.args.pending.now (g.met.W.Work.network _) done _ h) c.pass_all.ensures
