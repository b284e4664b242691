use Rattle.std.proofs.Common.{ap, ap₂, sym, subst, ◌∙◌, refl}
use Rattle.std.proofs.lemmas.Result.{IfOk-weaker}
use Rattle.ks_topo.specs.Topologies.{draft_of}
use Rattle.ks_plan.specs.Plan.{plan_of}
use Rattle.ks_history.specs.State.{has_task}
use Rattle.ks_record.specs.declared.record.TaskId.{TaskId}
use Rattle.ks_law_topology.specs.Work.{work_of}
use Rattle.ks_cluster.specs.View.{setup_of}
use Rattle.ks_def_tasks.specs.Rules.{rules_of}
use Rattle.ks_audit_commit.specs.Ends.{are_from}
use Rattle.ks_audit_commit.specs.Judging.{FrozenAs}
use Rattle.ks_task.specs.Tasks.{task_view}
use Rattle.ks_audit_commit.proofs.Judged.{judged_ahead, judged_not_taken, judged}
use Rattle.ks_audit_commit.proofs.audited.AuditedTask.judge.Goals as goal

pub take_pending-requires-clause-resting : goal.take_pending-requires-clause-resting
take_pending-requires-clause-resting g c = record {
  of = c.requires.audited.of;
  name = sym c.requires.task;
  known = ap (λ (t : TaskId). has_task t c.args.cluster.now.tasks) c.requires.task ∙ c.requires.audited.known;
  once = c.requires.once;
  rests = c.requires.audited.rests;
}

pub returns-then-not-is_behind : goal.returns-then-not-is_behind
returns-then-not-is_behind g c =
    judged_ahead (draft_of c.args.topology.now) (setup_of g.W.Work.plan c.args.cluster.now) c.args.cluster.now.journal (g.met.W.Work.network _) c.is_history.ensures.history c.args.pending.now c.args.self.now c.requires.audited c.requires.task c.args.open.now
    c.id.result c.id.ensures
    (ap₂ (λ e s. are_from c.id.result e s s) (sym c.as_slice.ensures.value) (sym c.as_slice-sent.ensures) ∙ sym c.is_behind.ensures ∙ c.if-not-is_behind.true)

pub returns-then-not-branch : goal.returns-then-not-branch
returns-then-not-branch g c =
    judged_not_taken (draft_of c.args.topology.now) (setup_of g.W.Work.plan c.args.cluster.now) c.args.cluster.now.journal (g.met.W.Work.network _) c.is_history.ensures.history c.args.pending.now c.args.self.now c.requires.audited c.requires.task c.args.open.now
    c.in_ok-take_pending.field-0 (record { task = c.take_pending.new.task; ends = c.args.self.now.ends }) c.if-not-branch.true refl c.in_ok-take_pending.ensures

pub returns : goal.returns
returns g c =
    let d = draft_of c.args.topology.now in
    let hash = g.H.Hash128.hash_of in
    IfOk-weaker c.has_made.result _ _ (λ b h w a undecided commit.
    judged d (setup_of g.W.Work.plan c.args.cluster.now) c.args.cluster.now.journal (g.met.W.Work.network _) c.is_history.ensures.history c.args.pending.now c.args.self.now c.requires.audited c.requires.task c.args.open.now
    c.id.result (work_of (rules_of hash) (plan_of d)) c.in_ok-take_pending.field-0 b _ c.id.ensures
    (ap₂ (λ e s. are_from c.id.result e s s) (sym c.as_slice.ensures.value) (sym c.as_slice-sent.ensures) ∙ sym c.is_behind.ensures ∙ c.if-not-is_behind.false)
    c.if-not-branch.false refl c.in_ok-take_pending.ensures
    (subst (λ s. FrozenAs (work_of (rules_of hash) (plan_of d)) (task_view c.take_pending.new.task) c.args.pending.now.late s b) c.as_slice-sent.ensures h) w a undecided commit)
    (c.has_made.ensures d hash (c.in_ok-take_pending.ensures.of c.if-not-branch.false))
