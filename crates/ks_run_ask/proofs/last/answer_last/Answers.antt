use Rattle.std.proofs.Common.{ℕ, ◌∙◌, sym, ap, subst, length}
use Rattle.std.specs.Prelude.{Ok}
use Rattle.ks_record.specs.declared.record.TaskId.{TaskId}
use Rattle.ks_topo.specs.Topologies.{draft_of}
use Rattle.ks_history.specs.State.{has_task}
use Rattle.ks_cluster.specs.View.{setup_of}
use Rattle.ks_standby.specs.Replicas.{replica_view}
use Rattle.ks_settle.specs.Restoring.{HasReachedFirst}
use Rattle.ks_assign_group.proofs.Subs.{logs_there}
use Rattle.ks_iq.proofs.Answering.{all_reads}
use Rattle.ks_iq.proofs.Known.{known_task}
use Rattle.ks_run_ask.proofs.Ends.{never_refused, stands_at_end}
use Rattle.ks_run_ask.proofs.last.answer_last.Goals as goal

pub replica_at_ends-requires-clause-there : goal.replica_at_ends-requires-clause-there
replica_at_ends-requires-clause-there g c =
    ap (λ (t : TaskId). has_task t c.args.cluster.now.tasks) c.in-Ok.ensures.task
    ∙ known_task (draft_of c.args.topology.now) (setup_of g.W.Work.plan c.args.cluster.now) c.args.ask.now c.nodes-nodes.ensures.well_formed c.requires.parts c.requires.topology c.requires.fine

pub replica_at_ends-requires-clause-changelogs : goal.replica_at_ends-requires-clause-changelogs
replica_at_ends-requires-clause-changelogs g c =
    c.changelogs-changelogs.ensures ∙ logs_there (draft_of c.args.topology.now) c.nodes-nodes.ensures.well_formed c.in-Ok.place.task.sub ∙ sym (c.requires.topology.changelogs c.in-Ok.place.task.sub)

pub unreachable-requires-in-Err : goal.unreachable-requires-in-Err
unreachable-requires-in-Err g c =
    let setup = setup_of g.W.Work.plan c.args.cluster.now in
    let logs = c.changelogs-changelogs.result.now in
    let same = c.changelogs-changelogs.ensures ∙ logs_there (draft_of c.args.topology.now) c.nodes-nodes.ensures.well_formed c.in-Ok.place.task.sub ∙ sym (c.requires.topology.changelogs c.in-Ok.place.task.sub)
    ∙ ap (λ (t : TaskId). setup.plan.changelogs t.sub) c.in-Ok.ensures.task in
    let ends = subst (λ (t : TaskId). HasReachedFirst setup c.args.cluster.now.journal t logs (length logs) c.in_ok-replica.replica) c.in-Ok.ensures.task c.in_ok-replica.ensures in
    never_refused (draft_of c.args.topology.now) setup c.args.cluster.now.journal c.args.ask.now c.requires.topology c.requires.fine logs same c.in_ok-replica.replica ends c.args.at_least _ c.requires.bound
    (sym c.in-Err.is ∙ c.in_ok-answer.ensures.exact)

pub returns-clause-read : goal.returns-clause-read
returns-clause-read g c =
    all_reads (draft_of c.args.topology.now) (replica_view c.in_ok-replica.replica) c.args.ask.now c.args.at_least {E = ℕ} (Ok (Ok c.in-Ok-2.answer)) (setup_of g.W.Work.plan c.args.cluster.now) c.args.cluster.now.journal
    c.requires.topology c.in_ok-replica.ensures.of.follows (sym c.in-Ok-2.is ∙ c.in_ok-answer.ensures.exact)

pub returns-clause-end : goal.returns-clause-end
returns-clause-end g c =
    let setup = setup_of g.W.Work.plan c.args.cluster.now in
    let logs = c.changelogs-changelogs.result.now in
    let same = c.changelogs-changelogs.ensures ∙ logs_there (draft_of c.args.topology.now) c.nodes-nodes.ensures.well_formed c.in-Ok.place.task.sub ∙ sym (c.requires.topology.changelogs c.in-Ok.place.task.sub)
    ∙ ap (λ (t : TaskId). setup.plan.changelogs t.sub) c.in-Ok.ensures.task in
    let ends = subst (λ (t : TaskId). HasReachedFirst setup c.args.cluster.now.journal t logs (length logs) c.in_ok-replica.replica) c.in-Ok.ensures.task c.in_ok-replica.ensures in
    stands_at_end (draft_of c.args.topology.now) setup c.args.cluster.now.journal c.args.ask.now c.requires.topology c.requires.fine logs same c.in_ok-replica.replica ends c.args.at_least c.in-Ok-2.answer c.requires.bound
    (sym c.in-Ok-2.is ∙ c.in_ok-answer.ensures.exact)
