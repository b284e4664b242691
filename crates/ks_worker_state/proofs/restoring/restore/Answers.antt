use Rattle.std.proofs.Common.{◌≡◌, inl, ℕ, true, refl, None, map, sym, ap, subst, ◌∙◌}
use Rattle.ks_record.specs.declared.record.TaskId.{TaskId}
use Rattle.ks_topo.specs.Topologies.{draft_of, plan_in}
use Rattle.ks_law_topology.specs.Work.{setup_of}
use Rattle.ks_def_tasks.specs.Rules.{rules_of}
use Rattle.ks_history.specs.State.{Setup, has_task}
use Rattle.ks_history.specs.Reads.{committed_refusal, committed_offsets}
use Rattle.ks_shared.specs.Calls.{setup_in}
use Rattle.ks_task.proofs.Restoring.{listed_topics}
use Rattle.ks_worker_client.specs.Calls.{state_seen}
use Rattle.ks_worker_client.proofs.Moments.{may_later, later_twice, same_frame}
use Rattle.ks_worker_state.proofs.Fed.{standby_later, standby_at}
use Rattle.ks_worker_state.proofs.Restored.{both_ok, both_ok_with, both_err, made_held, made_restored, ok_said, free_said, refused_said, short_since, is_refused}
use Rattle.std.proofs.lemmas.Result.{IfOk-from_err}
use Rattle.ks_worker_client.proofs.Halting.{same_counts, counts_on}
use Rattle.ks_worker_state.specs.Standbys.{IsStandby}
use Rattle.ks_worker_state.specs.Topology.{RunsTopology}
use Rattle.ks_worker_state.proofs.Exits.{counts_out, counts_in}
use Rattle.ks_worker_state.proofs.restoring.restore.Goals as goal

pub committed-requires-clause-task : goal.committed-requires-clause-task
committed-requires-clause-task g c = subst (λ u. has_task u (setup_in g.W.Work.plan c.args.session.now.client.pass.frame).tasks ≡ true) (sym c.id-task.ensures) c.requires.standby.known

pub returns-in_default-clause-standby : goal.returns-in_default-clause-standby
returns-in_default-clause-standby g c = standby_later g.W.Work.plan _ _ c.committed.new.self.pass c.committed.ensures.later _ c.requires.may.network c.requires.standby

pub restore_with-requires-clause-standby : goal.restore_with-requires-clause-standby
restore_with-requires-clause-standby g c =
    standby_at g.W.Work.plan _ _ c.committed.new.self.pass c.committed.ensures.later _
    (standby_later g.W.Work.plan _ _ c.committed.new.self.pass c.committed.ensures.later _ c.requires.may.network c.requires.standby)

pub restore_with-requires-clause-offsets : goal.restore_with-requires-clause-offsets
restore_with-requires-clause-offsets g c =
    ap (map (λ (o : ℕ × ℕ). o.0)) (c.as_slice.ensures.value ∙ ok_said _ _ _ c.in-Ok.is c.in_ok-answer.ensures.offsets)
    ∙ listed_topics _ _
    ∙ ap (λ (s : Setup). s.plan.inputs c.id-task.result.sub) c.requires.topology.setup_is
    ∙ ap (λ (u : TaskId). (setup_of (rules_of g.H.Hash128.hash_of) (plan_in c.args.topology.now)).plan.inputs u.sub) c.id-task.ensures

pub returns-clause-later : goal.returns-clause-later
returns-clause-later g c = later_twice g.W.Work.plan _ _ _ c.committed.ensures.later c.restore_with.ensures.later

pub returns-clause-task : goal.returns-clause-task
returns-clause-task g c =
    both_ok_with c.restore_with.result _ _ _
    (λ made k same. made_held g.W.Work.plan c.args.session.now.client.pass c.committed.new.self.pass c.restore_with.new.client.pass c.committed.ensures.later (draft_of c.args.topology.now) c.args.member c.args.session.now.last c.args.replica.id c.as_slice.result.now made
    c.requires.may.network c.requires.seen
    (subst (λ u. committed_refusal (state_seen g.W.Work.plan c.committed.new.self.pass) c.args.member.number c.args.member.generation u ≡ None) c.id-task.ensures (free_said _ _ _ c.in-Ok.is c.in_ok-answer.ensures.refused))
    (c.as_slice.ensures.value ∙ ok_said _ _ _ c.in-Ok.is c.in_ok-answer.ensures.offsets
    ∙ ap (λ u. committed_offsets (setup_in g.W.Work.plan c.args.session.now.client.pass.frame) (state_seen g.W.Work.plan c.committed.new.self.pass) u) c.id-task.ensures) k same)
    c.restore_with.ensures.task c.restore_with.ensures.cache

pub returns-clause-ends : goal.returns-clause-ends
returns-clause-ends g c =
    both_ok c.restore_with.result _ _
    (λ made k. made_restored g.W.Work.plan c.args.session.now.client.pass c.committed.new.self.pass c.restore_with.new.client.pass c.committed.ensures.later (draft_of c.args.topology.now) c.args.member.number c.args.member.generation
    c.args.replica.id c.id-task.result c.as_slice.result.now made c.id-task.ensures (free_said _ _ _ c.in-Ok.is c.in_ok-answer.ensures.refused)
    (c.as_slice.ensures.value ∙ ok_said _ _ _ c.in-Ok.is c.in_ok-answer.ensures.offsets) k)
    c.restore_with.ensures.task

pub returns-in_default-clause-back : goal.returns-in_default-clause-back
returns-in_default-clause-back g c =
    inl (is_refused g.W.Work.plan c.args.session.now.client.pass c.committed.new.self.pass c.committed.ensures.later c.args.member.number c.args.member.generation c.args.replica.id c.id-task.result c.id-task.ensures
    (refused_said _ c.in_ok-answer.answer _ c.in_default.is c.in_ok-answer.ensures.refused))

pub returns-clause-back : goal.returns-clause-back
returns-clause-back g c =
    both_err c.restore_with.result _ _
    (λ r s. short_since g.W.Work.plan c.args.session.now.client.pass c.committed.new.self.pass c.committed.ensures.later c.restore_with.new.client.pass c.args.member.number c.args.member.generation r s)
    c.restore_with.ensures.back

pub restore_with-requires-clause-may : goal.restore_with-requires-clause-may
restore_with-requires-clause-may g c = may_later g.W.Work.plan _ _ _ _ _ c.committed.ensures.later (same_counts _ _ c.committed.result _ c.in_ok-answer.was c.committed.ensures.gate) c.requires.may

pub restore_with-requires-clause-topology : goal.restore_with-requires-clause-topology
restore_with-requires-clause-topology g c =
    subst (λ f. RunsTopology g.H.Hash128.hash_of (draft_of c.args.topology.now) (setup_in g.W.Work.plan f)) (sym (same_frame g.W.Work.plan _ _ c.committed.ensures.later)) c.requires.topology

pub returns-in_err-answer-clause-gate : goal.returns-in_err-answer-clause-gate
returns-in_err-answer-clause-gate g c = counts_out _ _ _ c.committed.result c.from_residual.result c.in_err-answer.field-0.0 refl c.in_err-answer.was c.committed.ensures.gate c.from_residual.ensures.1

pub returns-in_err-answer-clause-task : goal.returns-in_err-answer-clause-task
returns-in_err-answer-clause-task g c = IfOk-from_err c.from_residual.result _ c.from_residual.ensures.0

pub returns-in_err-answer-clause-ends : goal.returns-in_err-answer-clause-ends
returns-in_err-answer-clause-ends g c = IfOk-from_err c.from_residual.result _ c.from_residual.ensures.0

pub returns-in_err-answer-clause-named : goal.returns-in_err-answer-clause-named
returns-in_err-answer-clause-named g c = IfOk-from_err c.from_residual.result _ c.from_residual.ensures.0

pub returns-in_err-answer-clause-standby : goal.returns-in_err-answer-clause-standby
returns-in_err-answer-clause-standby g c = IfOk-from_err c.from_residual.result _ c.from_residual.ensures.0

pub returns-in_err-answer-clause-same : goal.returns-in_err-answer-clause-same
returns-in_err-answer-clause-same g c = IfOk-from_err c.from_residual.result _ c.from_residual.ensures.0

pub returns-in_err-answer-clause-back : goal.returns-in_err-answer-clause-back
returns-in_err-answer-clause-back g c = IfOk-from_err c.from_residual.result _ c.from_residual.ensures.0

pub returns-in_default-clause-gate : goal.returns-in_default-clause-gate
returns-in_default-clause-gate g c = counts_in _ _ _ c.committed.result _ refl c.in_ok-answer.was c.committed.ensures.gate

pub returns-clause-gate : goal.returns-clause-gate
returns-clause-gate g c = counts_on _ _ _ c.restore_with.result (same_counts _ _ c.committed.result _ c.in_ok-answer.was c.committed.ensures.gate) c.restore_with.ensures.gate

pub returns-clause-made : goal.returns-clause-made
returns-clause-made g c = c.restore_with.ensures.made ∙ c.committed.ensures.made

pub returns-clause-standby : goal.returns-clause-standby
returns-clause-standby g c =
    both_err c.restore_with.result _ _
    (λ r s. subst (λ f. IsStandby (setup_in g.W.Work.plan f) c.restore_with.new.client.pass.seen r) (same_frame g.W.Work.plan _ _ c.committed.ensures.later) s)
    c.restore_with.ensures.standby

pub returns-clause-same : goal.returns-clause-same
returns-clause-same g c = c.restore_with.ensures.same
