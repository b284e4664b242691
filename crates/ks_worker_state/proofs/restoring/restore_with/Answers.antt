use Rattle.std.proofs.Common.{◌≡◌, true, refl, sym, ap, subst, ◌∙◌, map}
use Rattle.ks_record.specs.declared.record.TaskId.{TaskId}
use Rattle.ks_plan.specs.Infos.{input_numbers}
use Rattle.ks_topo.specs.Topologies.{draft_of, plan_in}
use Rattle.ks_history.specs.Machine.{part_of}
use Rattle.ks_history.specs.Reads.{ends_of}
use Rattle.ks_history.specs.State.{has_task}
use Rattle.ks_worker_client.specs.Calls.{state_seen}
use Rattle.ks_shared.specs.Calls.{setup_in}
use Rattle.std.proofs.lemmas.Result.{IfOk-from_err}
use Rattle.ks_worker_client.specs.Turns.{cuts_of}
use Rattle.ks_worker_client.proofs.Halting.{same_counts}
use Rattle.ks_worker_client.proofs.Moments.{may_later, later_twice, same_frame}
use Rattle.ks_worker_state.specs.Standbys.{IsStandby}
use Rattle.ks_worker_state.proofs.Exits.{counts_out, counts_in, counts_memory}
use Rattle.ks_worker_state.proofs.Fed.{standby_later, standby_at}
use Rattle.ks_worker_state.proofs.Restored.{own_changelogs, all_changelogs, named_changelogs, there, made_at_the_ends, short_of_the_ends}
use Rattle.ks_worker_state.proofs.restoring.restore_with.Goals as goal

pub ends_of_task-requires-clause-known : goal.ends_of_task-requires-clause-known
ends_of_task-requires-clause-known g c = subst (λ u. has_task u (setup_in g.W.Work.plan c.args.client.now.pass.frame).tasks ≡ true) (sym c.id-task.ensures) c.requires.standby.known

pub ends_of_task-requires-clause-changelogs : goal.ends_of_task-requires-clause-changelogs
ends_of_task-requires-clause-changelogs g c =
    own_changelogs g.H.Hash128.hash_of (draft_of c.args.topology.now) (setup_in g.W.Work.plan c.args.client.now.pass.frame) c.requires.topology c.id-task.result c.changelogs_in-changelogs.result.now c.changelogs_in-changelogs.ensures

pub feed_to_ends-requires-clause-may : goal.feed_to_ends-requires-clause-may
feed_to_ends-requires-clause-may g c =
    may_later g.W.Work.plan _ _ _ _ _ c.ends_of_task.ensures.later (same_counts _ _ c.ends_of_task.result _ c.in_ok-told.was c.ends_of_task.ensures.gate) c.requires.may

pub feed_to_ends-requires-clause-standby : goal.feed_to_ends-requires-clause-standby
feed_to_ends-requires-clause-standby g c =
    standby_at g.W.Work.plan _ _ c.ends_of_task.new.client.pass c.ends_of_task.ensures.later _
    (standby_later g.W.Work.plan _ _ c.ends_of_task.new.client.pass c.ends_of_task.ensures.later _ c.requires.may.network c.requires.standby)

pub feed_to_ends-requires-clause-changelogs : goal.feed_to_ends-requires-clause-changelogs
feed_to_ends-requires-clause-changelogs g c =
    all_changelogs g.H.Hash128.hash_of (draft_of c.args.topology.now) (setup_in g.W.Work.plan c.args.client.now.pass.frame) c.requires.topology c.args.client.now.pass.seen c.args.replica c.requires.standby
    c.id-task.result c.changelogs_in-changelogs.result.now c.id-task.ensures c.changelogs_in-changelogs.ensures

pub feed_to_ends-requires-clause-ends : goal.feed_to_ends-requires-clause-ends
feed_to_ends-requires-clause-ends g c =
    c.as_slice-ends.ensures.value ∙ c.in_ok-told.ensures.ends ∙ ap (λ (u : TaskId). ends_of (state_seen g.W.Work.plan c.ends_of_task.new.client.pass) (map (λ topic. part_of topic u) c.changelogs_in-changelogs.result.now)) c.id-task.ensures

pub returns-clause-task : goal.returns-clause-task
returns-clause-task g c =
    made_at_the_ends g.W.Work.plan c.args.client.now.pass c.ends_of_task.new.client.pass c.feed_to_ends.new.client.pass c.ends_of_task.ensures.later c.feed_to_ends.ensures.later
    (draft_of c.args.topology.now) c.id-task.result c.args.replica c.feed_to_ends.new.replica c.args.offsets.now c.changelogs_in-changelogs.result.now c.in_ok-told.told.items c.as_slice-ends.result.now c.in_ok-task_of.field-0
    c.id-task.ensures c.in_ok-feed_to_ends.ensures.fed c.in_ok-task_of.ensures.task c.in_ok-task_of.ensures.view
    (own_changelogs g.H.Hash128.hash_of (draft_of c.args.topology.now) (setup_in g.W.Work.plan c.args.client.now.pass.frame) c.requires.topology c.id-task.result c.changelogs_in-changelogs.result.now c.changelogs_in-changelogs.ensures)
    c.in_ok-told.ensures.ends c.as_slice-ends.ensures.value (sym c.has_reached.ensures ∙ c.if-not-has_reached.false)

pub returns-then-not-has_reached-clause-back : goal.returns-then-not-has_reached-clause-back
returns-then-not-has_reached-clause-back g c =
    short_of_the_ends g.W.Work.plan c.args.client.now.pass c.ends_of_task.new.client.pass c.feed_to_ends.new.client.pass c.ends_of_task.ensures.later c.feed_to_ends.ensures.later
    c.id-task.result c.args.replica c.feed_to_ends.new.replica c.changelogs_in-changelogs.result.now c.in_ok-told.told.items c.as_slice-ends.result.now
    c.id-task.ensures
    (all_changelogs g.H.Hash128.hash_of (draft_of c.args.topology.now) (setup_in g.W.Work.plan c.args.client.now.pass.frame) c.requires.topology c.args.client.now.pass.seen c.args.replica c.requires.standby
    c.id-task.result c.changelogs_in-changelogs.result.now c.id-task.ensures c.changelogs_in-changelogs.ensures)
    c.in_ok-feed_to_ends.ensures.fed c.in_ok-feed_to_ends.ensures.stops c.in_ok-told.ensures.ends c.as_slice-ends.ensures.value (sym c.has_reached.ensures ∙ c.if-not-has_reached.true)

pub task_of-requires-clause-there : goal.task_of-requires-clause-there
task_of-requires-clause-there g c =
    there g.H.Hash128.hash_of (draft_of c.args.topology.now) (setup_in g.W.Work.plan c.args.client.now.pass.frame) c.requires.topology c.feed_to_ends.new.client.pass.seen c.feed_to_ends.new.replica
    (subst (λ f. IsStandby (setup_in g.W.Work.plan f) c.feed_to_ends.new.client.pass.seen c.feed_to_ends.new.replica) (same_frame g.W.Work.plan _ _ c.ends_of_task.ensures.later) c.in_ok-feed_to_ends.ensures.fed.standby)

pub task_of-requires-clause-changelogs : goal.task_of-requires-clause-changelogs
task_of-requires-clause-changelogs g c =
    named_changelogs g.H.Hash128.hash_of (draft_of c.args.topology.now) (setup_in g.W.Work.plan c.args.client.now.pass.frame) c.requires.topology c.feed_to_ends.new.client.pass.seen c.feed_to_ends.new.replica
    (subst (λ f. IsStandby (setup_in g.W.Work.plan f) c.feed_to_ends.new.client.pass.seen c.feed_to_ends.new.replica) (same_frame g.W.Work.plan _ _ c.ends_of_task.ensures.later) c.in_ok-feed_to_ends.ensures.fed.standby)

pub task_of-requires-clause-offsets : goal.task_of-requires-clause-offsets
task_of-requires-clause-offsets g c = c.requires.offsets ∙ ap (λ (u : TaskId). input_numbers (plan_in c.args.topology.now) u.sub) (sym c.in_ok-feed_to_ends.ensures.fed.fed.task)

pub returns-in_err-told-clause-gate : goal.returns-in_err-told-clause-gate
returns-in_err-told-clause-gate g c = counts_out _ _ _ c.ends_of_task.result c.from_residual.result c.in_err-told.field-0.0 refl c.in_err-told.was c.ends_of_task.ensures.gate c.from_residual.ensures.1

pub returns-in_err-feed_to_ends-clause-gate : goal.returns-in_err-feed_to_ends-clause-gate
returns-in_err-feed_to_ends-clause-gate g c =
    counts_out _ _ _ c.feed_to_ends.result c.from_residual-in_err-feed_to_ends.result c.in_err-feed_to_ends.field-0.0 (same_counts _ _ c.ends_of_task.result _ c.in_ok-told.was c.ends_of_task.ensures.gate) c.in_err-feed_to_ends.was c.feed_to_ends.ensures.gate c.from_residual-in_err-feed_to_ends.ensures.1

pub returns-then-not-has_reached-clause-gate : goal.returns-then-not-has_reached-clause-gate
returns-then-not-has_reached-clause-gate g c = counts_in _ _ _ c.feed_to_ends.result _ (same_counts _ _ c.ends_of_task.result _ c.in_ok-told.was c.ends_of_task.ensures.gate) c.in_ok-feed_to_ends.was c.feed_to_ends.ensures.gate

pub returns-clause-gate : goal.returns-clause-gate
returns-clause-gate g c = counts_in _ _ _ c.feed_to_ends.result _ (same_counts _ _ c.ends_of_task.result _ c.in_ok-told.was c.ends_of_task.ensures.gate) c.in_ok-feed_to_ends.was c.feed_to_ends.ensures.gate

pub returns-in_err-task_of-clause-gate : goal.returns-in_err-task_of-clause-gate
returns-in_err-task_of-clause-gate g c =
    counts_memory _ _ c.from_residual-in_err-task_of.result c.in_err-task_of.field-0.0 (same_counts _ _ c.feed_to_ends.result _ c.in_ok-feed_to_ends.was c.feed_to_ends.ensures.gate ∙ same_counts _ _ c.ends_of_task.result _ c.in_ok-told.was c.ends_of_task.ensures.gate)
    (ap cuts_of c.in_err-task_of.ensures.memory) c.from_residual-in_err-task_of.ensures.1

pub returns-in_err-feed_to_ends-clause-later : goal.returns-in_err-feed_to_ends-clause-later
returns-in_err-feed_to_ends-clause-later g c = later_twice g.W.Work.plan _ _ _ c.ends_of_task.ensures.later c.feed_to_ends.ensures.later

pub returns-in_err-feed_to_ends-clause-made : goal.returns-in_err-feed_to_ends-clause-made
returns-in_err-feed_to_ends-clause-made g c = c.feed_to_ends.ensures.made ∙ c.ends_of_task.ensures.made

pub returns-then-not-has_reached-clause-later : goal.returns-then-not-has_reached-clause-later
returns-then-not-has_reached-clause-later g c = later_twice g.W.Work.plan _ _ _ c.ends_of_task.ensures.later c.feed_to_ends.ensures.later

pub returns-then-not-has_reached-clause-made : goal.returns-then-not-has_reached-clause-made
returns-then-not-has_reached-clause-made g c = c.feed_to_ends.ensures.made ∙ c.ends_of_task.ensures.made

pub returns-in_err-task_of-clause-later : goal.returns-in_err-task_of-clause-later
returns-in_err-task_of-clause-later g c = later_twice g.W.Work.plan _ _ _ c.ends_of_task.ensures.later c.feed_to_ends.ensures.later

pub returns-in_err-task_of-clause-made : goal.returns-in_err-task_of-clause-made
returns-in_err-task_of-clause-made g c = c.feed_to_ends.ensures.made ∙ c.ends_of_task.ensures.made

pub returns-clause-later : goal.returns-clause-later
returns-clause-later g c = later_twice g.W.Work.plan _ _ _ c.ends_of_task.ensures.later c.feed_to_ends.ensures.later

pub returns-clause-made : goal.returns-clause-made
returns-clause-made g c = c.feed_to_ends.ensures.made ∙ c.ends_of_task.ensures.made

pub returns-in_err-told-clause-task : goal.returns-in_err-told-clause-task
returns-in_err-told-clause-task g c = IfOk-from_err c.from_residual.result _ c.from_residual.ensures.0

pub returns-in_err-told-clause-cache : goal.returns-in_err-told-clause-cache
returns-in_err-told-clause-cache g c = IfOk-from_err c.from_residual.result _ c.from_residual.ensures.0

pub returns-in_err-told-clause-standby : goal.returns-in_err-told-clause-standby
returns-in_err-told-clause-standby g c = IfOk-from_err c.from_residual.result _ c.from_residual.ensures.0

pub returns-in_err-told-clause-same : goal.returns-in_err-told-clause-same
returns-in_err-told-clause-same g c = IfOk-from_err c.from_residual.result _ c.from_residual.ensures.0

pub returns-in_err-told-clause-back : goal.returns-in_err-told-clause-back
returns-in_err-told-clause-back g c = IfOk-from_err c.from_residual.result _ c.from_residual.ensures.0

pub returns-in_err-feed_to_ends-clause-task : goal.returns-in_err-feed_to_ends-clause-task
returns-in_err-feed_to_ends-clause-task g c = IfOk-from_err c.from_residual-in_err-feed_to_ends.result _ c.from_residual-in_err-feed_to_ends.ensures.0

pub returns-in_err-feed_to_ends-clause-cache : goal.returns-in_err-feed_to_ends-clause-cache
returns-in_err-feed_to_ends-clause-cache g c = IfOk-from_err c.from_residual-in_err-feed_to_ends.result _ c.from_residual-in_err-feed_to_ends.ensures.0

pub returns-in_err-feed_to_ends-clause-standby : goal.returns-in_err-feed_to_ends-clause-standby
returns-in_err-feed_to_ends-clause-standby g c = IfOk-from_err c.from_residual-in_err-feed_to_ends.result _ c.from_residual-in_err-feed_to_ends.ensures.0

pub returns-in_err-feed_to_ends-clause-same : goal.returns-in_err-feed_to_ends-clause-same
returns-in_err-feed_to_ends-clause-same g c = IfOk-from_err c.from_residual-in_err-feed_to_ends.result _ c.from_residual-in_err-feed_to_ends.ensures.0

pub returns-in_err-feed_to_ends-clause-back : goal.returns-in_err-feed_to_ends-clause-back
returns-in_err-feed_to_ends-clause-back g c = IfOk-from_err c.from_residual-in_err-feed_to_ends.result _ c.from_residual-in_err-feed_to_ends.ensures.0

pub returns-in_err-task_of-clause-task : goal.returns-in_err-task_of-clause-task
returns-in_err-task_of-clause-task g c = IfOk-from_err c.from_residual-in_err-task_of.result _ c.from_residual-in_err-task_of.ensures.0

pub returns-in_err-task_of-clause-cache : goal.returns-in_err-task_of-clause-cache
returns-in_err-task_of-clause-cache g c = IfOk-from_err c.from_residual-in_err-task_of.result _ c.from_residual-in_err-task_of.ensures.0

pub returns-in_err-task_of-clause-standby : goal.returns-in_err-task_of-clause-standby
returns-in_err-task_of-clause-standby g c = IfOk-from_err c.from_residual-in_err-task_of.result _ c.from_residual-in_err-task_of.ensures.0

pub returns-in_err-task_of-clause-same : goal.returns-in_err-task_of-clause-same
returns-in_err-task_of-clause-same g c = IfOk-from_err c.from_residual-in_err-task_of.result _ c.from_residual-in_err-task_of.ensures.0

pub returns-in_err-task_of-clause-back : goal.returns-in_err-task_of-clause-back
returns-in_err-task_of-clause-back g c = IfOk-from_err c.from_residual-in_err-task_of.result _ c.from_residual-in_err-task_of.ensures.0

pub returns-then-not-has_reached-clause-standby : goal.returns-then-not-has_reached-clause-standby
returns-then-not-has_reached-clause-standby g c = subst (λ f. IsStandby (setup_in g.W.Work.plan f) c.feed_to_ends.new.client.pass.seen c.feed_to_ends.new.replica) (same_frame g.W.Work.plan _ _ c.ends_of_task.ensures.later) c.in_ok-feed_to_ends.ensures.fed.standby

pub returns-then-not-has_reached-clause-same : goal.returns-then-not-has_reached-clause-same
returns-then-not-has_reached-clause-same g c = c.in_ok-feed_to_ends.ensures.fed.fed.task
