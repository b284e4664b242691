use Rattle.std.proofs.Common.{List, ◌≤◌, [], map, length, ◌∙◌, sym, ap, ap₂, subst}
use Rattle.ks_plan.specs.declared.node.Topic.{Topic}
use Rattle.ks_plan.specs.Plan.{plan_of}
use Rattle.ks_record.specs.declared.record.TaskId.{TaskId}
use Rattle.ks_topo.specs.Topologies.{draft_of}
use Rattle.ks_task_nodes.specs.Nodes.{topics_in as node_topics_in, topics_from}
use Rattle.std.specs.List.{All}
use Rattle.ks_cache.specs.declared.changelogs.Changelog.{Changelog}
use Rattle.ks_history.specs.State.{offset_in}
use Rattle.ks_history.specs.Follows.{ReplicaView}
use Rattle.ks_law_restore.specs.Replicas.{restored_view}
use Rattle.ks_standby.specs.Replicas.{numbers_of, view_in}
use Rattle.ks_task.specs.declared.inputs.Input.{Input}
use Rattle.ks_task.specs.Views.{topics_in, view_of, input_at, IsTask, IsCached}
use Rattle.ks_task.proofs.Building.{few_topics, topics_are}
use Rattle.ks_task.proofs.Viewing.{topics_at, restored_is, numbers_held, cached_first}
use Rattle.ks_task.proofs.PlainLogs.{same_view, same_numbers}
use Rattle.ks_task.proofs.task.Task.of.Goals as goal

pub node_topics-requires-clause-topics : goal.node_topics-requires-clause-topics
node_topics-requires-clause-topics c = subst (λ (ts : List Topic). length ts ≤ 1000) (sym c.purposes.ensures) (few_topics (draft_of c.args.topology.now) c.nodes.ensures.well_formed)

pub returns-clause-task : goal.returns-clause-task
returns-clause-task c =
    let d = draft_of c.args.topology.now in
    let well = c.nodes.ensures.well_formed in
    let sub = c.id-sub.result.sub in
    let nodes = c.in-Ok.ensures ∙ (ap (λ (ts : List Topic). node_topics_in ts c.nodes.result.now sub 0 c.nodes.result.now) c.purposes.ensures ∙ topics_are d well c.nodes.result.now c.nodes.ensures.places c.nodes.ensures.drafts sub) in
    subst (λ (t : TaskId). IsTask d t c.in-Ok.nodes.items c.in-Ok-inputs_at.inputs.items c.hold_changelogs.new.changelogs.items c.new-2.result c.args.cache) (sym c.into_parts-changelogs.ensures.id)
    (record {
      well_formed = well;
      have = c.requires.parts;
      fits = c.topology_fits.ensures;
      there = c.requires.there;
      nodes_are = nodes ∙ ap (λ (t : TaskId). topics_from (plan_of d) t.sub 0 (plan_of d).kinds) c.id-sub.ensures;
      inputs_are = ap topics_in c.in-Ok-inputs_at.ensures ∙ topics_at c.args.offsets.now ∙ c.requires.offsets;
      logs_are = ap numbers_of c.in-Ok-hold_changelogs.ensures.ok ∙ numbers_held c.args.cache c.into_parts-changelogs.result.1.items ∙ ap numbers_of c.into_parts-changelogs.ensures.changelogs ∙ c.requires.changelogs;
      caches_are = subst (λ m. All (IsCached c.args.replica.id.part c.args.cache m) c.hold_changelogs.new.changelogs.items) (sym c.new-2.ensures) (subst (All (IsCached c.args.replica.id.part c.args.cache [])) (sym c.in-Ok-hold_changelogs.ensures.ok) (cached_first c.args.replica.id.part c.args.cache c.into_parts-changelogs.result.1.items));
    })

pub returns-clause-view : goal.returns-clause-view
returns-clause-view c =
    let held = c.hold_changelogs.new.changelogs.items in
    ap₂ (λ o m. view_of c.into_parts-changelogs.result.0 c.in-Ok-inputs_at.inputs.items held o m 0) c.new.ensures.items c.new-2.ensures
    ∙ ap (λ (i : List Input). view_of c.into_parts-changelogs.result.0 i held [] [] 0) c.in-Ok-inputs_at.ensures
    ∙ ap (λ (t : TaskId). view_of t (map input_at c.args.offsets.now) held [] [] 0) c.into_parts-changelogs.ensures.id
    ∙ restored_is c.args.replica.id c.args.offsets.now held
    ∙ ap (λ (v : ReplicaView). restored_view v (λ topic. offset_in 0 topic c.args.offsets.now))
    (same_view c.args.replica.id held c.into_parts-changelogs.result.1.items c.hold_changelogs.ensures.plain ∙ ap (view_in c.args.replica.id) c.into_parts-changelogs.ensures.changelogs)

pub returns-in_default-hold_changelogs-clause-err : goal.returns-in_default-hold_changelogs-clause-err
returns-in_default-hold_changelogs-clause-err c =
    let held = c.hold_changelogs.new.changelogs.items in
    ap₂ (λ (t : TaskId) (ls : List Changelog). view_in t ls) c.of_parts-value.ensures.id c.of_parts-value.ensures.changelogs
    ∙ (ap (λ (t : TaskId). view_in t held) c.into_parts-changelogs.ensures.id
    ∙ (same_view c.args.replica.id held c.into_parts-changelogs.result.1.items c.hold_changelogs.ensures.plain ∙ ap (view_in c.args.replica.id) c.into_parts-changelogs.ensures.changelogs))

pub returns-in_default-hold_changelogs-clause-same : goal.returns-in_default-hold_changelogs-clause-same
returns-in_default-hold_changelogs-clause-same c =
    ap numbers_of c.of_parts-value.ensures.changelogs
    ∙ (same_numbers c.hold_changelogs.new.changelogs.items c.into_parts-changelogs.result.1.items c.hold_changelogs.ensures.plain ∙ ap numbers_of c.into_parts-changelogs.ensures.changelogs)
