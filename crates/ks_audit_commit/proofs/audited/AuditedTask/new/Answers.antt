use Rattle.std.proofs.Common.{ℕ, List, map, ap, sym, ◌∙◌}
use Rattle.ks_topo.specs.Topologies.{draft_of, plan_in}
use Rattle.ks_plan.specs.Layout.{tasks}
use Rattle.ks_plan.specs.Infos.{input_numbers, changelog_numbers}
use Rattle.ks_history.specs.State.{has_task, offset_in}
use Rattle.ks_history.specs.Follows.{ReplicaView, TaskView}
use Rattle.ks_law_restore.specs.Replicas.{fresh_replica, restored_view}
use Rattle.ks_law_topology.specs.Work.{setup_of as topology_setup}
use Rattle.ks_def_tasks.specs.Rules.{rules_of}
use Rattle.ks_task.proofs.Subs.{inputs_there, logs_there}
use Rattle.ks_audit_commit.proofs.Fresh.{zeros, fresh_audited}
use Rattle.ks_audit_commit.proofs.audited.AuditedTask.new.Goals as goal

pub of-requires-clause-there : goal.of-requires-clause-there
of-requires-clause-there c = ap (λ (v : ReplicaView). has_task v.task (tasks (plan_in c.args.topology.now))) c.in_ok-replica.ensures.view ∙ c.requires.there

pub of-requires-clause-changelogs : goal.of-requires-clause-changelogs
of-requires-clause-changelogs c =
    c.in_ok-replica.ensures.changelogs ∙ c.changelogs.ensures ∙ logs_there (draft_of c.args.topology.now) c.nodes-nodes.ensures.well_formed c.args.task.sub
    ∙ ap (λ (v : ReplicaView). changelog_numbers (plan_in c.args.topology.now) v.task.sub) (sym c.in_ok-replica.ensures.view)

pub of-requires-clause-offsets : goal.of-requires-clause-offsets
of-requires-clause-offsets c =
    ap (map (λ (o : ℕ × ℕ). o.0)) (c.as_slice.ensures.value ∙ c.in_ok-offsets.ensures) ∙ zeros c.inputs.result.now ∙ c.inputs.ensures ∙ inputs_there (draft_of c.args.topology.now) c.nodes-nodes.ensures.well_formed c.args.task.sub
    ∙ ap (λ (v : ReplicaView). input_numbers (plan_in c.args.topology.now) v.task.sub) (sym c.in_ok-replica.ensures.view)

pub returns-in-Ok-clause-audited : goal.returns-in-Ok-clause-audited
returns-in-Ok-clause-audited c = λ hash.
    fresh_audited (draft_of c.args.topology.now) (topology_setup (rules_of hash) (plan_in c.args.topology.now)) c.args.task c.inputs.result.now _ c.requires.there c.in-Ok.ensures.task
    (c.in-Ok.ensures.view
    ∙ ap (λ (r : ReplicaView). restored_view r (λ topic. offset_in 0 topic c.as_slice.result.now)) c.in_ok-replica.ensures.view
    ∙ ap (λ (l : List (ℕ × ℕ)). restored_view (fresh_replica c.args.task) (λ topic. offset_in 0 topic l)) (c.as_slice.ensures.value ∙ c.in_ok-offsets.ensures))
    c.new-in-Ok.ensures.items

pub returns-in-Ok-clause-name : goal.returns-in-Ok-clause-name
returns-in-Ok-clause-name c = ap (λ (v : TaskView). v.task) c.in-Ok.ensures.view ∙ ap (λ (r : ReplicaView). r.task) c.in_ok-replica.ensures.view
