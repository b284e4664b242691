use Rattle.std.proofs.Common.{◌≡◌, List, ◌++◌, map, drop, ◌+◌, ◌∙◌, refl, ap, sym, subst}
use Rattle.ks_plan.specs.Plan.{plan_of}
use Rattle.ks_plan.specs.Layout.{topic_at}
use Rattle.ks_law_step.specs.Whole.{AreStores}
use Rattle.ks_record.specs.Records.{Record as Rec, record_seen}
use Rattle.ks_record.specs.declared.record.PartId.{PartId}
use Rattle.ks_history.specs.Faithful.{capped}
use Rattle.ks_topo.specs.Topologies.{draft_of}
use Rattle.ks_task_nodes.specs.Nodes.{nodes_of}
use Rattle.ks_task_nodes.specs.Records.{arrival_at}
use Rattle.ks_cache.specs.declared.changelogs.Changelog.{Changelog}
use Rattle.ks_task_processing.specs.Steps.{made_or_none, late_or_none}
use Rattle.ks_cache.specs.Changelogs.{stores_in}
use Rattle.ks_task.specs.declared.task.Task.{Task}
use Rattle.ks_task.specs.Tasks.{with_made}
use Rattle.ks_task.specs.Views.{IsTask, view_of, moved_to, log_after}
use Rattle.ks_law_restore.specs.Views.{with_taken}
use Rattle.ks_def_tasks.specs.Rules.{rules_of}
use Rattle.ks_task.proofs.Placing.{after_first}
use Rattle.ks_task.proofs.Viewing.{still_moved, taken, capped_late}
use Rattle.ks_task.proofs.task.Task.take_by.Goals as goal

pub returns-clause-task : goal.returns-clause-task
returns-clause-task g c =
    let self = c.args.self.now in
    let d = draft_of c.args.topology.now in
    let then = c.process.new.self in
    let same : then ≡ with_made then.made self = c.in_ok-late.ensures.same in
    let made = drop c.len-before.result then.made in
    let new : then.made ≡ self.made ++ made =
    c.in_ok-late.ensures.records ∙ ap (λ (xs : List (PartId × Rec)). self.made ++ xs) (sym (after_first self.made _ then.made c.len-before.result c.len-before.ensures c.in_ok-late.ensures.records)) in
    subst (λ (t : Task). IsTask d t.id t.nodes.items c.move_input.new.inputs.items c.keep_records.new.changelogs.items then.made t.cache) (sym same)
    (still_moved d self.id self.nodes.items self.inputs.items self.changelogs.items self.made self.cache c.requires.task
    c.args.topic c.in-Some.next c.move_input.new.inputs.items c.keep_records.new.changelogs.items made then.made
    (c.move_input.ensures ∙ ap (λ (t : Task). map (moved_to c.args.topic c.in-Some.next) t.inputs.items) same)
    (c.in_ok-keep_records.ensures.ok ∙ ap (λ (t : Task). map (log_after t.id.part made) t.changelogs.items) same)
    new)

pub returns-clause-view : goal.returns-clause-view
returns-clause-view g c =
    let self = c.args.self.now in
    let then = c.process.new.self in
    let same : then ≡ with_made then.made self = c.in_ok-late.ensures.same in
    let rec = record_seen c.args.rec in
    let p = plan_of (draft_of c.args.topology.now) in
    let arrival = arrival_at p.kinds (topic_at p c.args.topic) rec in
    let more = made_or_none (rules_of g.H.Hash128.hash_of) (nodes_of p self.id.sub) (stores_in self.changelogs.items) self.id.part arrival in
    let late = late_or_none (nodes_of p self.id.sub) (stores_in self.changelogs.items) arrival in
    ap (λ (t : Task). view_of t.id c.move_input.new.inputs.items c.keep_records.new.changelogs.items c.take_in_order.new.order.items then.made c.saturating_add-self.result) same
    ∙ taken (draft_of c.args.topology.now) self.id self.nodes.items self.inputs.items self.changelogs.items self.made self.cache c.requires.task g.H.Hash128.hash_of c.args.topic c.args.offset rec
    c.move_input.new.inputs.items c.keep_records.new.changelogs.items self.order.items c.take_in_order.new.order.items self.made more then.made self.late late c.saturating_add-self.result
    c.requires.input
    (c.move_input.ensures ∙ (ap (λ (t : Task). map (moved_to c.args.topic c.in-Some.next) t.inputs.items) same ∙ ap (λ n. map (moved_to c.args.topic n) self.inputs.items) c.in-Some.ensures.1))
    refl
    (subst (λ (ls : List Changelog). AreStores (stores_in ls)) c.deref.ensures.value c.hold_bytes.ensures)
    c.record_is_bytes.ensures
    (c.in_ok-keep_records.ensures.ok
    ∙ (ap (λ (t : Task). map (log_after t.id.part (drop c.len-before.result then.made)) t.changelogs.items) same
    ∙ ap (λ (m : List (PartId × Rec)). map (log_after self.id.part m) self.changelogs.items) (after_first self.made more then.made c.len-before.result c.len-before.ensures c.in_ok-late.ensures.records)))
    (c.in_ok-take_in_order.ensures ∙ ap (λ (t : Task). with_taken c.args.topic t.order.items) same)
    c.in_ok-late.ensures.records
    refl
    (capped_late self.late c.in_ok-late.late late c.saturating_add-self.result c.in_ok-late.ensures.late (c.saturating_add-self.ensures ∙ ap (λ (t : Task). capped (t.late + c.in_ok-late.late)) same))
