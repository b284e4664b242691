use Rattle.std.proofs.Common.{◌≡◌, List, map, ap, sym, subst, ◌∙◌}
use Rattle.std.specs.Prelude.{IfOk, OnOk, ◌++◌, slice_get}
use Rattle.ks_record.specs.Records.{record_seen}
use Rattle.ks_plan.specs.Plan.{plan_of}
use Rattle.ks_plan.specs.Layout.{topics_of}
use Rattle.ks_plan.specs.declared.node.Topic.{Topic}
use Rattle.ks_history.specs.Faithful.{capped}
use Rattle.ks_topo.specs.Topologies.{draft_of}
use Rattle.ks_def_tasks.specs.Rules.{rules_of}
use Rattle.ks_task_nodes.specs.Nodes.{TaskNode, node_view, kinds_in}
use Rattle.ks_task_nodes.specs.Records.{arrival_at}
use Rattle.ks_task_nodes.specs.Reach.{are_numbered}
use Rattle.ks_task_nodes.proofs.Numbers.{kinds_from, nodes_numbered}
use Rattle.ks_cache.specs.declared.changelogs.Changelog.{Changelog}
use Rattle.ks_task_processing.specs.Steps.{made_or_none, late_or_none}
use Rattle.ks_cache.specs.Changelogs.{stores_in}
use Rattle.ks_law_topology.proofs.Setups.{task_few}
use Rattle.ks_task.specs.Views.{AreLiveAt}
use Rattle.ks_task.proofs.task.Task.process.Goals as goal

pub process_record-requires-clause-part : goal.process_record-requires-clause-part
process_record-requires-clause-part g c = task_few (draft_of c.args.topology.now) c.args.self.now.id c.requires.task.well_formed c.requires.task.there

pub process_record-requires-clause-numbered : goal.process_record-requires-clause-numbered
process_record-requires-clause-numbered g c =
    let p = plan_of (draft_of c.args.topology.now) in
    ap (are_numbered 0) c.requires.nodes ∙ nodes_numbered p c.args.self.now.id.sub 0 p.kinds

pub process_record-requires-clause-live : goal.process_record-requires-clause-live
process_record-requires-clause-live g c = subst (λ (ts : List Topic). AreLiveAt c.args.nodes.now (slice_get ts c.args.topic) c.args.live.now) (sym c.purposes.ensures) c.requires.live

pub returns-clause-records : goal.returns-clause-records
returns-clause-records g c =
    let p = plan_of (draft_of c.args.topology.now) in
    let self = c.args.self.now in
    let rules = rules_of g.H.Hash128.hash_of in
    let rec = record_seen c.args.rec in
    let made = c.process_record.new.made in
    subst (λ (ns : List TaskNode). OnOk c.process_record.result (made ≡ self.made ++ made_or_none rules ns (stores_in self.changelogs.items) self.id.part (arrival_at p.kinds (slice_get (topics_of p) c.args.topic) rec))) c.requires.nodes
    (subst (λ (ls : List Changelog). OnOk c.process_record.result (made ≡ self.made ++ made_or_none rules (map node_view c.args.nodes.now) (stores_in ls) self.id.part (arrival_at p.kinds (slice_get (topics_of p) c.args.topic) rec))) c.as_slice-changelogs.ensures.value
    (subst (λ (ts : List Topic). OnOk c.process_record.result (made ≡ self.made ++ made_or_none rules (map node_view c.args.nodes.now) (stores_in c.as_slice-changelogs.result.now) self.id.part (arrival_at p.kinds (slice_get ts c.args.topic) rec))) c.purposes.ensures
    (subst (λ ks. OnOk c.process_record.result (made ≡ self.made ++ made_or_none rules (map node_view c.args.nodes.now) (stores_in c.as_slice-changelogs.result.now) self.id.part (arrival_at ks (slice_get c.purposes.result.now c.args.topic) rec))) (ap kinds_in c.requires.nodes ∙ kinds_from p self.id.sub 0 p.kinds) c.process_record.ensures.records)))

pub returns-clause-late : goal.returns-clause-late
returns-clause-late g c =
    let p = plan_of (draft_of c.args.topology.now) in
    let self = c.args.self.now in
    let rec = record_seen c.args.rec in
    subst (λ (ns : List TaskNode). IfOk c.process_record.result (λ n. n ≡ capped (late_or_none ns (stores_in self.changelogs.items) (arrival_at p.kinds (slice_get (topics_of p) c.args.topic) rec)))) c.requires.nodes
    (subst (λ (ls : List Changelog). IfOk c.process_record.result (λ n. n ≡ capped (late_or_none (map node_view c.args.nodes.now) (stores_in ls) (arrival_at p.kinds (slice_get (topics_of p) c.args.topic) rec)))) c.as_slice-changelogs.ensures.value
    (subst (λ (ts : List Topic). IfOk c.process_record.result (λ n. n ≡ capped (late_or_none (map node_view c.args.nodes.now) (stores_in c.as_slice-changelogs.result.now) (arrival_at p.kinds (slice_get ts c.args.topic) rec)))) c.purposes.ensures
    (subst (λ ks. IfOk c.process_record.result (λ n. n ≡ capped (late_or_none (map node_view c.args.nodes.now) (stores_in c.as_slice-changelogs.result.now) (arrival_at ks (slice_get c.purposes.result.now c.args.topic) rec)))) (ap kinds_in c.requires.nodes ∙ kinds_from p self.id.sub 0 p.kinds) c.process_record.ensures.late)))
