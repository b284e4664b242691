use Rattle.std.proofs.Common.{◌≡◌, ◌++◌, ℕ, List, map, subst}
use Rattle.std.specs.Prelude.{OnOk, IfOk}
use Rattle.ks_record.specs.Records.{Record as Rec}
use Rattle.ks_record.specs.declared.record.PartId.{PartId}
use Rattle.ks_history.specs.Faithful.{capped}
use Rattle.ks_task_nodes.specs.Nodes.{node_view}
use Rattle.ks_task_nodes.specs.Records.{arrival_of}
use Rattle.ks_task_values.specs.Values.{items_in, olds_in, news_in}
use Rattle.ks_cache.specs.Changelogs.{stores_in}
use Rattle.ks_task_step.proofs.Quiet.{recs_go, late_goes}
use Rattle.ks_task_step.proofs.processing.push_all_changelog_records.Goals as goal

pub returns-clause-out : goal.returns-clause-out
returns-clause-out c =
    let step = c.args.step.now in
    let values = c.args.values.now in
    subst (λ (xs : List (PartId × Rec)). OnOk c.push_live_changelog_records.result (c.push_live_changelog_records.new.out ≡ c.args.out.now ++ xs))
    (recs_go (stores_in step.changelogs.now) step.partition (arrival_of step.stamped.now) (items_in values) (olds_in values) (news_in values) step.live.now (map node_view step.nodes.now)
    step.numbered step.reached c.requires.none c.requires.same)
    c.push_live_changelog_records.ensures.out

pub returns-clause-late : goal.returns-clause-late
returns-clause-late c =
    let step = c.args.step.now in
    let values = c.args.values.now in
    subst (λ (m : ℕ). IfOk c.push_live_changelog_records.result (λ n. n ≡ capped m))
    (late_goes (stores_in step.changelogs.now) step.partition (arrival_of step.stamped.now) (items_in values) (olds_in values) (news_in values) step.live.now (map node_view step.nodes.now)
    step.numbered step.reached c.requires.none c.requires.same)
    c.push_live_changelog_records.ensures.late
