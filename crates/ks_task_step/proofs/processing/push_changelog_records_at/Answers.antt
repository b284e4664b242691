use Rattle.std.proofs.Common.{◌≡◌, ◌+◌, ◌++◌, Option, subst, sym, ap, ◌∙◌, append-nil, arith}
use Rattle.std.specs.Prelude.{OnOk, IfOk}
use Rattle.ks_history.specs.Faithful.{capped}
use Rattle.ks_task_nodes.specs.Nodes.{TaskNode}
use Rattle.ks_task_nodes.specs.Reach.{of_node}
use Rattle.ks_task_nodes.specs.Records.{arrival_of}
use Rattle.ks_task_values.specs.Values.{items_in, olds_in, news_in}
use Rattle.ks_task_processing.specs.Steps.{recs_by, late_by}
use Rattle.ks_cache.specs.Changelogs.{stores_in}
use Rattle.ks_task_step.proofs.Capping.{capped_itself}
use Rattle.ks_task_step.proofs.processing.push_changelog_records_at.Goals as goal

pub returns-in-Some-clause-out : goal.returns-in-Some-clause-out
returns-in-Some-clause-out c =
    let step = c.args.step.now in
    let values = c.args.values.now in
    subst (λ (o : Option TaskNode). OnOk c.push_changelog_records.result (c.push_changelog_records.new.out ≡ c.args.out.now
    ++ of_node (recs_by step.partition (stores_in step.changelogs.now) (arrival_of step.stamped.now) (items_in values) (olds_in values) (news_in values)) o))
    c.in-Some.ensures c.push_changelog_records.ensures.out

pub returns-in-Some-clause-late : goal.returns-in-Some-clause-late
returns-in-Some-clause-late c =
    let step = c.args.step.now in
    subst (λ (o : Option TaskNode). IfOk c.push_changelog_records.result (λ n. n ≡ capped (c.args.late + late_by (stores_in step.changelogs.now) (arrival_of step.stamped.now) (items_in c.args.values.now) o)))
    c.in-Some.ensures c.push_changelog_records.ensures.late

pub returns-in-None-clause-out : goal.returns-in-None-clause-out
returns-in-None-clause-out c =
    let step = c.args.step.now in
    let values = c.args.values.now in
    sym (append-nil c.args.out.now) ∙ ap (λ (o : Option TaskNode). c.args.out.now
    ++ of_node (recs_by step.partition (stores_in step.changelogs.now) (arrival_of step.stamped.now) (items_in values) (olds_in values) (news_in values)) o)
    c.in-None.ensures

pub returns-in-None-clause-late : goal.returns-in-None-clause-late
returns-in-None-clause-late c =
    let step = c.args.step.now in
    capped_itself c.args.late (omega (arith, c.ranges.late))
    ∙ ap (λ (o : Option TaskNode). capped (c.args.late + late_by (stores_in step.changelogs.now) (arrival_of step.stamped.now) (items_in c.args.values.now) o)) c.in-None.ensures
