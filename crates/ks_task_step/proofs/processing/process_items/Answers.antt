use Rattle.std.proofs.Common.{◌≡◌, ◌++◌, List, map, subst, sym, ap, ap₂, ◌∙◌}
use Rattle.std.specs.Prelude.{OnOk}
use Rattle.ks_record.specs.Records.{Record as Rec}
use Rattle.ks_record.specs.declared.record.PartId.{PartId}
use Rattle.ks_def_tasks.specs.Rules.{rules_of}
use Rattle.ks_def_tasks.specs.Step.{Values}
use Rattle.ks_def_lookups.specs.Lists.{item_in}
use Rattle.ks_task_nodes.specs.Nodes.{node_view}
use Rattle.ks_task_nodes.specs.Reach.{SameValues}
use Rattle.ks_task_nodes.specs.Records.{arrival_of}
use Rattle.ks_task_values.specs.Items.{views}
use Rattle.ks_cache.specs.Changelogs.{stores_in}
use Rattle.ks_task_values.specs.declared.live.LiveValue.{LiveValue}
use Rattle.ks_task_values.specs.Values.{olds_at, live_olds, live_news}
use Rattle.ks_task_processing.specs.Steps.{made_with}
use Rattle.ks_task_step.proofs.processing.process_items.Goals as goal

pub push_output-requires-clause-quiet : goal.push_output-requires-clause-quiet
push_output-requires-clause-quiet g c =
    let step = c.args.step.now in
    let olds = olds_at step in
    record {
      none = c.requires.items;
      same = subst (λ (xs : List LiveValue). SameValues step.live.now (live_olds olds xs) (live_news olds xs)) (sym c.as_slice.ensures.value)
          (subst (λ (o : Values). SameValues step.live.now o (live_news olds c.in_ok-live.live.items)) (sym c.in_ok-live.ensures.olds) c.in_ok-live.ensures.same);
    }

pub returns-clause-records : goal.returns-clause-records
returns-clause-records g c =
    let step = c.args.step.now in
    let olds = olds_at step in
    let nodes = map node_view step.nodes.now in
    let items = item_in (views c.args.items.now) in
    subst (λ (xs : List (PartId × Rec)). OnOk c.push_output.result (c.push_output.new.out ≡ c.args.out.now ++ xs))
    (ap₂ (λ (o n : Values). made_with (rules_of g.H.Hash128.hash_of) nodes (stores_in step.changelogs.now) step.partition (arrival_of step.stamped.now) items o n)
    (ap (λ (xs : List LiveValue). live_olds olds xs) c.as_slice.ensures.value ∙ c.in_ok-live.ensures.olds)
    (ap (λ (xs : List LiveValue). live_news olds xs) c.as_slice.ensures.value ∙ c.in_ok-live.ensures.news))
    c.push_output.ensures.records
