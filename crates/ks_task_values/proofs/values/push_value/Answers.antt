use Rattle.std.proofs.Common.{List, ap, ap₂, sym, ◌∙◌}
use Rattle.ks_query.specs.Query.{with_number}
use Rattle.ks_def_tasks.specs.Rules.{rules_of}
use Rattle.ks_def_tasks.specs.Step.{Values, value_at}
use Rattle.ks_def_lookups.specs.Lists.{item_in}
use Rattle.ks_task_nodes.specs.Nodes.{kind_of}
use Rattle.ks_task_nodes.specs.Records.{arrival_of}
use Rattle.ks_task_values.specs.Items.{views}
use Rattle.ks_task_values.specs.declared.live.LiveValue.{LiveValue}
use Rattle.ks_task_values.specs.Values.{olds_at, live_olds, live_news}
use Rattle.ks_task_values.proofs.LiveValues.{olds_more, news_more}
use Rattle.ks_task_values.proofs.values.push_value.Goals as goal

pub new_value-requires : goal.new_value-requires
new_value-requires g c =
    let olds = olds_at c.args.step.now in
    let n = c.args.node.now.topics.number in
    c.stored_value-old.ensures ∙ (c.requires.node ∙ sym (ap (λ (f : Values). f n) (ap (λ (xs : List LiveValue). live_olds olds xs) c.as_slice.ensures.value ∙ c.requires.olds)))

pub returns-clause-olds : goal.returns-clause-olds
returns-clause-olds g c =
    olds_more (olds_at c.args.step.now) c.args.live.now.items c.push.new.self.items _ c.in_ok-push.ensures.items c.requires.olds (c.stored_value-old.ensures ∙ c.requires.node)

pub returns-clause-news : goal.returns-clause-news
returns-clause-news g c =
    let step = c.args.step.now in
    let olds = olds_at step in
    let n = c.args.node.now.topics.number in
    news_more olds c.args.live.now.items c.push.new.self.items _ c.in_ok-push.ensures.items
    ∙ ap (with_number (live_news olds c.args.live.now.items) n)
    (c.in_ok-new.ensures
    ∙ ap₂ (λ (o m : Values). value_at (rules_of g.H.Hash128.hash_of) (arrival_of step.stamped.now) (item_in (views c.args.items.now)) o m n (kind_of c.args.node.now.processor))
    (ap (λ (xs : List LiveValue). live_olds olds xs) c.as_slice.ensures.value ∙ c.requires.olds) (ap (λ (xs : List LiveValue). live_news olds xs) c.as_slice.ensures.value))
