use Rattle.std.proofs.Common.{List, ap, sym, ◌∙◌}
use Rattle.ks_def_tasks.specs.Rules.{rules_of}
use Rattle.ks_def_lookups.specs.Lists.{item_in}
use Rattle.ks_task_nodes.specs.Nodes.{kind_of}
use Rattle.ks_task_nodes.specs.Records.{arrival_of}
use Rattle.ks_task_values.specs.Items.{views}
use Rattle.ks_task_values.specs.declared.live.LiveValue.{LiveValue}
use Rattle.ks_task_values.specs.Values.{olds_at, is_still}
use Rattle.ks_task_values.proofs.Staying.{news_stay}
use Rattle.ks_task_values.proofs.values.push_live_value.Goals as goal

pub returns-then-still-clause-news : goal.returns-then-still-clause-news
returns-then-still-clause-news g c =
    let step = c.args.step.now in
    let node = c.args.node.now in
    let a = arrival_of step.stamped.now in
    news_stay (rules_of g.H.Hash128.hash_of) a (item_in (views c.args.items.now)) (olds_at step) c.args.live.now.items node.topics.number (kind_of node.processor) c.requires.olds
    (ap (λ (xs : List LiveValue). is_still a (olds_at step) xs node.topics.number (kind_of node.processor)) (sym c.as_slice.ensures.value) ∙ (sym c.in_ok-still.ensures ∙ c.if-still.true))
