use Rattle.std.proofs.Common.{◌≡◌, Option, map, ap, sym, subst}
use Rattle.std.specs.Prelude.{OnOk}
use Rattle.ks_def_tasks.specs.Rules.{rules_of}
use Rattle.ks_def_tasks.specs.Step.{step_key}
use Rattle.ks_def_lookups.specs.Lists.{item_in}
use Rattle.ks_task_nodes.specs.Nodes.{TaskNode, node_view}
use Rattle.ks_task_nodes.specs.Reach.{valued_by}
use Rattle.ks_task_nodes.specs.Records.{arrival_of, message_of}
use Rattle.ks_task_values.specs.Items.{views}
use Rattle.ks_cache.specs.Changelogs.{stores_in}
use Rattle.ks_task_values.specs.Values.{olds_at, live_news}
use Rattle.ks_task_values.proofs.LiveValues.{stored_there}
use Rattle.ks_task_values.proofs.values.push_live_at.Goals as goal

pub push_live_value-requires-clause-node : goal.push_live_value-requires-clause-node
push_live_value-requires-clause-node g c =
    let step = c.args.step.now in
    let nodes = map node_view step.nodes.now in
    stored_there (stores_in step.changelogs.now) c.args.key.now (step_key (message_of step.stamped.now.payload)) nodes c.args.number (node_view c.in-Some.node.now) step.numbered (sym c.in-Some.ensures) c.requires.key

pub returns-in-Some-clause-news : goal.returns-in-Some-clause-news
returns-in-Some-clause-news g c =
    let step = c.args.step.now in
    let olds = olds_at step in
    subst (λ (f : Option TaskNode). OnOk c.push_live_value.result (live_news olds c.push_live_value.new.live.items
    ≡ valued_by (rules_of g.H.Hash128.hash_of) (arrival_of step.stamped.now) (item_in (views c.args.items.now)) olds (live_news olds c.args.live.now.items) f))
    c.in-Some.ensures c.push_live_value.ensures.news

pub returns-in-None-clause-news : goal.returns-in-None-clause-news
returns-in-None-clause-news g c =
    let step = c.args.step.now in
    let olds = olds_at step in
    ap (λ (f : Option TaskNode). valued_by (rules_of g.H.Hash128.hash_of) (arrival_of step.stamped.now) (item_in (views c.args.items.now)) olds (live_news olds c.args.live.now.items) f) c.in-None.ensures
