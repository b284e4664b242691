use Rattle.std.proofs.Common.{◌≡◌, List, Option, map, ap, sym, subst, ◌∙◌, refl}
use Rattle.std.specs.Prelude.{IfOk}
use Rattle.std.proofs.lemmas.Result.{IfOk-weaker}
use Rattle.ks_def_tasks.specs.Rules.{rules_of}
use Rattle.ks_def_tasks.specs.Step.{Values}
use Rattle.ks_def_lookups.specs.Lists.{item_in, value_in}
use Rattle.ks_task_nodes.specs.Nodes.{node_view}
use Rattle.ks_task_nodes.specs.Reach.{SameValues, values_at_numbers}
use Rattle.ks_task_nodes.specs.Records.{arrival_of}
use Rattle.ks_task_values.specs.Items.{views}
use Rattle.ks_task_values.specs.declared.live.LiveValue.{LiveValue}
use Rattle.ks_query.specs.Streams.{Key}
use Rattle.ks_task_values.specs.Values.{olds_at, live_olds, live_news, new_list}
use Rattle.ks_task_values.proofs.LiveValues.{values_are, values_same}
use Rattle.ks_task_values.proofs.values.live_values.Goals as goal

pub returns-in-Some-clause-news : goal.returns-in-Some-clause-news
returns-in-Some-clause-news g c =
    let step = c.args.step.now in
    let olds = olds_at step in
    let rules = rules_of g.H.Hash128.hash_of in
    let a = arrival_of step.stamped.now in
    let items = item_in (views c.args.items.now) in
    let nodes = map node_view step.nodes.now in
    subst (λ (f : Values). IfOk c.live_values_at.result (λ v. live_news olds v.items ≡ f))
    (values_are rules a items olds step.live.now nodes step.numbered step.reached c.requires ∙ ap (λ (k : Option Key). value_in olds (new_list rules a items olds k nodes)) c.in-Some.ensures)
    c.live_values_at.ensures.news

pub returns-in-Some-clause-same : goal.returns-in-Some-clause-same
returns-in-Some-clause-same g c =
    let step = c.args.step.now in
    let olds = olds_at step in
    let rules = rules_of g.H.Hash128.hash_of in
    let a = arrival_of step.stamped.now in
    let items = item_in (views c.args.items.now) in
    let nodes = map node_view step.nodes.now in
    let same = values_same rules a items olds step.live.now nodes step.numbered step.reached c.requires in
    IfOk-weaker c.live_values_at.result (λ v. live_news olds v.items ≡ values_at_numbers rules a items olds nodes olds step.live.now)
    (λ v. SameValues step.live.now olds (live_news olds v.items)) (λ v e. subst (SameValues step.live.now olds) (sym e) same) c.live_values_at.ensures.news

pub returns-in-None-clause-olds : goal.returns-in-None-clause-olds
returns-in-None-clause-olds g c = ap (λ (xs : List LiveValue). live_olds (olds_at c.args.step.now) xs) c.new.ensures.items

pub returns-in-None-clause-news : goal.returns-in-None-clause-news
returns-in-None-clause-news g c =
    let step = c.args.step.now in
    let olds = olds_at step in
    ap (λ (xs : List LiveValue). live_news olds xs) c.new.ensures.items
    ∙ ap (λ (k : Option Key). value_in olds (new_list (rules_of g.H.Hash128.hash_of) (arrival_of step.stamped.now) (item_in (views c.args.items.now)) olds k (map node_view step.nodes.now))) c.in-None.ensures

pub returns-in-None-clause-same : goal.returns-in-None-clause-same
returns-in-None-clause-same g c =
    let olds = olds_at c.args.step.now in
    subst (λ (xs : List LiveValue). SameValues c.args.step.now.live.now olds (live_news olds xs)) (sym c.new.ensures.items) (λ f apart. refl)
