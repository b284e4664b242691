use Rattle.std.proofs.Common.{◌≡◌, ◌++◌, Option, map, subst, sym, ap, ◌∙◌, append-nil}
use Rattle.std.specs.Prelude.{OnOk}
use Rattle.ks_def_tasks.specs.Rules.{rules_of}
use Rattle.ks_task_nodes.specs.Nodes.{TaskNode, node_view}
use Rattle.ks_task_nodes.specs.Reach.{of_node}
use Rattle.ks_task_nodes.specs.Records.{arrival_of}
use Rattle.ks_task_values.specs.Values.{items_in, olds_in, news_in}
use Rattle.ks_task_processing.specs.Steps.{sends_by}
use Rattle.ks_cache.specs.Changelogs.{stores_in}
use Rattle.ks_task_step.proofs.sends.push_sends_at.Goals as goal

pub returns-in-Some : goal.returns-in-Some
returns-in-Some g c =
    let step = c.args.step.now in
    let values = c.args.values.now in
    subst (λ (o : Option TaskNode). OnOk c.push_sends.result (c.push_sends.new.out ≡ c.args.out.now
    ++ of_node (sends_by (rules_of g.H.Hash128.hash_of) (map node_view step.nodes.now) (stores_in step.changelogs.now) step.partition (arrival_of step.stamped.now) (items_in values) (olds_in values) (news_in values)) o))
    c.in-Some.ensures c.push_sends.ensures

pub returns-in-None : goal.returns-in-None
returns-in-None g c =
    let step = c.args.step.now in
    let values = c.args.values.now in
    sym (append-nil c.args.out.now) ∙ ap (λ (o : Option TaskNode). c.args.out.now
    ++ of_node (sends_by (rules_of g.H.Hash128.hash_of) (map node_view step.nodes.now) (stores_in step.changelogs.now) step.partition (arrival_of step.stamped.now) (items_in values) (olds_in values) (news_in values)) o)
    c.in-None.ensures
