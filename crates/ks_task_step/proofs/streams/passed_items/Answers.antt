use Rattle.std.proofs.Common.{List, Option, map, sym, ap, ◌∙◌}
use Rattle.std.proofs.lemmas.Result.{IfOk-weaker}
use Rattle.ks_query.specs.Streams.{StreamItem}
use Rattle.ks_def_lookups.specs.Lists.{item_in}
use Rattle.ks_task_nodes.specs.Nodes.{node_view}
use Rattle.ks_task_nodes.specs.Records.{arrival_of}
use Rattle.ks_task_values.specs.Items.{views}
use Rattle.ks_task_values.specs.declared.items.Item.{Item}
use Rattle.ks_task_step.proofs.Quiet.{nothing_passed}
use Rattle.ks_task_step.proofs.streams.passed_items.Goals as goal

pub returns-then-not-has_stream : goal.returns-then-not-has_stream
returns-then-not-has_stream c =
    let step = c.args.step.now in
    ap (λ (is : List (Option Item)). item_in (views is)) c.new.ensures.items
    ∙ nothing_passed (arrival_of step.stamped.now) step.live.now (map node_view step.nodes.now) step.numbered step.reached (sym c.has_stream.ensures ∙ c.if-not-has_stream.true)

pub returns : goal.returns
returns c = IfOk-weaker c.items_of.result _ _ (λ v e. ap (λ (is : List (Option StreamItem)). item_in is) e) c.items_of.ensures
