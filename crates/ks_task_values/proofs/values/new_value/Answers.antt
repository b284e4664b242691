use Rattle.std.proofs.Common.{◌≡◌, sym, subst}
use Rattle.std.specs.Prelude.{IfOk}
use Rattle.ks_def_tasks.specs.Step.{value_at}
use Rattle.ks_task_nodes.specs.declared.processor.Processor.{Processor}
use Rattle.ks_def_tasks.specs.Rules.{rules_of}
use Rattle.ks_task_nodes.specs.Nodes.{kind_of}
use Rattle.ks_task_nodes.specs.Records.{arrival_of}
use Rattle.ks_task_nodes.specs.Stored.{value_view}
use Rattle.ks_task_values.specs.Values.{items_in, olds_in, news_in}
use Rattle.ks_task_values.proofs.values.new_value.Goals as goal

pub returns-in-TableMap : goal.returns-in-TableMap
returns-in-TableMap g c =
    let values = c.args.values.now in
    subst (λ (p : Processor). IfOk c.map_value.result (λ v. value_view v ≡ value_at (rules_of g.H.Hash128.hash_of) (arrival_of c.args.stamped.now) (items_in values) (olds_in values) (news_in values) c.args.node.now.topics.number (kind_of p))) (sym c.in-TableMap.is) c.map_value.ensures
