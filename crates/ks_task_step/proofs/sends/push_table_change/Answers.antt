use Rattle.std.proofs.Common.{◌++◌, ap, sym, ◌∙◌, append-nil}
use Rattle.std.specs.List.{flat_map}
use Rattle.std.specs.Prelude.{option_copied}
use Rattle.ks_def_tasks.specs.Step.{row_in}
use Rattle.ks_task_nodes.specs.Nodes.{node_view}
use Rattle.ks_task_values.specs.Values.{olds_in, news_in}
use Rattle.ks_task_processing.specs.Steps.{sent_by}
use Rattle.ks_task_step.proofs.Looking.{nothing_moved}
use Rattle.ks_task_step.proofs.sends.push_table_change.Goals as goal

pub returns-else-is_changed : goal.returns-else-is_changed
returns-else-is_changed c =
    let values = c.args.values.now in
    let none = nothing_moved c.args.by.now (option_copied c.args.field) c.args.node.now.topics.number (row_in (olds_in values) c.args.from) (row_in (news_in values) c.args.from) (sym c.is_changed.ensures ∙ c.if-is_changed.false) in
    sym (append-nil c.args.out.now) ∙ ap (λ xs. c.args.out.now ++ flat_map (sent_by (node_view c.args.node.now) c.args.time) xs) (sym none)
