use Rattle.std.proofs.Common.{◌≡◌, Option, subst, sym, ◌∙◌}
use Rattle.std.specs.Prelude.{IfOk, option_map}
use Rattle.ks_def_tasks.specs.Messages.{Stored, shown}
use Rattle.ks_cache.specs.Changelogs.{stores_in}
use Rattle.ks_task_step.proofs.Looking.{node_there}
use Rattle.ks_task_step.proofs.foreign.right_row.Goals as goal

pub returns-in-Some : goal.returns-in-Some
returns-in-Some c =
    let step = c.args.step.now in
    subst (λ (o : Option Stored). IfOk c.stored_row.result (λ r. r ≡ option_map shown o))
    (c.stored_value.ensures ∙ sym (node_there (stores_in step.changelogs.now) c.args.foreign.now step.nodes.now c.args.right c.in-Some.ensures.lookup.3.0 c.in-Some.node.now c.in-Some.ensures.lookup.3.1))
    c.stored_row.ensures
