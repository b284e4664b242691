use Rattle.std.proofs.Common.{ap, ◌∙◌}
use Rattle.ks_def_tasks.specs.Messages.{same_row}
use Rattle.ks_task_values.proofs.Compared.{same_rows}
use Rattle.ks_task_values.proofs.changes.is_same_row.Goals as goal

pub returns : goal.returns
returns c =
    c.is_spelling.ensures
    ∙ (same_rows c.as_bytes.result.now c.args.a.now _ c.as_bytes.ensures.bytes c.as_bytes.ensures.fits
    ∙ ap (λ r. same_row c.args.a.now r) c.of_row.ensures)
