use Rattle.std.proofs.lemmas.Result.{on_ok_weaker}
use Rattle.ks_journal.specs.Lines.{whole, task_data}
use Rattle.ks_journal.proofs.Appends.{four_fields}
use Rattle.ks_journal.proofs.fields.task_work_fields.Goals as goal

pub returns : goal.returns
returns c =
    on_ok_weaker c.task_field.result
    (four_fields _ _ _ _ _ (whole c.args.w) (whole c.args.epoch) (whole c.args.number) (task_data c.args.task) c.in_ok-number_field.ensures c.in_ok-number_field-2.ensures c.in_ok-number_field-3.ensures)
    c.task_field.ensures
