use Rattle.std.proofs.Common.{arith}
use Rattle.std.proofs.lemmas.Result.{on_ok_weaker}
use Rattle.ks_journal.proofs.Appends.{task_pushed}
use Rattle.ks_journal.proofs.values.push_task.Goals as goal

pub returns : goal.returns
returns c =
    on_ok_weaker c.push_byte-3.result
    (task_pushed _ _ _ _ _ _ c.args.task (omega arith) (omega arith) c.in_ok-push_byte.ensures c.in_ok-push_number.ensures c.in_ok-push_byte-2.ensures c.in_ok-push_number-2.ensures)
    c.push_byte-3.ensures
