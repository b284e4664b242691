use Rattle.std.proofs.lemmas.Result.{on_ok_weaker}
use Rattle.ks_journal.proofs.Appends.{entry_pushed}
use Rattle.ks_journal.proofs.printing.push_entry.Goals as goal

pub returns : goal.returns
returns c =
    on_ok_weaker c.push_byte-3.result
    (entry_pushed _ _ _ _ _ _ _ c.args.entry.now c.in_ok-push_byte.ensures c.in_ok-push_name.ensures c.in_ok-push_byte-2.ensures c.in_ok-push_arguments.ensures c.in_ok-push_reply.ensures)
    c.push_byte-3.ensures
