use Rattle.std.proofs.lemmas.Result.{on_ok_weaker}
use Rattle.ks_journal.proofs.Appends.{hex_pushed}
use Rattle.ks_journal.proofs.values.push_some_bytes.Goals as goal

pub returns : goal.returns
returns c = on_ok_weaker c.push_byte-2.result (hex_pushed _ _ _ _ c.args.bytes.now c.in_ok-push_byte.ensures c.in_ok-push_hex.ensures) c.push_byte-2.ensures
