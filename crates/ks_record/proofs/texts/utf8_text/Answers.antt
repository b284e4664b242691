use Rattle.std.proofs.lemmas.Str.{is_utf8-from_IsUtf8}
use Rattle.ks_record.proofs.Utf8.{not_utf8}
use Rattle.ks_record.proofs.texts.utf8_text.Goals as goal

pub returns-in-Ok : goal.returns-in-Ok
returns-in-Ok c = let h = c.in-Ok.ensures.cases in (h.0, is_utf8-from_IsUtf8 c.args.bytes.now h.1)

pub returns-in-Err : goal.returns-in-Err
returns-in-Err c = not_utf8 c.args.bytes.now c.in-Err.ensures.cases.0
