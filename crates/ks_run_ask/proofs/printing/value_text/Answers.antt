use Rattle.ks_run_ask.proofs.Shown.{text_is}
use Rattle.ks_run_ask.proofs.printing.value_text.Goals as goal

pub returns : goal.returns
returns c = text_is _ _ _ c.in_ok-shown.ensures c.in_ok-text.ensures.text
