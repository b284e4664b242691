use Rattle.std.proofs.Common.{string_bytes}
use Rattle.std.proofs.lemmas.Result.{IfOk-weaker}
use Rattle.ks_job_record.proofs.Texts.{spelled}
use Rattle.ks_job_record.proofs.show.name_text.Goals as goal

pub returns-in_ok-try_from_str-in-Ok : goal.returns-in_ok-try_from_str-in-Ok
returns-in_ok-try_from_str-in-Ok c =
    IfOk-weaker c.to_string.result _ _ (λ s h. spelled c.args.name.now c.in-Ok.text.now (string_bytes s) _ c.in-Ok.ensures.cases.1 c.in-Ok.ensures.cases.0 c.in_ok-try_from_str-in-Ok.ensures h) c.to_string.ensures.text
