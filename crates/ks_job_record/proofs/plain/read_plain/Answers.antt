use Rattle.std.proofs.lemmas.Option.{IfSome_then}
use Rattle.std.proofs.lemmas.Result.{IfOk-weaker}
use Rattle.ks_job_record.proofs.PlainRecords.{deletion_says}
use Rattle.ks_job_record.proofs.plain.read_plain.Goals as goal

pub returns-in-Some-after-clause-says : goal.returns-in-Some-after-clause-says
returns-in-Some-after-clause-says c =
    IfOk-weaker c.end_record.result _ _
    (λ o h. IfSome_then o h (λ i ends. deletion_says c.args.topics.now c.args.line.now c.in-Some.front.topic c.in-Some.front.key.now c.in-Some.front.rest.now c.in-Some-after.rest.now i c.in-Some.ensures.sound c.in-Some-after.ensures.sound ends))
    c.end_record.ensures.sound
