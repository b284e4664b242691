use Rattle.std.proofs.Common.{rules}
use Rattle.ks_job_record.proofs.PlainFronts.{front_is}
use Rattle.ks_job_record.proofs.PlainGrammar.{line_front}
use Rattle.ks_job_record.proofs.PlainReadings.{plain_utf8}
use Rattle.ks_job_record.proofs.plain.split_front.Goals as goal

pub returns-clause-sound : goal.returns-clause-sound
returns-clause-sound c =
    front_is c.args.topics.now c.args.line.now c.in_ok-after.field-0.now c.in_ok-topic.topic.now c.in_ok-topic.rest.now c.in_ok-after-2.field-0.now c.in_ok-key.key.now c.in_ok-key.rest.now c.in_ok-rest.rest.now c.in-Ok.topic.now c.in_ok-topic-2.topic
    c.in_ok-after.ensures.sound c.in_ok-topic.ensures.sound c.in_ok-after-2.ensures.sound c.in_ok-key.ensures.sound c.in_ok-rest.ensures.sound (search rules) c.in_ok-topic-2.ensures (search rules) (search rules)

pub returns-clause-exact : goal.returns-clause-exact
returns-clause-exact c =
    line_front c.args.topics.now c.args.line.now c.in_ok-after.field-0.now c.in_ok-topic.topic.now c.in_ok-topic.rest.now c.in_ok-after-2.field-0.now c.in_ok-key.key.now c.in_ok-key.rest.now c.in_ok-rest.rest.now c.in-Ok.topic.now c.in_ok-topic-2.topic
    c.in_ok-after.ensures.exact c.in_ok-topic.ensures.exact c.in_ok-after-2.ensures.exact c.in_ok-key.ensures.exact c.in_ok-rest.ensures.exact (search rules) c.in_ok-topic-2.ensures (search rules) (search rules)

pub returns-in_default-clause-exact : goal.returns-in_default-clause-exact
returns-in_default-clause-exact c = absurd (c.in_default.ensures.cases.0 (plain_utf8 c.in_ok-topic.topic.now c.in_ok-topic.ensures.sound.plain))
