use Rattle.ks_journal.proofs.StepReplies.{step_replies}
use Rattle.ks_journal.proofs.laws.a_step_has_its_reply.Goals as goal

pub returns : goal.returns
returns c = step_replies
